-- Bodies: weighted automata over quadrants.
use Rattle.std.specs.Prelude.{◌≡◌, ℕ, ◌<◌, List, length}
use Rattle.std.specs.List.{AllByRecursion}
use Rattle.picture.specs.declared.body.Arc.{Arc}

-- an arc with its weight
abbrev pub Edge : Type 0 → Type 0
Edge W = Arc × W

-- states, a first and a last weight for each, and arcs in order
pub record Body (W : Type 0) : Type 0 where
  pub states : ℕ
  pub first : List W
  pub last : List W
  pub arcs : List (Edge W)

-- both ends of an arc are states
abbrev pub Within : ℕ → Arc → Type 0
Within n a = (a.from < n) × (a.to < n)

-- a weight of either sort for each state, and arcs between states
pub record Sound {W : Type 0} (b : Body W) : Type 0 where
  pub firsts : length b.first ≡ b.states
  pub lasts : length b.last ≡ b.states
  pub ends : AllByRecursion (λ e. Within b.states e.0) b.arcs
