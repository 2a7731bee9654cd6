-- Devices of the contracts of private functions, and of no others.
use Rattle.std.specs.Prelude.{◌≡◌, ◌+◌, List, ◌++◌, length, take}
use Rattle.std.specs.List.{zip}
use Rattle.picture.specs.Bodies.{Edge}
use Rattle.product.specs.declared.pairs.Pairs.{Pairs}

-- the arcs that were written, with their weights
abbrev pub held : {W : Type 0} → Pairs W → List (Edge W)
held p = zip (take p.count p.arcs.now) (take p.count p.weights.now)

-- from a to b these arcs and weights were written behind the others, into the same memory
pub record Appended {W : Type 0} (es : List (Edge W)) (a b : Pairs W) : Type 0 where
  pub count : b.count ≡ a.count + length es
  pub adds : held b ≡ held a ++ es
  pub long : length b.arcs.now ≡ length a.arcs.now
  pub arcs : b.arcs.ghost_name ≡ a.arcs.ghost_name
  pub weights : b.weights.ghost_name ≡ a.weights.ghost_name
