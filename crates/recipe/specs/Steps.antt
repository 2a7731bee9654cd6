-- The steps of a tree, in the order in which they are carried out.
use Rattle.std.specs.Prelude.{◌≡◌, ℕ, ◌+◌, ◌-◌, ◌≤◌, List, [], ◌∷◌, ◌++◌, length, take}
use Rattle.recipe.specs.declared.step.Step.{Step}
use Rattle.recipe.specs.declared.step.Step.TheVariants.{Name, Turn, Mirror, Zoom, Add, Multiply, Piece, Store}
use Rattle.recipe.specs.declared.step.Recipe.{Recipe}
use Rattle.recipe.specs.Trees.{Cat, Prefix, turn, mirror, zoom, Tree, one, plus, single, times, name, prefixed, round, pieces, closes, row, blank, next, spelled, text}
use Rattle.recipe.specs.Limits.{max_waiting}

-- the step of a prefix
abbrev pub step_of : Prefix → Step
step_of turn = Turn
step_of mirror = Mirror
step_of (zoom d) = Zoom d

-- The steps of a tree whose first byte is byte i of the script. `Add`, `Multiply` and `Piece` have the byte index of
-- their '+', '*' and ']'.
abbrev pub steps : {c : Cat} → Tree c → ℕ → List Step
steps (one p) i = steps p i
steps (plus s p) i = steps s i ++ (steps p (i + length (text s) + 1) ++ Add (i + length (text s)) ∷ [])
steps (single p) i = steps p i
steps (times q p) i = steps q i ++ (steps p (i + length (text q) + 1) ++ Multiply (i + length (text q)) ∷ [])
steps (name k) i = Name k ∷ []
steps (prefixed o p) i = steps p (i + length (spelled o)) ++ step_of o ∷ []
steps (round s) i = steps s (i + 1)
steps (pieces x y z u) i =
    steps x (i + 1) ++
    (steps y (i + 1 + length (text x)) ++
    (steps z (i + 1 + length (text x) + length (text y)) ++
    (steps u (i + 1 + length (text x) + length (text y) + length (text z)) ++
    Piece (i + length (text x) + length (text y) + length (text z) + length (text u)) ∷ [])))
steps (closes b s) i = steps s i
steps (row k s) i = steps s (i + 2) ++ Store k ∷ []
steps blank i = []
steps (next s r) i = steps s i ++ steps r (i + length (text s))

-- the steps that a recipe holds
abbrev pub listed : Recipe → List Step
listed r = take r.count r.steps

-- where w pictures wait, these steps can be carried out one after the other, never with more than six waiting, and
-- v wait then
abbrev pub Carries : ℕ → List Step → ℕ → Type 0
Carries w [] v = w ≡ v
Carries w (Name k ∷ ss) v = (w + 1 ≤ max_waiting) × Carries (w + 1) ss v
Carries w (Turn ∷ ss) v = (1 ≤ w) × Carries w ss v
Carries w (Mirror ∷ ss) v = (1 ≤ w) × Carries w ss v
Carries w (Zoom d ∷ ss) v = (1 ≤ w) × Carries w ss v
Carries w (Add i ∷ ss) v = (2 ≤ w) × Carries (w - 1) ss v
Carries w (Multiply i ∷ ss) v = (2 ≤ w) × Carries (w - 1) ss v
Carries w (Piece i ∷ ss) v = (4 ≤ w) × Carries (w - 3) ss v
Carries w (Store k ∷ ss) v = (1 ≤ w) × Carries (w - 1) ss v
