-- What holds of every script.
use Rattle.std.specs.Prelude.{◌≡◌, ℕ, ◌≤◌, true, List, [], map, length, is_ok, Ok, Err, Result}
use Rattle.recipe.specs.declared.fault.Fault.{Fault}
use Rattle.recipe.specs.declared.place.Place.{Place}
use Rattle.recipe.specs.declared.step.Recipe.{Recipe}
use Rattle.recipe.specs.Trees.{script, Tree, text}
use Rattle.recipe.specs.Steps.{steps, listed, Carries}
use Rattle.recipe.specs.Limits.{max_bytes, counted}
use Rattle.recipe.specs.Outcomes.{Spells, Outcome}
use Rattle.recipe.specs.Expressions.{lines}
use Rattle.recipe.specs.Evaluations.{Operations, run_lines, carry}

-- a text has at most one tree
abbrev pub OneTree : Type 0
OneTree = (t u : Tree script) → text t ≡ text u → t ≡ u

-- the bytes of a tree, counted with their limits, are its text
abbrev pub CountedText : Type 0
CountedText = (t : Tree script) → map (λ b. b.code) (counted t 0 0) ≡ text t

-- two answers are the same: the same steps, or the same fault with the same byte
abbrev pub Same : Result Recipe Fault → Result Recipe Fault → Type 0
Same (Ok r) (Ok s) = listed r ≡ listed s
Same (Ok r) (Err f) = ⊥
Same (Err f) (Ok s) = ⊥
Same (Err f) (Err g) = f ≡ g

-- a script has one answer
abbrev pub OneAnswer : Type 0
OneAnswer = (src : List ℕ) (r s : Result Recipe Fault) → Outcome src r → Outcome src s → Same r s

-- src is the text of a tree within the limits
abbrev pub Sound : List ℕ → Type 0
Sound src = (length src ≤ max_bytes) × ((t : Tree script) × Spells t src)

-- a script is accepted exactly if it is the text of a tree within the limits
abbrev pub AcceptedExactly : Type 0
AcceptedExactly =
    (src : List ℕ) (r : Result Recipe Fault) → Outcome src r → (is_ok r ≡ true → Sound src) × (Sound src → is_ok r ≡ true)

-- the steps of an accepted script can be carried out, from no waiting picture to none, and are no more than its bytes
abbrev pub StepsCarry : Type 0
StepsCarry = (src : List ℕ) (r : Recipe) → Outcome src (Ok r) → Carries 0 (listed r) 0 × (length (listed r) ≤ length src)

-- carrying out the steps of a script does what its lines say, whatever the values V, refusals E and operations are
abbrev pub StepsAgree : Type 0 → Type 0 → Type 0
StepsAgree V E = (o : Operations V E) (at : Place → V) (t : Tree script) → carry o (steps t 0) [] at ≡ run_lines o (lines t) at
