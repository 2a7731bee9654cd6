-- Steps carried out on the places and the bodies that wait.
use Rattle.std.specs.Prelude.{◌≡◌, ℕ, ◌+◌, ◌-◌, List, [], ◌∷◌, Some, None, Ok, Err, Option, Result, MatchResult}
use Rattle.weight.specs.Kinds.{Kind}
use Rattle.picture.specs.Bodies.{Body}
use Rattle.recipe.specs.Evaluations.{Ran, one_more, stops, carry}
use Rattle.recipe.specs.Steps.{Carries}
use Rattle.recipe.specs.declared.place.Place.{Place}
use Rattle.recipe.specs.declared.step.Step.{Step}
use Rattle.recipe.specs.declared.step.Step.TheVariants.{Name, Turn, Mirror, Zoom, Add, Multiply, Piece, Store}
use Rattle.stack.specs.Drawing.{drawing}
use Rattle.stack.specs.declared.fault.LineFault.{LineFault}
use Rattle.stack.specs.declared.fault.StepFault.{StepFault}

-- how many bodies wait after a step
abbrev pub left_waiting : Step → ℕ → ℕ
left_waiting (Name p) h = h + 1
left_waiting Turn h = h
left_waiting Mirror h = h
left_waiting (Zoom d) h = h
left_waiting (Add i) h = h - 1
left_waiting (Multiply i) h = h - 1
left_waiting (Piece i) h = h - 3
left_waiting (Store p) h = h - 1

-- enough bodies wait for a step, and not too many after it
abbrev pub Fits : Step → ℕ → Type 0
Fits s h = Carries h (s ∷ []) (left_waiting s h)

-- what comes behind a step: one that stores ends its line
abbrev pub counted : {V E : Type 0} → Step → Ran V E → Ran V E
counted (Name p) r = r
counted Turn r = r
counted Mirror r = r
counted (Zoom d) r = r
counted (Add i) r = r
counted (Multiply i) r = r
counted (Piece i) r = r
counted (Store p) r = one_more r

-- whatever steps come behind it, a step leads from the bodies `at` and the waiting bodies ws to the bodies `to` and the waiting bodies after; or it stops, and no place is changed
abbrev pub Stepped : {W : Type 0} → Kind W → Step → (at to : Place → Body W) → (ws after : List (Body W)) → Result (Unit {0}) StepFault → Type 0
Stepped k s at to ws after r =
    MatchResult r (λ _. (ss : List Step) → carry (drawing k) (s ∷ ss) ws at ≡ counted s (carry (drawing k) ss after to))
    (λ f. ((ss : List Step) → carry (drawing k) (s ∷ ss) ws at ≡ stops at f) × (to ≡ at))

-- the number of lines that were done, or the fault of the next
abbrev pub lines_done : ℕ → Option StepFault → Result ℕ LineFault
lines_done n None = Ok n
lines_done n (Some f) = Err (record { line = n; step = f })

-- what a script came to: the bodies after it, and the answer
abbrev pub Performed : {W : Type 0} → Ran (Body W) StepFault → (after : Place → Body W) → Result ℕ LineFault → Type 0
Performed ran after r = (ran.after ≡ after) × (r ≡ lines_done ran.done ran.stop)
