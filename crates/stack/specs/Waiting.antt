-- The bodies that wait in the working bays.
use Rattle.std.specs.Prelude.{◌≡◌, ℕ, zero, suc, ◌+◌, ◌*◌, ◌<◌, List, [], ◌∷◌, Ok, Err, Result, MatchResult, slice_index_or}
use Rattle.std.specs.List.{between}
use Rattle.picture.specs.Bodies.{Body}
use Rattle.picture.specs.Stored.{stored, Kept}
use Rattle.picture.specs.declared.body.Record.{Record}
use Rattle.compose.specs.declared.limits.Fault.{Fault}
use Rattle.stack.specs.Drawing.{blank}
use Rattle.stack.specs.declared.fault.StepFault.{StepFault}

-- the 640 weights of slot i
abbrev pub bay : {W : Type 0} → ℕ → List W → List W
bay i memory = between (640 * i) (640 * i + 640) memory

-- no states and no arcs
abbrev pub no_record : Record
no_record = record { states = 0; count = 0; arcs = [] }

-- the bodies of the lowest h slots, the latest first
abbrev pub waiting : {W : Type 0} → ℕ → List Record → List W → List (Body W)
waiting zero rs work = []
waiting (suc h) rs work = stored (slice_index_or rs h no_record) (bay h work) ∷ waiting h rs work

-- the body that waits at i, the latest at 0
abbrev pub body_at : {W : Type 0} → List (Body W) → ℕ → Body W
body_at ws i = slice_index_or ws i blank

-- each of the lowest h records is within the limits
abbrev pub KeptBelow : ℕ → List Record → Type 0
KeptBelow h rs = (i : ℕ) → i < h → Kept (slice_index_or rs i no_record)

-- the fault of a step, or its body in place of those that it took
abbrev pub Drawn : {W : Type 0} → Result (Body W) StepFault → (rest after : List (Body W)) → Result (Unit {0}) StepFault → Type 0
Drawn {W} drawn rest after r = MatchResult r (λ _. (b : Body W) × (drawn ≡ Ok b) × (after ≡ b ∷ rest)) (λ f. drawn ≡ Err f)

-- the fault with its mark, or the record's body over the rest
abbrev pub Settled : {W : Type 0} → Result Record Fault → ℕ → List W → (rest after : List (Body W)) → Result (Unit {0}) StepFault → Type 0
Settled (Ok p) mark weights rest after r = (r ≡ Ok tt) × (after ≡ stored p weights ∷ rest)
Settled (Err f) mark weights rest after r = r ≡ Err (record { mark = mark; fault = f })
