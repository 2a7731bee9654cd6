-- What the public calls do.
use Rattle.std.specs.Prelude.{◌≡◌, ℕ, ◌<◌, List, ◌++◌, length, drop, Ok, Err, Result, MatchResult}
use Rattle.weight.specs.Words.{Writing}
use Rattle.picture.specs.Bodies.{Body}
use Rattle.picture.specs.Stored.{stored, Kept}
use Rattle.picture.specs.declared.body.Record.{Record}
use Rattle.words.specs.Format.{words_of, SpellsBody}
use Rattle.words.specs.Faults.{Refused, Unwritten}
use Rattle.words.specs.declared.fault.Fault.{Fault}
use Rattle.words.specs.declared.fault.TripFault.{TripFault}
use Rattle.words.specs.declared.fault.TripFault.TheVariants.{Read, Write}
use Rattle.words.specs.declared.fault.WriteFault.{WriteFault}

-- what is read is a body with these words; a refusal names the fault of these words, and changes no weight
abbrev pub ReadInto : {W : Type 0} → Writing W → (given : List ℕ) (before after : List W) → Result Record Fault → Type 0
ReadInto s given before after r = MatchResult r (λ place. Kept place × SpellsBody s (stored place after) given) (λ f. Refused s given f × (after ≡ before))

-- the words of a body are accepted, and that body is held then
abbrev pub Accepts : {W : Type 0} → Writing W → (given : List ℕ) (after : List W) → Result Record Fault → Type 0
Accepts {W} s given after r = (b : Body W) → SpellsBody s b given → (place : Record) × (r ≡ Ok place) × (stored place after ≡ b)

-- words with a fault are refused with it
abbrev pub Refuses : {W : Type 0} → Writing W → (given : List ℕ) → Result Record Fault → Type 0
Refuses s given r = (f : Fault) → Refused s given f → r ≡ Err f

-- the words go to the front, and their count is answered; a refusal changes nothing
abbrev pub Wrote : {W : Type 0} → Writing W → (words out out' : List ℕ) → Result ℕ WriteFault → Type 0
Wrote s words out out' r =
    MatchResult r (λ k. (s.width < 9) × (k ≡ length words) × (out' ≡ words ++ drop k out)) (λ f. Unwritten s (length words) (length out) f × (out' ≡ out))

-- the fault of words that are read and written again; if they cannot be read, no weight is changed
abbrev pub Unrepeated : {W : Type 0} → Writing W → (given out : List ℕ) (before after : List W) → TripFault → Type 0
Unrepeated s given out before after (Read f) = Refused s given f × (after ≡ before)
Unrepeated s given out before after (Write f) = Unwritten s (length given) (length out) f

-- words that are read and written again are the same
abbrev pub Rewritten : {W : Type 0} → Writing W → (given out out' : List ℕ) (before after : List W) → Result ℕ TripFault → Type 0
Rewritten s given out out' before after r = MatchResult r (λ k. (k ≡ length given) × (out' ≡ given ++ drop k out)) (λ f. Unrepeated s given out before after f × (out' ≡ out))

-- a body that is written and read again is the same
abbrev pub Reread : {W : Type 0} → Writing W → Body W → (out out' : List ℕ) (before after : List W) → Result Record WriteFault → Type 0
Reread s b out out' before after r =
    MatchResult r (λ place. Kept place × (stored place after ≡ b) × (out' ≡ words_of s b ++ drop (length (words_of s b)) out))
    (λ f. Unwritten s (length (words_of s b)) (length out) f × (out' ≡ out) × (after ≡ before))

-- the weights hold a body with these words
abbrev pub Held : {W : Type 0} → Writing W → (given : List ℕ) (after : List W) → Type 0
Held s given after = (place : Record) × Kept place × SpellsBody s (stored place after) given

-- the weights hold the body of the words, unless these cannot be read
abbrev pub HeldUnlessUnread : {W : Type 0} → Writing W → (given : List ℕ) (after : List W) → Result ℕ TripFault → Type 0
HeldUnlessUnread s given after (Ok _) = Held s given after
HeldUnlessUnread s given after (Err (Write _)) = Held s given after
HeldUnlessUnread s given after (Err (Read _)) = Unit {0}
