-- Words and bodies determine one another.
use Rattle.std.specs.Prelude.{◌≡◌, ℕ, List}
use Rattle.weight.specs.Words.{Writing}
use Rattle.picture.specs.Bodies.{Body}
use Rattle.words.specs.Format.{SpellsBody}
use Rattle.words.specs.Faults.{Refused}
use Rattle.words.specs.declared.fault.Fault.{Fault}

-- equal words mean equal bodies
abbrev pub OneBody : {W : Type 0} → Writing W → Type 0
OneBody {W} s = (a b : Body W) (given : List ℕ) → SpellsBody s a given → SpellsBody s b given → a ≡ b

-- words with a fault are those of no body
abbrev pub NoBody : {W : Type 0} → Writing W → Type 0
NoBody {W} s = (given : List ℕ) (f : Fault) → Refused s given f → (b : Body W) → SpellsBody s b given → ⊥

-- words have one fault at most
abbrev pub OneFault : {W : Type 0} → Writing W → Type 0
OneFault s = (given : List ℕ) (e f : Fault) → Refused s given e → Refused s given f → e ≡ f
