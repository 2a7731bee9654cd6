-- What an operation answers, and what it writes.
use Rattle.std.specs.Prelude.{◌≡◌, List, Some, None, Option, Result, MatchResult}
use Rattle.picture.specs.Bodies.{Body}
use Rattle.picture.specs.Stored.{stored, Kept}
use Rattle.picture.specs.declared.body.Record.{Record}
use Rattle.compose.specs.declared.limits.Fault.{Fault}

-- the record, with the weights, is the body
pub record Made {W : Type 0} (fault : Option Fault) (b : Body W) (after : List W) (r : Record) : Type 0 where
  pub accepted : fault ≡ None
  pub body : stored r after ≡ b
  pub kept : Kept r

-- nothing is written
pub record Refused {W : Type 0} (fault : Option Fault) (before after : List W) (f : Fault) : Type 0 where
  pub because : fault ≡ Some f
  pub unchanged : after ≡ before

-- the fault if there is one, the body otherwise
abbrev pub Outcome : {W : Type 0} → Option Fault → Body W → (before after : List W) → Result Record Fault → Type 0
Outcome fault b before after r = MatchResult r (Made fault b after) (Refused fault before after)
