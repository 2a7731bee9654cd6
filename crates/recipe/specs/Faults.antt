-- Why a script is refused.
use Rattle.std.specs.Prelude.{ℕ, List, Some, None, Option, codes}
use Rattle.recipe.specs.declared.fault.Fault.{Fault}
use Rattle.recipe.specs.declared.fault.Fault.TheVariants.{TooLong, Grammar, Level, Waiting}

-- the number of each fault, and the byte index that it carries
abbrev pub coded : Fault → ℕ × Option ℕ
coded TooLong = (8, None)
coded (Grammar i) = (9, Some i)
coded (Level i) = (10, Some i)
coded (Waiting i) = (11, Some i)

-- the text of each fault
abbrev pub text : Fault → List ℕ
text TooLong = codes "more than 512 bytes"
text (Grammar i) = codes "a byte or an end that the grammar does not allow"
text (Level i) = codes "a level above 16"
text (Waiting i) = codes "a seventh waiting picture"
