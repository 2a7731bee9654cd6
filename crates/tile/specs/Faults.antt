-- Why a tile or a row of it is not printed.
use Rattle.std.specs.Prelude.{ℕ, List, codes}
use Rattle.tile.specs.declared.printing.Fault.{Fault}
use Rattle.tile.specs.declared.printing.Fault.TheVariants.{NoTile, ShortOutput}

-- the number of each fault, which carries nothing else
abbrev pub number : Fault → ℕ
number NoTile = 15
number ShortOutput = 16

-- the text of each fault
abbrev pub text : Fault → List ℕ
text NoTile = codes "the numbers name no tile that can be printed"
text ShortOutput = codes "the output has no room for the cells"
