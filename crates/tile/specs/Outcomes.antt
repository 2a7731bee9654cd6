-- What printing a tile, or one row of it, answers and leaves.
use Rattle.std.specs.Prelude.{◌≡◌, ℕ, ◌-◌, ◌^◌, ◌<◌, ◌≤◌, List, ◌++◌, map, length, drop, Ok, Err, Result}
use Rattle.picture.specs.Cells.{base_four, row_of_cells, tile, Printable}
use Rattle.picture.specs.Pictures.{Picture}
use Rattle.tile.specs.declared.printing.Fault.{Fault}
use Rattle.tile.specs.declared.printing.Fault.TheVariants.{NoTile, ShortOutput}

module _ {W : Type 0} (f : Picture W) (depth j n : ℕ) (before after : List W) where
  -- the picture's cells of the tile in their order, and then the output as it was
  pub record Printed (count : ℕ) : Type 0 where
    pub printable : Printable depth j n
    pub counted : count ≡ 4 ^ (depth - j)
    pub fits : count ≤ length before
    pub cells : after ≡ map f (tile depth j n) ++ drop count before

  -- the numbers name no tile, or its cells do not fit; the output is as it was
  abbrev pub Refused : Fault → Type 0
  Refused NoTile = (Printable depth j n → ⊥) × (after ≡ before)
  Refused ShortOutput = Printable depth j n × (length before < 4 ^ (depth - j)) × (after ≡ before)

  abbrev pub Outcome : Result ℕ Fault → Type 0
  Outcome (Ok count) = Printed count
  Outcome (Err fault) = Refused fault

module _ {W : Type 0} (f : Picture W) (depth j n y : ℕ) (before after : List W) where
  -- the picture's cells of row y of the tile in their order, and then the output as it was
  pub record PrintedRow (count : ℕ) : Type 0 where
    pub printable : Printable depth j n
    pub within : y < 2 ^ (depth - j)
    pub counted : count ≡ 2 ^ (depth - j)
    pub fits : count ≤ length before
    pub cells : after ≡ map f (row_of_cells (base_four j n) (depth - j) y) ++ drop count before

  -- the numbers name no tile that has a row y, or the row's cells do not fit; the output is as it was
  abbrev pub RefusedRow : Fault → Type 0
  RefusedRow NoTile = (Printable depth j n → y < 2 ^ (depth - j) → ⊥) × (after ≡ before)
  RefusedRow ShortOutput = Printable depth j n × (y < 2 ^ (depth - j)) × (length before < 2 ^ (depth - j)) × (after ≡ before)

  abbrev pub RowOutcome : Result ℕ Fault → Type 0
  RowOutcome (Ok count) = PrintedRow count
  RowOutcome (Err fault) = RefusedRow fault
