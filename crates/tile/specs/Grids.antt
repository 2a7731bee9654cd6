-- For the contracts of private functions: the cells of a grid.
use Rattle.std.specs.Prelude.{ℕ, ◌+◌, List}
use Rattle.index.specs.Terms.{edges}
use Rattle.weight.specs.declared.kind.Weight.{Ghosts}
use Rattle.tile.specs.Automata.{body}
use Rattle.tile.specs.Bands.{rows_along, cells_in_row}
use Rattle.tile.specs.declared.grid.Grid.{Grid}

module _ {W : Type 0} {w : Ghosts W} where
  -- 2 to this depth is how many rows of cells there are, and how many columns
  abbrev pub depth_of : Grid W w → ℕ
  depth_of g = g.coarse + g.fine

  -- what the row becomes along each cell in row y of the coarse digits
  abbrev pub rows_of : Grid W w → ℕ → List W
  rows_of g y = rows_along w.kind (edges g.body.now.arcs) g.body.now.arcs.states g.row.now g.coarse y

  -- row y of the cells
  abbrev pub row_of : Grid W w → ℕ → List W
  row_of g y = cells_in_row w.kind (body g.body.now) g.row.now (depth_of g) y
