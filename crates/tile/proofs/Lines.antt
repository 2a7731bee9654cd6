-- The rows and columns of a grid, and its lines of cells.
use Rattle.std.proofs.Common.{◌≡◌, ℕ, ◌+◌, ◌*◌, ◌/◌, ◌^◌, List, ◌++◌, map, length, refl, ap, ◌∙◌}
use Rattle.std.specs.List.{range_with_len, flat_map}
use Rattle.index.specs.Terms.{edges}
use Rattle.weight.specs.Kinds.{Laws}
use Rattle.weight.specs.declared.kind.Weight.{Ghosts}
use Rattle.picture.specs.Cells.{cell, row_of_cells, cells_below}
use Rattle.picture.specs.Pictures.{value, picture}
use Rattle.picture.specs.Quadrants.{Address}
use Rattle.picture.specs.Steps.{at_state}
use Rattle.picture.proofs.Carries.{length_carried}
use Rattle.tile.specs.Automata.{body}
use Rattle.tile.specs.Bands.{slot, meeting, interleaved, cells_in_row}
use Rattle.tile.specs.Grids.{depth_of, rows_of, row_of}
use Rattle.tile.specs.declared.grid.Grid.{Grid}
use Rattle.tile.proofs.Joins.{length_joined}
use Rattle.tile.proofs.Meets.{length_columns, line_is}
use Rattle.tile.proofs.Sounds.{sound}
use Rattle.tile.proofs.Tops.{row_is, tile_is}

module _ {W : Type 0} {w : Ghosts W} (g : Grid W w) where
  pub rows_long : (y : ℕ) (rows : List W) → rows ≡ rows_of g y → length rows ≡ 2 ^ g.coarse * g.body.now.arcs.states
  rows_long y rows e =
      ap length e ∙ length_joined _ g.body.now.arcs.states (2 ^ g.coarse)
      (λ x h. length_carried w.kind (edges g.body.now.arcs) g.body.now.arcs.states (cell g.coarse x y) g.row.now g.row_long)

  pub columns_long : length g.columns.now ≡ 4 ^ g.fine * g.body.now.arcs.states
  columns_long =
      length_columns w.kind (edges g.body.now.arcs) g.body.now.arcs.states g.body.now.last.now g.columns.now g.fine g.body.now.lasts g.all_columns

  -- a line of cells, each a row times a column, is a row of the grid's cells
  pub line_of : Laws w.kind → (rows cells : List W) (y : ℕ) → rows ≡ rows_of g (y / 2 ^ g.fine)
      → cells ≡ map (λ x. meeting w.kind g.body.now.arcs.states (slot g.body.now.arcs.states (x / 2 ^ g.fine) rows) (slot g.body.now.arcs.states (interleaved g.fine x y) g.columns.now)) (range_with_len 0 (2 ^ depth_of g))
      → cells ≡ row_of g y
  line_of laws rows cells y er e =
      line_is laws (body g.body.now) (sound g.body.now) g.row.now g.row_long g.coarse g.fine (y / 2 ^ g.fine) rows g.columns.now cells y g.few_fine refl er g.all_columns e

-- below the row along a prefix lie the picture's cells below the prefix
module _ {W : Type 0} {w : Ghosts W} (g : Grid W w) (u : Address) (depth : ℕ) (deep : g.coarse + g.fine ≡ depth)
    (h : (v : Address) → value w.kind (body g.body.now) (at_state w.kind g.row.now) v ≡ picture w.kind (body g.body.now) (u ++ v)) where
  pub row_below : (y : ℕ) → row_of g y ≡ map (picture w.kind (body g.body.now)) (row_of_cells u depth y)
  row_below y = ap (λ d. cells_in_row w.kind (body g.body.now) g.row.now d y) deep ∙ row_is w.kind (body g.body.now) g.row.now u depth h y

  pub tile_below : (cells : List W) → cells ≡ flat_map (row_of g) (range_with_len 0 (2 ^ depth_of g)) → cells ≡ map (picture w.kind (body g.body.now)) (cells_below u depth)
  tile_below cells e =
      tile_is w.kind (body g.body.now) g.row.now u depth h cells
      (e ∙ ap (λ d. flat_map (cells_in_row w.kind (body g.body.now) g.row.now d) (range_with_len 0 (2 ^ d))) deep)
