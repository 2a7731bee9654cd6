use Rattle.std.proofs.Common.{◌≡◌, ◌+◌, ◌*◌, length, take}
use Rattle.std.specs.List.{range_with_len, flat_map}
use Rattle.tile.specs.Grids.{row_of}
use Rattle.tile.proofs.grid.Grid.band.Given as goal

abbrev pub invariant-loop-i : goal.invariant-loop-i
invariant-loop-i g l =
    (length l.cells ≡ length l.initial.cells)
    × (take (l.i * l.wide) l.cells ≡ flat_map (λ i. row_of l.self (l.y * l.high + i)) (range_with_len 0 l.i))
