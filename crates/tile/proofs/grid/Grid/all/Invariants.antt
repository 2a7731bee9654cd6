use Rattle.std.proofs.Common.{◌≡◌, ◌+◌, ◌*◌, ◌^◌, length, take}
use Rattle.std.specs.List.{range_with_len, flat_map}
use Rattle.tile.specs.Grids.{row_of}
use Rattle.tile.proofs.grid.Grid.all.Given as goal

abbrev pub invariant-loop-y : goal.invariant-loop-y
invariant-loop-y g l =
    (length l.cells ≡ length l.initial.cells) × (length l.room ≡ length l.initial.room)
    × (take (l.y * l.size) l.cells ≡ flat_map (λ y. flat_map (λ i. row_of l.self (y * 2 ^ l.self.fine + i)) (range_with_len 0 (2 ^ l.self.fine))) (range_with_len 0 l.y))
