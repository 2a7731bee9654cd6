use Rattle.std.proofs.Common.{◌≡◌, ℕ, ◌/◌, ◌^◌, ◌<◌, get_or}
use Rattle.tile.specs.Bands.{slot, meeting, interleaved}
use Rattle.tile.proofs.grid.Grid.line.Given as goal

abbrev pub invariant-loop-x : goal.invariant-loop-x
invariant-loop-x g l =
    let k = g.W.Weight.kind in
    (i : ℕ) → i < l.x → get_or l.cells i k.zero ≡ meeting k l.states (slot l.states (i / 2 ^ l.self.fine) l.rows) (slot l.states (interleaved l.self.fine i l.y) l.self.columns.now)
