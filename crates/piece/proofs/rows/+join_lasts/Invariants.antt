use Rattle.std.proofs.Common.{length}
use Rattle.piece.proofs.rows.+join_lasts.Given as goal

abbrev pub decreases-join_lasts : goal.decreases-join_lasts
decreases-join_lasts g l = length l.parts.now
