use Rattle.std.proofs.Common.{length}
use Rattle.piece.proofs.entries.+enter_all.Given as goal

abbrev pub decreases-enter_all : goal.decreases-enter_all
decreases-enter_all g l = length l.parts.now
