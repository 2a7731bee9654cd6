use Rattle.std.proofs.Common.{◌≡◌, ℕ, ◌<◌, get_or}
use Rattle.piece.specs.Parts.{entry_arc}
use Rattle.piece.proofs.entries.enter_states.Given as goal

abbrev pub invariant-loop-q : goal.invariant-loop-q
invariant-loop-q l = (i : ℕ) → i < l.q → get_or l.out i (entry_arc 0 l.quadrant 0) ≡ entry_arc l.s l.quadrant i
