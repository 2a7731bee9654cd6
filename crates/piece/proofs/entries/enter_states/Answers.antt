use Rattle.std.proofs.Common.{arith}
use Rattle.std.proofs.lemmas.List.FromFn.{fill_by_all}
use Rattle.piece.specs.Parts.{entry_arc}
use Rattle.piece.proofs.entries.enter_states.Goals as goal

pub returns : goal.returns
returns c = fill_by_all (entry_arc c.args.s c.args.quadrant) c.loop-q.out _ (entry_arc 0 c.args.quadrant 0) c.loop-q.auto.out (λ i h. c.loop-q.invariant i (omega arith))
