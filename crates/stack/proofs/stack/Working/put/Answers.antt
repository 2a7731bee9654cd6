use Rattle.std.proofs.Common.{arith}
use Rattle.stack.proofs.Slots.{put_bodies}
use Rattle.stack.proofs.stack.Working.put.Goals as goal

pub returns-clause-bodies : goal.returns-clause-bodies
returns-clause-bodies g c =
    let w = c.args.self.now in
    let s = w.stack.now in
    rw c.put.ensures.height
    (rw c.put.ensures.records
    (put_bodies c.args.taken s.height _ s.records c.args.body.record.now w.work.now _ c.args.body.weights.now c.put.ensures.inside (omega arith) c.copy_from_slice.ensures.after c.args.body.room))
