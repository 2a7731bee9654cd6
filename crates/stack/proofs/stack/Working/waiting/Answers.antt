use Rattle.std.proofs.Common.{◌-◌, sym, ap, ◌∙◌, arith}
use Rattle.picture.specs.Stored.{stored}
use Rattle.stack.specs.Waiting.{bay}
use Rattle.stack.proofs.Slots.{body_in_slot}
use Rattle.stack.proofs.stack.Working.waiting.Goals as goal

pub returns : goal.returns
returns g c =
    let w = c.args.self.now in
    let s = w.stack.now in
    let slot = s.height - c.args.i - 1 in
    ap (λ r. stored r (bay slot w.work.now)) c.«record».ensures ∙ sym (body_in_slot s.height c.args.i slot s.records w.work.now (omega arith))
