use Rattle.std.proofs.Common.{◌-◌, get_or, sym, ap, ◌∙◌, arith}
use Rattle.picture.specs.Stored.{stored}
use Rattle.stack.specs.Waiting.{no_record}
use Rattle.stack.proofs.Slots.{drop_waiting, body_in_slot}
use Rattle.stack.proofs.stack.Stack.pop.Goals as goal

pub returns-clause-body : goal.returns-clause-body
returns-clause-body g c =
    let s = c.args.self.now in
    let slot = s.height - 1 in
    ap (stored (get_or s.records slot no_record)) c.copy_from_slice.ensures.after ∙ sym (body_in_slot s.height 0 slot s.records c.args.work.now (omega arith))

pub returns-clause-rest : goal.returns-clause-rest
returns-clause-rest g c = let s = c.args.self.now in sym (drop_waiting 1 s.height s.records c.args.work.now)
