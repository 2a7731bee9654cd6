use Rattle.std.proofs.Common.{◌≤◌, length, arith}
use Rattle.std.proofs.lemmas.Result.{err_from_is_err_and}
use Rattle.picture.specs.Lent.{lent}
use Rattle.table.specs.Tables.{body_of}
use Rattle.rack.proofs.Holding.{bodies_limited, rack_kept}
use Rattle.rack.proofs.Outcomes.{is_written, is_not_written, enters_again}
use Rattle.rack.proofs.rack.Rack.write.Goals as goal

pub returns-in_err-write-clause-outcome : goal.returns-in_err-write-clause-outcome
returns-in_err-write-clause-outcome g c =
    let memory = c.args.memory.now in
    let e = err_from_is_err_and c.from_residual-in_err-write.result c.from_residual-in_err-write.ensures.1 in
    rw (e.1, e.2) (is_not_written g.W.Weight.kind g.W.Written.writing (body_of c.args.self.now.table memory) c.in_ok-place.place (length memory) c.args.place (lent c.body.result) c.args.words.now c.write.new.out c.in_ok-place.ensures.found c.body.ensures c.in_err-write.field-0.0 c.in_err-write.ensures.outcome.0)

pub returns-clause-outcome : goal.returns-clause-outcome
returns-clause-outcome g c =
    let memory = c.args.memory.now in
    is_written g.W.Weight.kind g.W.Written.writing (body_of c.args.self.now.table memory) c.in_ok-place.place (length memory) c.args.place (lent c.body.result) c.args.words.now c.write.new.out c.in_ok-place.ensures.found c.body.ensures c.in_ok-write.field-0 c.write.auto.out c.in_ok-write.ensures.outcome

pub returns-clause-back : goal.returns-clause-back
returns-clause-back g c =
    let rack = c.args.self.now in
    let memory = c.args.memory.now in
    let long : 10240 ≤ length memory = c.in_ok-place.ensures.enough in
    let limited = bodies_limited rack.table memory (rack_kept rack) (omega arith) in
    enters_again g.W.Weight.kind g.W.Written.writing (body_of rack.table memory) limited (length memory) c.args.place (length c.args.words.now) c.write.new.out _ (returns-clause-outcome g c)
