use Rattle.std.proofs.Common.{◌≡◌, ◌≤◌, length, drop, Ok, Err, ◌∙◌, arith}
use Rattle.std.proofs.lemmas.List.Edits.{length-between}
use Rattle.std.proofs.lemmas.List.{drop_at}
use Rattle.std.proofs.lemmas.Result.{err_from_is_err_and}
use Rattle.book.specs.declared.refusal.Refusal.TheVariants.{NotRun}
use Rattle.table.specs.Tables.{body_of}
use Rattle.rack.proofs.Holding.{bodies_limited, rack_kept}
use Rattle.rack.proofs.Performing.{run_on_bays, runs_alike}
use Rattle.rack.proofs.rack.Rack.run.Goals as goal

pub returns-in_err-perform-clause-outcome : goal.returns-in_err-perform-clause-outcome
returns-in_err-perform-clause-outcome g c =
    let memory = c.args.memory.now in
    let long : 10240 ≤ length memory = c.if-memory-lt-MEMORY.false in
    let full : length c.perform.new.memory ≡ 10240 = c.perform.auto.memory ∙ length-between memory 0 10240 long in
    let e = err_from_is_err_and c.from_residual.result c.from_residual.ensures.1 in
    rw (e.1, e.2) (run_on_bays g.W.Weight.kind g.W.Written.writing c.args.self.now.table c.perform.new.self.table memory c.perform.new.memory _ c.args.script.now (Err (NotRun c.in_err-perform.field-0.0)) long full c.in_err-perform.ensures.outcome)

pub returns-in_err-perform-clause-beyond : goal.returns-in_err-perform-clause-beyond
returns-in_err-perform-clause-beyond g c =
    let long : 10240 ≤ length c.args.memory.now = c.if-memory-lt-MEMORY.false in
    drop_at c.perform.new.memory (drop 10240 c.args.memory.now) 10240 (c.perform.auto.memory ∙ length-between c.args.memory.now 0 10240 long)

pub returns-clause-outcome : goal.returns-clause-outcome
returns-clause-outcome g c =
    let memory = c.args.memory.now in
    let long : 10240 ≤ length memory = c.if-memory-lt-MEMORY.false in
    let full : length c.perform.new.memory ≡ 10240 = c.perform.auto.memory ∙ length-between memory 0 10240 long in
    run_on_bays g.W.Weight.kind g.W.Written.writing c.args.self.now.table c.perform.new.self.table memory c.perform.new.memory (drop 10240 memory) c.args.script.now (Ok c.in_ok-perform.field-0) long full c.in_ok-perform.ensures.outcome

pub returns-clause-beyond : goal.returns-clause-beyond
returns-clause-beyond g c =
    let long : 10240 ≤ length c.args.memory.now = c.if-memory-lt-MEMORY.false in
    drop_at c.perform.new.memory (drop 10240 c.args.memory.now) 10240 (c.perform.auto.memory ∙ length-between c.args.memory.now 0 10240 long)

pub returns-clause-alike : goal.returns-clause-alike
returns-clause-alike g c =
    let rack = c.args.self.now in
    let memory = c.args.memory.now in
    let long : 10240 ≤ length memory = c.if-memory-lt-MEMORY.false in
    let limited = bodies_limited rack.table memory (rack_kept rack) (omega arith) in
    runs_alike g.W.Weight.kind g.W.Written.writing (body_of rack.table memory) g.met.W.Weight.laws limited (length memory) c.args.script.now _ _ (returns-clause-outcome g c)
