use Rattle.table.specs.Tables.{body_of}
use Rattle.table.proofs.Scripting.{Done}
use Rattle.table.proofs.table.Table.perform.Given as goal

abbrev pub invariant-loop-step : goal.invariant-loop-step
invariant-loop-step g l = Done g.W.Weight.kind l.steps l.step-index l.lines (body_of l.initial.self l.initial.bays) l.self l.bays l.working
