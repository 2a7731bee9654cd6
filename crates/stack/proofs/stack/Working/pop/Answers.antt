use Rattle.std.proofs.Common.{sym}
use Rattle.stack.proofs.Slots.{drop_waiting}
use Rattle.stack.proofs.stack.Working.pop.Goals as goal

pub returns-clause-rest : goal.returns-clause-rest
returns-clause-rest g c = let s = c.args.self.now.stack.now in sym (drop_waiting 1 s.height s.records c.args.self.now.work.now)
