use Rattle.std.proofs.Common.{arith}
use Rattle.recipe.proofs.Numbers.{number_below}
use Rattle.table.proofs.Bodies.{length_bay}
use Rattle.table.proofs.Keeping.{read_kept}
use Rattle.table.proofs.table.Table.body.Goals as goal

pub invariant_of-result : goal.invariant_of-result
invariant_of-result g c =
    let low = number_below c.args.place in
    record {
      kept = read_kept c.args.self.now _ c.«record».result.now c.«record».ensures c.requires.kept;
      room = length_bay c.from-at.result c.args.bays.now (omega arith);
    }
