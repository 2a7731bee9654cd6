use Rattle.weight.proofs.Totals.{sums_stand}
use Rattle.weight.proofs.sums.sum_laws.Goals as goal

pub returns : goal.returns
returns g c = sums_stand g.met.W.Weight.laws _ _
