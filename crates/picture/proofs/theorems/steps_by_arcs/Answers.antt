use Rattle.picture.proofs.Values.{step_gathered, entry_spread}
use Rattle.picture.proofs.theorems.steps_by_arcs.Goals as goal

pub returns : goal.returns
returns g c = record { rows = step_gathered g.met.W.Weight.laws; columns = entry_spread g.met.W.Weight.laws }
