use Rattle.recipe.proofs.Stepping.{steps_agree}
use Rattle.recipe.proofs.theorems.steps_agree.Goals as goal

pub returns : goal.returns
returns g c = steps_agree
