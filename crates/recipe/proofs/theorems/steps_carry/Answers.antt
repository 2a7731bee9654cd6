use Rattle.recipe.proofs.Carried.{steps_carry}
use Rattle.recipe.proofs.theorems.steps_carry.Goals as goal

pub returns : goal.returns
returns c = steps_carry
