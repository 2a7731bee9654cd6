use Rattle.recipe.proofs.Single.{one_answer}
use Rattle.recipe.proofs.theorems.one_answer.Goals as goal

pub returns : goal.returns
returns c = one_answer
