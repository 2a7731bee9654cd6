use Rattle.recipe.proofs.Single.{one_tree}
use Rattle.recipe.proofs.theorems.one_tree.Goals as goal

pub returns : goal.returns
returns c = one_tree
