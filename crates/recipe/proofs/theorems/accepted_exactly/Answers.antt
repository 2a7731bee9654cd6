use Rattle.recipe.proofs.Single.{accepted_exactly}
use Rattle.recipe.proofs.theorems.accepted_exactly.Goals as goal

pub returns : goal.returns
returns c = accepted_exactly
