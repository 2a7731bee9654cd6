use Rattle.recipe.proofs.Refusals.{spells}
use Rattle.recipe.proofs.theorems.counted_text.Goals as goal

pub returns : goal.returns
returns c t = spells t 0 0
