use Rattle.std.proofs.Common.{refl, rules}
use Rattle.recipe.proofs.Refusals.{took_next}
use Rattle.recipe.proofs.reader.Reader.take.Goals as goal

pub returns-then-eq : goal.returns-then-eq
returns-then-eq c = took_next _ _ _ (search rules) refl refl refl refl
