use Rattle.std.proofs.Common.{sym, refl}
use Rattle.recipe.proofs.Refusals.{took_digit}
use Rattle.recipe.proofs.reader.Reader.digit.Goals as goal

pub returns : goal.returns
returns c = took_digit _ _ _ (sym c.in-Some.ensures) refl refl refl refl
