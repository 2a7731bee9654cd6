use Rattle.std.proofs.Common.{refl, arith}
use Rattle.recipe.proofs.Refusals.{lost_want, lost_level, took_next}
use Rattle.recipe.proofs.reader.Reader.opening.Goals as goal

pub returns-in_default : goal.returns-in_default
returns-in_default c = lost_want _ _ c.requires c.in_default.ensures

pub returns-then-nesting-ge-MAX_LEVEL : goal.returns-then-nesting-ge-MAX_LEVEL
returns-then-nesting-ge-MAX_LEVEL c = lost_level _ (omega arith) (omega arith) c.in-Some.ensures

pub returns : goal.returns
returns c = (took_next _ _ _ c.in-Some.ensures refl refl refl refl, omega arith)
