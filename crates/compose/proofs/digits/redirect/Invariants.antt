use Rattle.std.proofs.Common.{◌≡◌, ◌++◌, map, take, drop}
use Rattle.picture.specs.BodyOperations.{redirected}
use Rattle.compose.specs.Motions.{Computes}
use Rattle.compose.proofs.digits.redirect.Given as goal

abbrev pub invariant-loop-arc : goal.invariant-loop-arc
invariant-loop-arc h l = (g : _) → Computes (goal.F-post h l.becomes) g → l.arc-items ≡ map (redirected g) (take l.arc-index l.initial.arc-items) ++ drop l.arc-index l.initial.arc-items
