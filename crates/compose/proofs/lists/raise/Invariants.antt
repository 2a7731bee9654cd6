use Rattle.std.proofs.Common.{◌≡◌, ◌++◌, map, take, drop}
use Rattle.picture.specs.BodyOperations.{raised_arc}
use Rattle.compose.proofs.lists.raise.Given as goal

abbrev pub invariant-loop-arc : goal.invariant-loop-arc
invariant-loop-arc l = l.arc-items ≡ map (raised_arc l.by) (take l.arc-index l.arcs) ++ drop l.arc-index l.arcs
