use Rattle.std.specs.List.{flat_map, AllByRecursion}
use Rattle.steps.proofs.Pairs.{pairs_rest}
use Rattle.picture.specs.Bodies.{Within}
use Rattle.picture.specs.BodyOperations.{arc_pair}
use Rattle.picture.specs.Lent.{lent}
use Rattle.product.specs.Ends.{pair_ends}
use Rattle.product.proofs.Appending.{Due}
use Rattle.product.proofs.pairs.Pairs.pair.Given as goal

abbrev pub invariant-loop-other : goal.invariant-loop-other
invariant-loop-other g l =
    let b = lent l.fn.b in
    let pair = arc_pair g.W.Weight.kind b.states (l.arc, l.weight) in
    (goal.iterator-loop-other g).can_next l.other-iterator
    × (goal.iterator-loop-other g).is_finite l.other-iterator
    × AllByRecursion (λ e. Within 256 (pair_ends b.states l.arc e.0)) (pairs_rest l.other-iterator)
    × Due (flat_map pair b.arcs) (flat_map pair (pairs_rest l.other-iterator)) l.initial.self l.self
