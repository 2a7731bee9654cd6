use Rattle.std.specs.List.{AllByRecursion}
use Rattle.steps.proofs.Pairs.{pairs_rest}
use Rattle.picture.specs.Bodies.{Within}
use Rattle.picture.specs.BodyOperations.{arc_pairs}
use Rattle.picture.specs.Lent.{lent}
use Rattle.product.specs.Ends.{pair_ends}
use Rattle.product.proofs.Appending.{Due}
use Rattle.product.proofs.pairs.pair_arcs.Given as goal

abbrev pub invariant-loop-arc : goal.invariant-loop-arc
invariant-loop-arc g l =
    let k = g.W.Weight.kind in
    let a = lent l.fn.a in
    let b = lent l.b in
    (goal.iterator-loop-arc g).can_next l.arc-iterator
    × (goal.iterator-loop-arc g).is_finite l.arc-iterator
    × AllByRecursion (λ e. AllByRecursion (λ f. Within 256 (pair_ends b.states e.0 f.0)) b.arcs) (pairs_rest l.arc-iterator)
    × Due (arc_pairs k b.states a.arcs b.arcs) (arc_pairs k b.states (pairs_rest l.arc-iterator) b.arcs) l.initial.pairs l.pairs
