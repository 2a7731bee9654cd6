use Rattle.std.proofs.Common.{◌≡◌, ◌<◌, length}
use Rattle.std.specs.List.{zip, AllByRecursion}
use Rattle.steps.proofs.Pairs.{pairs_rest}
use Rattle.picture.specs.Steps.{gathered, at_state}
use Rattle.steps.proofs.rows.gather.Given as goal

abbrev pub invariant-loop-arc : goal.invariant-loop-arc
invariant-loop-arc g l =
    let k = g.W.Weight.kind in
    (goal.iterator-loop-arc g).can_next l.arc-iterator
    × (goal.iterator-loop-arc g).is_finite l.arc-iterator
    × AllByRecursion (λ e. e.0.from < length l.row) (pairs_rest l.arc-iterator)
    × (k.plus l.sum (gathered k (pairs_rest l.arc-iterator) (at_state k l.row) l.quadrant l.q)
    ≡ gathered k (zip l.arcs l.weights) (at_state k l.row) l.quadrant l.q)
