use Rattle.std.proofs.Common.{◌≡◌}
use Rattle.std.specs.List.{zip}
use Rattle.steps.proofs.Pairs.{pairs_rest}
use Rattle.weight.specs.Sums.{total}
use Rattle.steps.proofs.rows.meet.Given as goal

abbrev pub invariant-loop-weight : goal.invariant-loop-weight
invariant-loop-weight g l =
    let k = g.W.Weight.kind in
    (goal.iterator-loop-weight g).can_next l.weight-iterator
    × (goal.iterator-loop-weight g).is_finite l.weight-iterator
    × (k.plus l.sum (total k (pairs_rest l.weight-iterator) (λ p. k.times p.0 p.1)) ≡ total k (zip l.row l.column) (λ p. k.times p.0 p.1))
