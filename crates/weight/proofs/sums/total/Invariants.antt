use Rattle.std.proofs.Common.{◌≡◌, drop}
use Rattle.weight.specs.Sums.{total}
use Rattle.weight.proofs.sums.total.Given as goal

abbrev pub invariant-loop-weight : goal.invariant-loop-weight
invariant-loop-weight g l = let k = g.W.Weight.kind in k.plus l.sum (total k (drop l.weight-index l.weights) (λ w. w)) ≡ total k l.weights (λ w. w)
