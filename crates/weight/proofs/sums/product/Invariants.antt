use Rattle.std.proofs.Common.{◌≡◌, drop}
use Rattle.weight.specs.Sums.{product}
use Rattle.weight.proofs.sums.product.Given as goal

abbrev pub invariant-loop-weight : goal.invariant-loop-weight
invariant-loop-weight g l = let k = g.W.Weight.kind in k.times l.factors (product k (drop l.weight-index l.weights)) ≡ product k l.weights
