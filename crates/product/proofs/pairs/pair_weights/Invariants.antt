use Rattle.std.proofs.Common.{◌≡◌, ℕ, ◌/◌, ◌%◌, ◌<◌, length}
use Rattle.picture.specs.Steps.{at_state}
use Rattle.product.proofs.pairs.pair_weights.Given as goal

abbrev pub invariant-loop-i : goal.invariant-loop-i
invariant-loop-i g l =
    let k = g.W.Weight.kind in
    (j : ℕ) → j < l.i → at_state k l.out j ≡ k.times (at_state k l.xs (j / length l.ys)) (at_state k l.ys (j % length l.ys))
