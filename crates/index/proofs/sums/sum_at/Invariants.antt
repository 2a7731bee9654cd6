use Rattle.std.proofs.Common.{◌≡◌, ℕ, ◌<◌, length, get_or, drop}
use Rattle.weight.specs.Sums.{total}
use Rattle.index.proofs.sums.sum_at.Given as goal

abbrev pub invariant-loop-place : goal.invariant-loop-place
invariant-loop-place g l =
    let k = g.W.Weight.kind in
    (f : ℕ → _) → ((j : ℕ) (w : _) → j < length l.places → goal.F-post g l.term (get_or l.places j 0) w → w ≡ f (get_or l.places j 0))
    → k.plus l.found (total k (drop l.place-index l.places) f) ≡ total k l.places f
