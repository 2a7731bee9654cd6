use Rattle.std.proofs.Common.{◌≡◌, ◌≤◌, take}
use Rattle.product.specs.Counts.{tally}
use Rattle.product.proofs.counts.count.Given as goal

abbrev pub invariant-loop-arc : goal.invariant-loop-arc
invariant-loop-arc l = (l.n ≡ tally l.quadrant (take l.arc-index l.arcs)) × (l.n ≤ l.arc-index)
