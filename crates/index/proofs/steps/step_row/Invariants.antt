use Rattle.std.proofs.Common.{◌≡◌, ℕ, ◌<◌}
use Rattle.std.specs.List.{zip}
use Rattle.picture.specs.Steps.{gathered, at_state}
use Rattle.index.proofs.steps.step_row.Given as goal

abbrev pub invariant-loop-q : goal.invariant-loop-q
invariant-loop-q g l =
    let k = g.W.Weight.kind in
    (q : ℕ) → q < l.q → at_state k l.next q ≡ gathered k (zip l.arcs l.weights) (at_state k l.row) l.quadrant q
