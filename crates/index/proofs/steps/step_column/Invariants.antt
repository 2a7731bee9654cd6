use Rattle.std.proofs.Common.{◌≡◌, ℕ, ◌<◌}
use Rattle.std.specs.List.{zip}
use Rattle.picture.specs.Steps.{spread, at_state}
use Rattle.index.proofs.steps.step_column.Given as goal

abbrev pub invariant-loop-p : goal.invariant-loop-p
invariant-loop-p g l =
    let k = g.W.Weight.kind in
    (p : ℕ) → p < l.p → at_state k l.next p ≡ spread k (zip l.arcs l.weights) (at_state k l.column) l.quadrant p
