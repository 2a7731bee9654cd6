use Rattle.std.proofs.Common.{◌≡◌, ℕ, ◌<◌, get_or}
use Rattle.std.specs.List.{zip}
use Rattle.picture.specs.Steps.{gathered, at_state}
use Rattle.steps.proofs.rows.advance.Given as goal

abbrev pub invariant-loop-q : goal.invariant-loop-q
invariant-loop-q g l =
    let k = g.W.Weight.kind in
    (i : ℕ) → i < l.q → get_or l.next i k.zero ≡ gathered k (zip l.arcs l.weights) (at_state k l.row) l.quadrant i
