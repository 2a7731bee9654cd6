use Rattle.std.proofs.Common.{◌≡◌, ◌++◌}
use Rattle.picture.specs.Cells.{base_four}
use Rattle.picture.specs.Pictures.{value}
use Rattle.picture.specs.Quadrants.{Address}
use Rattle.picture.specs.Steps.{at_state}
use Rattle.tile.specs.Automata.{body}
use Rattle.tile.proofs.automaton.Automaton.follow.Given as goal

abbrev pub invariant-loop-left : goal.invariant-loop-left
invariant-loop-left g l =
    let k = g.W.Weight.kind in
    (w : Address) → value k (body l.self) (at_state k l.row) (base_four l.left l.square.prefix ++ w) ≡ value k (body l.self) (at_state k l.initial.row) (base_four l.square.digits l.square.prefix ++ w)
