use Rattle.std.proofs.Common.{◌≡◌, length, drop}
use Rattle.std.specs.List.{zip}
use Rattle.picture.specs.Steps.{carried}
use Rattle.tile.proofs.plain.travel.Given as goal

abbrev pub invariant-loop-quadrant : goal.invariant-loop-quadrant
invariant-loop-quadrant g l =
    let k = g.W.Weight.kind in
    carried k (zip l.arcs l.weights) (length l.initial.row) (drop l.quadrant-index l.address) l.row ≡ carried k (zip l.arcs l.weights) (length l.initial.row) l.address l.initial.row
