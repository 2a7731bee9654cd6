use Rattle.std.proofs.Common.{get_or, set, ◌∙◌, ap₂, arith}
use Rattle.std.proofs.lemmas.List.{get_or_default}
use Rattle.std.proofs.lemmas.List.Edits.{map_over_more}
use Rattle.picture.specs.BodyOperations.{arc_from, raised_arc}
use Rattle.picture.specs.declared.body.Arc.{Arc}
use Rattle.picture.specs.declared.quadrant.Quadrant.TheVariants.{UpperLeft}
use Rattle.compose.proofs.lists.raise.Goals as goal

pub loop-arc-preserved : goal.loop-arc-preserved
loop-arc-preserved c =
    let items = c.loop-arc.arc-items in
    let i = c.loop-arc.arc-index in
    let x : Arc = get_or items i (arc_from 0 0 UpperLeft) in
    ap₂ (λ m n. set items i (arc_from m n x.quadrant)) (omega arith) (omega arith)
    ∙ map_over_more (raised_arc c.args.by) c.args.arcs.now items i x (omega arith) c.loop-arc.invariant (get_or_default items i _ x (omega arith))
