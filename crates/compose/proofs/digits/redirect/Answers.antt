use Rattle.std.proofs.Common.{get_or, set, ap, ◌∙◌, arith}
use Rattle.std.proofs.lemmas.List.{get_or_default}
use Rattle.std.proofs.lemmas.List.Edits.{map_over_more}
use Rattle.picture.specs.BodyOperations.{arc_from, redirected}
use Rattle.picture.specs.declared.body.Arc.{Arc}
use Rattle.picture.specs.declared.quadrant.Quadrant.TheVariants.{UpperLeft}
use Rattle.compose.proofs.digits.redirect.Goals as goal

pub loop-arc-preserved : goal.loop-arc-preserved
loop-arc-preserved g c = λ h computes.
    let items = c.loop-arc.arc-items in
    let i = c.loop-arc.arc-index in
    let x : Arc = get_or items i (arc_from 0 0 UpperLeft) in
    ap (λ q. set items i (arc_from x.from x.to q)) (computes _ _ c.becomes-arc.ensures)
    ∙ map_over_more (redirected h) c.args.arcs.now items i x c.loop-arc-test.true (c.loop-arc.invariant h computes) (get_or_default items i _ x (omega arith))
