use Rattle.std.proofs.Common.{◌≡◌, ◌<◌, length, sym, ap, ◌∙◌, subst, rules}
use Rattle.std.specs.List.{zip, AllByRecursion}
use Rattle.std.proofs.ByRecursion.{All-weaker}
use Rattle.std.proofs.lemmas.List.{drop_all}
use Rattle.picture.specs.Bodies.{Within}
use Rattle.picture.specs.Lent.{lent}
use Rattle.picture.specs.Steps.{carried}
use Rattle.picture.proofs.Storing.{lent_sound, lent_arcs}
use Rattle.tile.proofs.plain.travel.Goals as goal

pub advance-requires : goal.advance-requires
advance-requires g c =
    let b = lent c.args.body in
    let edges : zip c.arcs-arcs.result.now c.arc_weights-weights.result.now ≡ b.arcs =
    lent_arcs c.args.body _ _ c.arcs-arcs.ensures.arcs c.arc_weights-weights.ensures.arcs in
    let long : length c.loop-quadrant.row ≡ b.states = search rules in
    subst (AllByRecursion (λ e. e.0.from < length c.loop-quadrant.row)) (sym edges)
    (All-weaker (λ e. Within b.states e.0) _ (λ e x. subst (λ n. e.0.from < n) (sym long) x.0) _ (lent_sound c.args.body).ends)

pub returns : goal.returns
returns g c =
    let k = g.W.Weight.kind in
    let n = length c.args.row.now in
    let edges : zip c.arcs-arcs.result.now c.arc_weights-weights.result.now ≡ (lent c.args.body).arcs =
    lent_arcs c.args.body _ _ c.arcs-arcs.ensures.arcs c.arc_weights-weights.ensures.arcs in
    sym (ap (λ ds. carried k (zip c.arcs-arcs.result.now c.arc_weights-weights.result.now) n ds c.loop-quadrant.row) (drop_all _ _ c.loop-quadrant-test.false))
    ∙ c.loop-quadrant.invariant
    ∙ ap (λ es. carried k es n c.args.address.now c.args.row.now) edges
