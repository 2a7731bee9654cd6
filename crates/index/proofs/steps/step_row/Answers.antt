use Rattle.std.proofs.Common.{rules, arith}
use Rattle.std.proofs.lemmas.List.FromFn.{fill_by_all}
use Rattle.std.proofs.iter.Serving.{serving}
use Rattle.picture.specs.Steps.{at_state}
use Rattle.index.specs.Terms.{row_term}
use Rattle.index.specs.declared.index.End.TheVariants.{To}
use Rattle.index.proofs.Additions.{entries_more}
use Rattle.index.proofs.Parts.{rising, part_within}
use Rattle.index.proofs.steps.step_row.Goals as goal

pub places-places-requires : goal.places-places-requires
places-places-requires g c = record { rising = rising To c.args.arcs.now c.args.index.now c.requires.indexed; below = omega arith }

pub sum_at-requires : goal.sum_at-requires
sum_at-requires g c = λ j h.
    let below = part_within To c.args.arcs.now c.args.index.now c.requires.indexed c.args.quadrant c.loop-q.q c.places-places.result.now (omega arith) c.places-places.ensures j h in
    search (rules, serving)

pub loop-q-preserved : goal.loop-q-preserved
loop-q-preserved g c =
    let k = g.W.Weight.kind in
    entries_more g.met.W.Weight.laws c.args.arcs.now c.args.weights.now c.requires.weighted (row_term k (at_state k c.args.row.now))
    To c.args.index.now c.requires.indexed 64 (omega arith) c.requires.few c.args.quadrant
    c.loop-q.q c.loop-q.next c.places-places.result.now c.sum_at.result (omega arith) (omega arith) c.places-places.ensures (c.sum_at.ensures _ (λ j w h post. search rules)) c.loop-q.invariant

pub returns : goal.returns
returns g c = fill_by_all _ c.loop-q.next _ g.W.Weight.kind.zero c.loop-q.auto.next (λ k h. c.loop-q.invariant k (omega arith))
