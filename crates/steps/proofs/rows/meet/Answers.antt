use Rattle.std.proofs.Common.{◌≡◌, ap, ◌∙◌, rules}
use Rattle.std.specs.List.{zip}
use Rattle.steps.proofs.Pairs.{pairs_rest, all_pairs, no_pairs, one_pair, total_pairs}
use Rattle.weight.proofs.Totals.{total_start, total_more, total_end}
use Rattle.steps.proofs.rows.meet.Goals as goal

started : (g : _) (c : goal.After-into_iter-weight-iterator g) → pairs_rest c.into_iter-weight-iterator.result ≡ zip c.args.row.now c.args.column.now
started g c =
    all_pairs _ _ _ _ _ c.into_iter-weight-iterator.ensures.into_iter_gives c.zip-weight-items.ensures.first c.iter.ensures.rest c.zip-weight-items.ensures.second.0

pub loop-weight-init : goal.loop-weight-init
loop-weight-init g c = (search rules, search rules, total_start g.met.W.Weight.laws _ _ _ _ c.zero-sum.ensures (started g c))

pub loop-weight-preserved : goal.loop-weight-preserved
loop-weight-preserved g c =
    let k = g.W.Weight.kind in
    let next = one_pair c.loop-weight.weight-iterator c.next.new.self c.in-Some.weight.now c.in-Some.other.now c.in-Some.ensures.steps in
    ((tt, tt), tt, total_more g.met.W.Weight.laws _ _ _ _ _ _ _ next (c.plus-sum.ensures ∙ ap (k.plus c.loop-weight.sum) c.times.ensures) c.loop-weight.invariant.2)

pub returns : goal.returns
returns g c =
    total_end g.met.W.Weight.laws _ _ _ _ (no_pairs {A = g.row.W.Denot} {B = g.row.W.Denot} c.loop-weight.weight-iterator c.in-None.ensures.steps) c.loop-weight.invariant.2
    ∙ total_pairs g.met.W.Weight.laws c.args.row.now c.args.column.now c.requires
