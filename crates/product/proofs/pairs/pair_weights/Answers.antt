use Rattle.std.proofs.Common.{◌<◌, ◌≢◌, length, ◌∙◌, ap₂, arith, get_or-set_other, get_or-set_same, rules, below_more}
use Rattle.std.proofs.lemmas.List.{get_or_read}
use Rattle.product.proofs.Pairing.{row_below, column_below, paired_is}
use Rattle.product.proofs.pairs.pair_weights.Goals as goal

pub loop-i-preserved : goal.loop-i-preserved
loop-i-preserved g c =
    let k = g.W.Weight.kind in
    let row = row_below (length c.args.xs.now) (length c.args.ys.now) c.loop-i.i _ c.requires (omega arith) in
    let column = column_below (length c.args.xs.now) (length c.args.ys.now) c.loop-i.i _ c.requires (omega arith) in
    below_more _ _
    (λ j h. let ne : j ≢ c.loop-i.i = omega arith in rw get_or-set_other (c.loop-i.invariant j h))
    (let lt : c.loop-i.i < length c.loop-i.out = omega arith in
    rw get_or-set_same (c.times.ensures ∙ ap₂ k.times (search (rules, get_or_read)) (search (rules, get_or_read))))

pub returns : goal.returns
returns g c =
    let k = g.W.Weight.kind in
    paired_is k.times c.args.xs.now c.args.ys.now c.loop-i.out k.zero (c.loop-i.auto.out ∙ c.requires) (λ j h. c.loop-i.invariant j (omega arith))
