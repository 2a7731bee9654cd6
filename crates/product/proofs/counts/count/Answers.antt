use Rattle.std.proofs.Common.{ap, ◌∙◌, arith, rules}
use Rattle.std.proofs.lemmas.List.{take_all}
use Rattle.picture.specs.BodyOperations.{arc_from}
use Rattle.picture.specs.declared.body.Arc.{Arc}
use Rattle.picture.specs.declared.quadrant.Quadrant.TheVariants.{UpperLeft}
use Rattle.product.specs.Counts.{tally}
use Rattle.product.proofs.Counting.{tally_same, tally_other}
use Rattle.product.proofs.counts.count.Goals as goal
use Rattle.product.proofs.counts.count.Goals.{then-eq, else-eq}

-- the default at which an arc is read
abbrev none : Arc
none = arc_from 0 0 UpperLeft

pub loop-arc-preserved : goal.loop-arc-preserved
loop-arc-preserved c =
    elim c.if-eq.branch [
      | then-eq w ↦
          let e = tally_same c.args.quadrant c.args.arcs.now c.loop-arc.arc-index none c.loop-arc-test.true (search rules) in
          (omega (arith, w.n-is), omega (arith, w.n-is))
      | else-eq w ↦
          let e = tally_other c.args.quadrant c.args.arcs.now c.loop-arc.arc-index none c.loop-arc-test.true (search rules) in
          (omega (arith, w.n-is), omega (arith, w.n-is))
    ]

pub returns : goal.returns
returns c = record {
  number = c.loop-arc.invariant.0 ∙ ap (tally c.args.quadrant) (take_all c.loop-arc.arc-index c.args.arcs.now (omega arith));
  few = omega arith;
}
