use Rattle.std.proofs.Common.{ℕ, ◌<◌, List, ◌∷◌, true, eqb, subst, length, get_or, ◌≡◌, sym, cond, ap, ◌∙◌, rules}
use Rattle.std.specs.List.{zip, AllByRecursion}
use Rattle.steps.proofs.Pairs.{pairs_rest, all_pairs, no_pairs, one_pair}
use Rattle.weight.proofs.Totals.{zero_plus, total_start, total_more, total_end}
use Rattle.weight.specs.Kinds.{Kind}
use Rattle.picture.specs.declared.body.Arc.{Arc}
use Rattle.picture.specs.declared.quadrant.Quadrant.{Quadrant}
use Rattle.picture.specs.Quadrants.{digit, same}
use Rattle.std.proofs.lemmas.Bool.{eqb-true, eq-eqb}
use Rattle.std.proofs.lemmas.List.{get_or_read}
use Rattle.picture.specs.Steps.{at_state, reaches}
use Rattle.steps.proofs.rows.gather.Goals as goal

started : (g : _) (c : goal.After-into_iter-arc-iterator g) → pairs_rest c.into_iter-arc-iterator.result ≡ zip c.args.arcs.now c.args.weights.now
started g c =
    all_pairs _ _ _ _ _ c.into_iter-arc-iterator.ensures.into_iter_gives c.zip-arc-items.ensures.first c.iter.ensures.rest c.zip-arc-items.ensures.second.0

pub loop-arc-init : goal.loop-arc-init
loop-arc-init g c =
    (search rules, search rules, rw (started g c) c.requires, total_start g.met.W.Weight.laws _ _ _ _ c.zero-sum.ensures (started g c))

pub returns : goal.returns
returns g c =
    total_end g.met.W.Weight.laws _ _ _ _ (no_pairs {A = Arc} {B = g.row.W.Denot} c.loop-arc.arc-iterator c.in-None.ensures.steps) c.loop-arc.invariant.3

-- the term of an arc that passes the test
term : {W : Type 0} (k : Kind W) (row : List W) (d : Quadrant) (q : ℕ) (arc : Arc) (x w product : W) → arc.to ≡ q → true ≡ same arc.quadrant d
    → arc.from < length row → x ≡ get_or row arc.from x → product ≡ k.times x w
    → cond (reaches d q (arc, w)) (k.times (at_state k row arc.from) w) k.zero ≡ product
term k row d q arc x w product at turned below read is =
    let to : eqb q arc.to ≡ true = eq-eqb q arc.to (sym at) in
    let digit : eqb (digit d) (digit arc.quadrant) ≡ true = eq-eqb _ _ (sym (eqb-true _ _ (sym turned))) in
    let value = get_or_read row arc.from x below read k.zero in
    rw (to, digit) (ap (λ y. k.times y w) (sym value) ∙ sym is)

pub loop-arc-preserved-then-eq : goal.loop-arc-preserved-then-eq
loop-arc-preserved-then-eq g c =
    let k = g.W.Weight.kind in
    let arc = c.in-Some.arc.now in
    let weight = c.in-Some.weight.now in
    let next = one_pair c.loop-arc.arc-iterator c.next.new.self arc weight c.in-Some.ensures.steps in
    let left : AllByRecursion (λ e. e.0.from < length c.args.row.now) ((arc, weight) ∷ pairs_rest c.next.new.self) = subst (AllByRecursion (λ e. e.0.from < length c.args.row.now)) next c.loop-arc.invariant.2 in
    let here = term k c.args.row.now c.args.quadrant c.args.q arc _ weight _ c.if-arc-q.true (search rules) left.0 c.index-row-arc.is c.times.ensures in
    ((tt, tt), tt, left.1, total_more g.met.W.Weight.laws _ _ _ _ _ _ _ next (c.plus-sum.ensures ∙ ap (k.plus c.loop-arc.sum) (sym here)) c.loop-arc.invariant.3)

pub loop-arc-preserved : goal.loop-arc-preserved
loop-arc-preserved g c =
    let left = zero_plus g.met.W.Weight.laws in
    let next = one_pair c.loop-arc.arc-iterator c.next.new.self c.in-Some.arc.now c.in-Some.weight.now c.in-Some.ensures.steps in search rules
