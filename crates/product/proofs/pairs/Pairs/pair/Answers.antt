use Rattle.std.proofs.Common.{◌≡◌, sym, refl, ap, ◌∙◌, arith, rules, [], ◌∷◌, ◌++◌}
use Rattle.std.specs.List.{flat_map}
use Rattle.steps.proofs.Pairs.{pairs_rest, all_pairs, no_pairs, one_pair}
use Rattle.picture.specs.declared.body.Arc.{Arc}
use Rattle.picture.specs.BodyOperations.{arc_pair}
use Rattle.picture.specs.Lent.{lent}
use Rattle.product.specs.Ends.{pair_ends}
use Rattle.picture.proofs.Storing.{lent_arcs}
use Rattle.product.proofs.Appending.{due_first, due_next, due_room, due_last}
use Rattle.product.proofs.Pairing.{pair_is}
use Rattle.product.proofs.pairs.Pairs.pair.Goals as goal

started : (g : _) (c : goal.After-into_iter-other-iterator g) → pairs_rest c.into_iter-other-iterator.result ≡ (lent c.args.b).arcs
started g c =
    all_pairs _ _ _ _ _ c.into_iter-other-iterator.ensures.into_iter_gives c.zip-other-items.ensures.first c.iter.ensures.rest c.zip-other-items.ensures.second.0
    ∙ lent_arcs c.args.b c.arcs.result.now c.arc_weights.result.now c.arcs.ensures.arcs c.arc_weights.ensures.arcs

pub loop-other-init : goal.loop-other-init
loop-other-init g c =
    (search rules, search rules, rw (started g c) c.requires.small, due_first (ap (flat_map (arc_pair g.W.Weight.kind (lent c.args.b).states (c.args.arc, c.args.weight))) (started g c)))

pub push-requires : goal.push-requires
push-requires g c =
    let k = g.W.Weight.kind in
    let more = one_pair c.loop-other.other-iterator c.next.new.self c.in-Some.other.now c.in-Some.factor.now c.in-Some.ensures.steps in
    let one = pair_is k (lent c.args.b).states (c.args.arc, c.args.weight) (c.in-Some.other.now, c.in-Some.factor.now) _ (sym (search rules)) refl in
    let split = ap (flat_map (arc_pair k (lent c.args.b).states (c.args.arc, c.args.weight))) more ∙ ap (λ es. es ++ flat_map (arc_pair k (lent c.args.b).states (c.args.arc, c.args.weight)) (pairs_rest c.next.new.self)) one in
    omega (arith, due_room _ ((pair_ends (lent c.args.b).states c.args.arc c.in-Some.other.now, k.times c.args.weight c.in-Some.factor.now) ∷ []) _ split c.loop-other.invariant.3 c.requires.room)

pub loop-other-preserved-then-eq : goal.loop-other-preserved-then-eq
loop-other-preserved-then-eq g c =
    let k = g.W.Weight.kind in
    let more = one_pair c.loop-other.other-iterator c.next.new.self c.in-Some.other.now c.in-Some.factor.now c.in-Some.ensures.steps in
    let one = pair_is k (lent c.args.b).states (c.args.arc, c.args.weight) (c.in-Some.other.now, c.in-Some.factor.now) c.times.result (sym (search rules)) c.times.ensures in
    let split = ap (flat_map (arc_pair k (lent c.args.b).states (c.args.arc, c.args.weight))) more ∙ ap (λ es. es ++ flat_map (arc_pair k (lent c.args.b).states (c.args.arc, c.args.weight)) (pairs_rest c.next.new.self)) one in
    (search rules, search rules, (rw more at c.loop-other.invariant.2).1, due_next _ _ split c.loop-other.invariant.3 c.push.ensures)

pub returns : goal.returns
returns g c =
    let rest = no_pairs {A = Arc} {B = g.row.W.Denot} c.loop-other.other-iterator c.in-None.ensures.steps in
    due_last _ (ap (flat_map (arc_pair g.W.Weight.kind (lent c.args.b).states (c.args.arc, c.args.weight))) rest) c.loop-other.invariant.3
