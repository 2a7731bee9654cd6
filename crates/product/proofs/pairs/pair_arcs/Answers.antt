use Rattle.std.proofs.Common.{◌≡◌, length, sym, ap, ◌∙◌, ap₂, arith, rules}
use Rattle.std.specs.List.{zip}
use Rattle.std.proofs.lemmas.List.{take_all}
use Rattle.steps.proofs.Pairs.{pairs_rest, all_pairs, no_pairs, one_pair}
use Rattle.picture.specs.declared.body.Arc.{Arc}
use Rattle.picture.specs.BodyOperations.{arc_pairs}
use Rattle.picture.specs.Lent.{lent}
use Rattle.picture.proofs.Storing.{lent_sound, lent_arcs}
use Rattle.product.proofs.Appending.{due_first, due_next, due_room, due_last}
use Rattle.product.proofs.Pairing.{small_ends}
use Rattle.product.proofs.pairs.pair_arcs.Goals as goal

pub loop-arc-init : goal.loop-arc-init
loop-arc-init g c =
    let small = small_ends _ _ _ _ (lent_sound c.args.a).ends (lent_sound c.args.b).ends c.requires.states in
    let started : pairs_rest c.into_iter-arc-iterator.result ≡ (lent c.args.a).arcs =
    all_pairs _ _ _ _ _ c.into_iter-arc-iterator.ensures.into_iter_gives c.zip-arc-items.ensures.first c.iter.ensures.rest c.zip-arc-items.ensures.second.0
    ∙ lent_arcs c.args.a c.arcs.result.now c.arc_weights.result.now c.arcs.ensures.arcs c.arc_weights.ensures.arcs in
    (search rules, search rules, rw started small, due_first (ap (λ xs. arc_pairs g.W.Weight.kind (lent c.args.b).states xs (lent c.args.b).arcs) started))

pub pair-requires : goal.pair-requires
pair-requires g c =
    let k = g.W.Weight.kind in
    let more = one_pair c.loop-arc.arc-iterator c.next.new.self c.in-Some.arc.now c.in-Some.weight.now c.in-Some.ensures.steps in
    record {
      room = due_room _ _ _ (ap (λ xs. arc_pairs k (lent c.args.b).states xs (lent c.args.b).arcs) more) c.loop-arc.invariant.3 (omega (arith, c.requires.room));
      small = (rw more at c.loop-arc.invariant.2).0;
    }

pub loop-arc-preserved : goal.loop-arc-preserved
loop-arc-preserved g c =
    let k = g.W.Weight.kind in
    let more = one_pair c.loop-arc.arc-iterator c.next.new.self c.in-Some.arc.now c.in-Some.weight.now c.in-Some.ensures.steps in
    (search rules, search rules, (rw more at c.loop-arc.invariant.2).1, due_next _ _ (ap (λ xs. arc_pairs k (lent c.args.b).states xs (lent c.args.b).arcs) more) c.loop-arc.invariant.3 c.pair.ensures)

pub returns : goal.returns
returns g c =
    let k = g.W.Weight.kind in
    let rest = no_pairs {A = Arc} {B = g.row.W.Denot} c.loop-arc.arc-iterator c.in-None.ensures.steps in
    let end = due_last _ (ap (λ xs. arc_pairs k (lent c.args.b).states xs (lent c.args.b).arcs) rest) c.loop-arc.invariant.3 in
    let made = c.loop-arc.pairs in
    let full : made.count ≡ length made.arcs.now = omega (arith, end.count, end.long, c.requires.room) in
    let arcs = end.arcs in
    let weights = end.weights in
    let all : zip made.arcs.now made.weights.now ≡ arc_pairs k (lent c.args.b).states (lent c.args.a).arcs (lent c.args.b).arcs =
    sym (ap₂ zip (take_all made.count made.arcs.now (omega (arith, full))) (take_all made.count made.weights.now (omega (arith, full, made.both)))) ∙ end.adds in
    search (rules, all)
