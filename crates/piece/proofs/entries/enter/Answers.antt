use Rattle.std.proofs.Common.{◌++◌, map, ap, ◌∙◌, arith}
use Rattle.std.specs.List.{range_with_len}
use Rattle.std.proofs.ByRecursion.{All-weaker}
use Rattle.picture.specs.Bodies.{Within}
use Rattle.picture.specs.Lent.{lent}
use Rattle.picture.proofs.Storing.{lent_sound, lent_count, lent_arcs}
use Rattle.piece.specs.Parts.{entry_arc}
use Rattle.piece.proofs.PartArcs.{part_arcs_are}
use Rattle.piece.proofs.entries.enter.Goals as goal

pub raise-requires-clause-long : goal.raise-requires-clause-long
raise-requires-clause-long g c = let count = lent_count c.args.part.body c.arcs.result.now c.arcs.ensures.arcs c.arcs.ensures.count in omega (arith, count, c.requires.long)

pub raise-requires-clause-small : goal.raise-requires-clause-small
raise-requires-clause-small g c =
    let few = c.requires.states in
    rw c.arcs.ensures.arcs (All-weaker (Within c.args.part.body.record.now.states) _ (λ x h. (omega (arith, h.0, few), omega (arith, h.1, few))) _ c.args.part.body.kept.ends)

pub returns : goal.returns
returns g c =
    let part = c.args.part.body in
    let xs = c.arcs.result.now in
    let vs = c.arc_weights.result.now in
    part_arcs_are g.W.Weight.kind c.args.s c.args.part.quadrant (lent part) xs _ _ vs _ (lent_sound part).firsts
    (lent_arcs part xs vs c.arcs.ensures.arcs c.arc_weights.ensures.arcs)
    (c.enter_states.ensures ∙ ap (λ n. map (entry_arc c.args.s c.args.part.quadrant) (range_with_len 0 n)) (c.split_at_mut-entering.ensures.front_len ∙ c.states.ensures))
    c.raise.ensures
    (c.join.ensures ∙ ap (λ zs. zs ++ vs) c.first.ensures.first)
