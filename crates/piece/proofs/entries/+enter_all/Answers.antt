use Rattle.std.proofs.Common.{rules, ◌≡◌, ◌-◌, ◌∷◌, map, length, take, drop, sym, ap, ◌∙◌, arith}
use Rattle.picture.specs.BodyOperations.{states_of, pieced_arcs}
use Rattle.piece.specs.Parts.{filled}
use Rattle.piece.proofs.FourParts.{head_rest, arcs_long, arcs_more}
use Rattle.piece.proofs.entries.+enter_all.Goals as goal

pub split_at_mut-front-requires : goal.split_at_mut-front-requires
split_at_mut-front-requires g t c =
    let ps = c.args.parts.now in
    let split : ps ≡ c.part-item.result ∷ take (length ps - 1) (drop 1 ps) = head_rest ps c.part-item.result c.in-len1-up.len_at_least c.part-item.is in
    omega (arith, c.part_size-size.ensures.size, c.requires.long, ap (λ xs. length (pieced_arcs g.W.Weight.kind c.args.s (map filled xs))) split, arcs_long g.W.Weight.kind c.args.s (filled c.part-item.result) (map filled (take (length ps - 1) (drop 1 ps))))

pub enter_all-requires : goal.enter_all-requires
enter_all-requires g t c κs within =
    let ps = c.args.parts.now in
    let split : ps ≡ c.part-item.result ∷ take (length ps - 1) (drop 1 ps) = head_rest ps c.part-item.result c.in-len1-up.len_at_least c.part-item.is in
    let states = ap (λ xs. states_of (map filled xs)) split in
    let long = ap (λ xs. length (pieced_arcs g.W.Weight.kind c.args.s (map filled xs))) split ∙ arcs_long g.W.Weight.kind c.args.s (filled c.part-item.result) (map filled (take (length ps - 1) (drop 1 ps))) in
    (search rules, (search rules, (omega (arith, states, c.requires.states), (omega (arith, c.part_size-size.ensures.size, c.requires.long, long), omega (arith, c.part_size-size.ensures.size, c.requires.wide, long)))))

pub returns-in-len1-up : goal.returns-in-len1-up
returns-in-len1-up g t c =
    let ps = c.args.parts.now in
    let split : ps ≡ c.part-item.result ∷ take (length ps - 1) (drop 1 ps) = head_rest ps c.part-item.result c.in-len1-up.len_at_least c.part-item.is in
    arcs_more g.W.Weight.kind c.args.s (filled c.part-item.result) (map filled (take (length ps - 1) (drop 1 ps))) _ _ _ _ (omega arith) c.enter.ensures c.enter_all.ensures
    ∙ ap (λ xs. pieced_arcs g.W.Weight.kind c.args.s (map filled xs)) (sym split)
