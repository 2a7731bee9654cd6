-- The arcs and the weights of a sum.
use Rattle.std.proofs.Common.{◌≡◌, ℕ, ◌+◌, ◌-◌, ◌≤◌, List, ◌++◌, map, length, take, sym, ap, ◌∙◌, ap₂, arith}
use borrow.Rule.Slice.PartMut.{put_mid}
use Rattle.std.specs.List.{zip, between}
use Rattle.std.proofs.lemmas.List.{length-append, length-map, length-take}
use Rattle.std.proofs.lemmas.Slice.{take-put_mid}
use Rattle.picture.specs.Bodies.{Body}
use Rattle.picture.specs.BodyOperations.{raised_arc, raised, sum_body}
use Rattle.picture.specs.Lent.{lent, arcs_of}
use Rattle.picture.specs.declared.body.Arc.{Arc}
use Rattle.picture.specs.declared.stored.Stored.{Stored}
use Rattle.compose.specs.Faults.{excess, over_limit}
use Rattle.compose.proofs.Zipped.{zipped_append, zipped_map}
use Rattle.picture.proofs.Storing.{lent_count}

-- which limit the sum of two bodies in memory passes
pub sum_excess : {W : Type 0} (a b : Stored W) (n m : ℕ) (xs ys : List Arc) → n ≡ (lent a).states → m ≡ (lent b).states
    → xs ≡ arcs_of a → length xs ≡ a.record.now.count → ys ≡ arcs_of b → length ys ≡ b.record.now.count
    → over_limit (sum_body (lent a) (lent b)) ≡ excess (n + m) (length xs + length ys)
sum_excess a b n m xs ys en em ex cx ey cy =
    let raised_long = length-map (lent b).arcs (raised (lent a).states) in
    ap₂ excess (ap₂ ◌+◌ (sym en) (sym em)) (length-append (lent a).arcs (map (raised (lent a).states) (lent b).arcs) ∙ ap₂ ◌+◌ (lent_count a xs ex cx) (raised_long ∙ lent_count b ys ey cy))

-- bodies with these arcs and arc weights
pub sum_arcs : {W : Type 0} (a b : Body W) (xs ys : List Arc) (us vs ws : List W) → zip xs us ≡ a.arcs → zip ys vs ≡ b.arcs → length us ≡ length xs → ws ≡ us ++ vs
    → zip (xs ++ map (raised_arc a.states) ys) ws ≡ (sum_body a b).arcs
sum_arcs a b xs ys us vs ws ea eb l e =
    ap (zip (xs ++ map (raised_arc a.states) ys)) e
    ∙ zipped_append xs (map (raised_arc a.states) ys) us vs (sym l)
    ∙ ap₂ ◌++◌ ea (zipped_map (raised_arc a.states) ys vs ∙ ap (map (raised a.states)) eb)

-- arcs written after the first n of `all`
pub arcs_after : (all xs ys : List Arc) (n m : ℕ) → xs ≡ between 0 n all → length xs ≡ n → length ys ≡ m
    → between 0 (length xs + m) (put_mid (length xs) (length xs + m - length xs) all ys) ≡ xs ++ ys
arcs_after all xs ys n m is long lm =
    let start : xs ≡ take (length xs) all = is ∙ ap (λ k. take k all) (omega arith) in
    let fits : length xs ≤ length all = omega (arith, ap length start, length-take (length xs) all) in
    take-put_mid (length xs) _ all ys _ (omega arith) fits ∙ ap (λ zs. zs ++ ys) (sym start)
