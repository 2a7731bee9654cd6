-- Sums over the places of a key.
use Rattle.std.proofs.Common.{◌≡◌, ℕ, ◌+◌, ◌*◌, ◌<◌, ◌≤◌, Bool, true, false, cond, ◌&&◌, eqb, List, [], ◌∷◌, length, get_or, set, filter, sym, refl, ap, ◌∙◌, subst, arith}
use Rattle.std.specs.List.{zip, range_with_len, AllByRecursion as All}
use Rattle.std.proofs.lemmas.List.FromFn.{fill_by_all}
use Rattle.std.proofs.lemmas.List.Edits.{fill_by_more}
use Rattle.std.proofs.ByRecursion.{All-get_or}
use Rattle.std.proofs.lemmas.Slice.Zip.{get_or-zip, length-zip}
use Rattle.weight.specs.Kinds.{Kind, Laws}
use Rattle.weight.specs.Sums.{total}
use Rattle.weight.proofs.Totals.{zero_plus, total_map}
use Rattle.picture.specs.Bodies.{Edge, Within}
use Rattle.picture.specs.Quadrants.{digit, same}
use Rattle.picture.specs.declared.body.Arc.{Arc}
use Rattle.picture.specs.declared.quadrant.Quadrant.{Quadrant}
use Rattle.picture.proofs.States.{total_below}
use Rattle.index.specs.Indexes.{part, Indexed}
use Rattle.index.specs.Keys.{none, key, end_of, placed}
use Rattle.index.specs.Terms.{edge_at}
use Rattle.index.specs.declared.index.End.{End}
use Rattle.index.specs.declared.index.End.TheVariants.{From, To}
use Rattle.index.specs.declared.index.Index.{Index}
use Rattle.index.proofs.Parts.{key_tells, key_below}

end_within : (e : End) (n : ℕ) (a : Arc) → n ≤ 64 → Within n a → end_of e a < 64
end_within From n a h w = omega (arith, w.0)
end_within To n a h w = omega (arith, w.1)

module _ {W : Type 0} {k : Kind W} (laws : Laws k) where
  -- a sum over what passes a test
  total_kept : {A : Type 0} (p : A → Bool) (t : A → W) (xs : List A) → total k (filter p xs) t ≡ total k xs (λ x. cond (p x) (t x) k.zero)
  total_kept p t [] = refl
  total_kept {A} p t (x ∷ xs) = one (p x) (filter p xs) _ (total_kept p t xs)
    where
      one : (b : Bool) (ys : List A) (r : W) → total k ys t ≡ r → total k (cond b (x ∷ ys) ys) t ≡ k.plus (cond b (t x) k.zero) r
      one true ys r e = ap (k.plus (t x)) e
      one false ys r e = e ∙ sym (zero_plus laws r)

  -- a sum over the places of a list is one over the list
  total_places : {A : Type 0} (xs : List A) (d : A) (t : A → W) → total k (range_with_len 0 (length xs)) (λ i. t (get_or xs i d)) ≡ total k xs t
  total_places xs d t =
      sym (total_map laws (λ i. get_or xs i d) (range_with_len 0 (length xs)) t) ∙ ap (λ zs. total k zs t) (sym (fill_by_all (λ i. get_or xs i d) xs (length xs) d refl (λ i h. refl)))

  module _ (arcs : List Arc) (weights : List W) (weighted : length weights ≡ length arcs) (term : Edge W → W) where
    -- a sum over the places of a key is one over the arcs with a test
    total_placed : (f : Arc → ℕ) (m : ℕ) (test : Arc → Bool) (P : Arc → Type 0) → All P arcs → ((a : Arc) → P a → eqb (f a) m ≡ test a)
        → total k (placed (λ i. f (get_or arcs i none)) (length arcs) m) (λ i. term (edge_at k arcs weights i)) ≡ total k (zip arcs weights) (λ e. cond (test e.0) (term e) k.zero)
    total_placed f m test P all same_test =
        total_kept (λ i. eqb (f (get_or arcs i none)) m) _ (range_with_len 0 (length arcs))
        ∙ total_below laws (length arcs) _ (λ i. adds (get_or edges i past)) at_place
        ∙ ap (λ n. total k (range_with_len 0 n) (λ i. adds (get_or edges i past))) (omega (arith, length-zip arcs weights))
        ∙ total_places edges past adds
      where
        edges : List (Edge W)
        edges = zip arcs weights

        past : Edge W
        past = (none, k.zero)

        adds : Edge W → W
        adds e = cond (test e.0) (term e) k.zero

        at_place : (i : ℕ) → i < length arcs → cond (eqb (f (get_or arcs i none)) m) (term (edge_at k arcs weights i)) k.zero ≡ adds (get_or edges i past)
        at_place i h =
            ap (λ b. cond b (term (edge_at k arcs weights i)) k.zero) (same_test (get_or arcs i none) (All-get_or P arcs i none h all))
            ∙ ap adds (sym (get_or-zip arcs weights i past h (omega arith)))

    module _ (e : End) (x : Index) (indexed : Indexed e arcs x) (n : ℕ) (few : n ≤ 64) (ends : All (Within n) arcs) (d : Quadrant) where
      -- the sum over the arcs that have the digit and the state
      abbrev entry_of : ℕ → W
      entry_of s = total k (zip arcs weights) (λ a. cond (eqb s (end_of e a.0) && same d a.0.quadrant) (term a) k.zero)

      total_part : (s : ℕ) → s < 64 → total k (part x (digit d * 64 + s)) (λ i. term (edge_at k arcs weights i)) ≡ entry_of s
      total_part s h =
          ap (λ is. total k is (λ i. term (edge_at k arcs weights i))) (indexed.parts (digit d * 64 + s) (key_below d s h))
          ∙ total_placed (key e) (digit d * 64 + s) (λ a. eqb s (end_of e a) && same d a.quadrant) (Within n) ends
          (λ a w. key_tells e d s a (end_within e n a few w) h)

      -- one entry more
      pub entries_more : (s : ℕ) (next : List W) (places : List ℕ) (v : W) → s < 64 → s < length next → places ≡ part x (digit d * 64 + s)
          → v ≡ total k places (λ i. term (edge_at k arcs weights i))
          → ((q : ℕ) → q < s → get_or next q k.zero ≡ entry_of q) → (q : ℕ) → q < s + 1 → get_or (set next s v) q k.zero ≡ entry_of q
      entries_more s next places v h l found is old =
          let entry : v ≡ entry_of s = is ∙ ap (λ ps. total k ps (λ i. term (edge_at k arcs weights i))) found ∙ total_part s h in
          subst (λ w. (q : ℕ) → q < s + 1 → get_or (set next s w) q k.zero ≡ entry_of q) (sym entry) (fill_by_more entry_of next s k.zero l old)
