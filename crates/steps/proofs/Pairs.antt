-- What a walk over two slices side by side has left, and sums over pairs.
use Rattle.std.proofs.Common.{◌≡◌, ℕ, ◌+◌, suc, List, [], ◌∷◌, length, Iter, ap, ap₂, refl, ◌∙◌, ◌⊎◌, inl, inr, sym, arith}
use Rattle.std.proofs.lemmas.List.{nil_from_length}
use Rattle.std.specs.List.{zip, range_with_len}
use Rattle.std.specs.Slice.Iter.{iter_rest}
use Rattle.std.specs.declared.iter.Zip.{Zip}
use Rattle.weight.specs.Kinds.{Kind, Laws}
use Rattle.weight.specs.Sums.{total}
use Rattle.weight.proofs.Totals.{total_map}
use Rattle.picture.specs.Steps.{at_state}
use Rattle.picture.proofs.StateSums.{counting_shift}
use Rattle.picture.proofs.States.{total_below}

-- the pairs that are left
abbrev pub pairs_rest : {A B : Type 0} → Zip (Iter A) (Iter B) → List (A × B)
pairs_rest z = zip (iter_rest z.a) (iter_rest z.b)

-- all pairs are left where a walk begins
pub all_pairs : {A B : Type 0} (s t : Zip (Iter A) (Iter B)) (a : Iter A) (xs : List A) (ys : List B) → s ≡ t → t.a ≡ a → iter_rest a ≡ xs → iter_rest t.b ≡ ys
    → pairs_rest s ≡ zip xs ys
all_pairs s t a xs ys is first front back = ap pairs_rest is ∙ ap₂ zip (ap iter_rest first ∙ front) back

zip_none : {A B : Type 0} (xs : List A) → zip {X = B} xs [] ≡ []
zip_none [] = refl
zip_none (x ∷ xs) = refl

-- no pair is left where one of the slices is at its end
pub no_pairs : {A B : Type 0} (s : Zip (Iter A) (Iter B))
    → ((x : Iter A) × ((length (iter_rest s.a) ≡ 0) × (x ≡ s.a))) ⊎ ((x : Iter B) × ((length (iter_rest s.b) ≡ 0) × (x ≡ s.b)))
    → pairs_rest s ≡ []
no_pairs s (inl h) = ap (λ xs. zip xs (iter_rest s.b)) (nil_from_length (iter_rest s.a) h.1.0)
no_pairs s (inr h) = ap (zip (iter_rest s.a)) (nil_from_length (iter_rest s.b) h.1.0) ∙ zip_none (iter_rest s.a)

-- a step takes one pair
pub one_pair : {A B : Type 0} (s t : Zip (Iter A) (Iter B)) (a : A) (b : B)
    → (iter_rest s.a ≡ a ∷ iter_rest t.a) × (iter_rest s.b ≡ b ∷ iter_rest t.b)
    → pairs_rest s ≡ (a, b) ∷ pairs_rest t
one_pair s t a b h = ap₂ zip h.0 h.1

-- a sum over two lists side by side goes by the states
pub total_pairs : {W : Type 0} {k : Kind W} → Laws k → (xs ys : List W) → length xs ≡ length ys
    → total k (zip xs ys) (λ p. k.times p.0 p.1) ≡ total k (range_with_len 0 (length xs)) (λ q. k.times (at_state k xs q) (at_state k ys q))
total_pairs laws [] ys e = refl
total_pairs laws (x ∷ xs) [] e = absurd (omega arith)
total_pairs {k = k} laws (x ∷ xs) (y ∷ ys) e =
    let term = λ (q : ℕ). k.times (at_state k (x ∷ xs) q) (at_state k (y ∷ ys) q) in
    ap (k.plus (k.times x y))
    (total_pairs laws xs ys (omega arith)
    ∙ total_below laws (length xs) _ (λ i. term (1 + i)) (λ i h. let one : suc i ≡ 1 + i = omega arith in ap term one)
    ∙ sym (ap (λ is. total k is term) (counting_shift 1 0 (length xs)) ∙ total_map laws (λ i. 1 + i) (range_with_len 0 (length xs)) term))
