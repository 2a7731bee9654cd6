-- Sums over the states of two bodies side by side, and over pairs of states.
use Rattle.std.proofs.Common.{◌≡◌, ℕ, zero, suc, ◌+◌, ◌*◌, ◌/◌, ◌%◌, ◌<◌, ◌&&◌, eqb, List, [], ◌∷◌, ◌++◌, map, length, get_or, sym, refl, ap, ◌∙◌, ap₂, inl, inr, add_assoc, suc-mul, zero-mul, add-one, arith}
use lib.Arith.{digits_div, digits_mod}
use Rattle.std.specs.List.{range_with_len}
use Rattle.std.proofs.lemmas.List.{length-append, length-map, get_or_append_left, get_or-append-add, get_or-map}
use Rattle.std.proofs.lemmas.Bool.{cases_eq, eq-eqb, ne_eqb}
use Rattle.weight.specs.Kinds.{Kind, Laws}
use Rattle.weight.specs.Sums.{total}
use Rattle.weight.proofs.Totals.{total_append, total_map}
use Rattle.picture.specs.BodyOperations.{paired}
use Rattle.picture.proofs.States.{counting_append, states_more}

pub counting_shift : (c a n : ℕ) → range_with_len (c + a) n ≡ map (λ i. c + i) (range_with_len a n)
counting_shift c a zero = refl
counting_shift c a (suc n) = ap (λ is. (c + a) ∷ is) (ap (λ x. range_with_len x n) (add_assoc c a 1) ∙ counting_shift c (a + 1) n)

pub eqb_add : (s p q : ℕ) → eqb (s + p) (s + q) ≡ eqb p q
eqb_add s p q =
    elim (cases_eq p q) [
      | inl e ↦ eq-eqb (s + p) (s + q) (omega arith) ∙ sym (eq-eqb p q e)
      | inr ne ↦ ne_eqb (s + p) (s + q) (λ e. ne (omega arith)) ∙ sym (ne_eqb p q ne)
    ]

-- a pair of states is told by its parts
pub eqb_pair : (n p q r s : ℕ) → q < n → s < n → eqb (p * n + q) (r * n + s) ≡ (eqb p r && eqb q s)
eqb_pair n p q r s hq hs =
    elim (cases_eq (p * n + q) (r * n + s)) [
      | inl e ↦
          let left : p ≡ r = sym (digits_div p hq) ∙ ap (λ x. x / n) e ∙ digits_div r hs in
          let right : q ≡ s = sym (digits_mod p hq) ∙ ap (λ x. x % n) e ∙ digits_mod r hs in
          eq-eqb _ _ e ∙ sym (ap₂ ◌&&◌ (eq-eqb p r left) (eq-eqb q s right))
      | inr ne ↦
          elim (cases_eq p r) [
            | inl e ↦ ne_eqb _ _ ne ∙ sym (ap₂ ◌&&◌ (eq-eqb p r e) (ne_eqb q s (λ f. ne (ap₂ (λ x y. x * n + y) e f))))
            | inr apart ↦ ne_eqb _ _ ne ∙ sym (ap (λ t. t && eqb q s) (ne_eqb p r apart))
          ]
    ]

pub length_paired : {A B C : Type 0} (f : A → B → C) (xs : List A) (ys : List B) → length (paired f xs ys) ≡ length xs * length ys
length_paired f [] ys = sym (zero-mul (length ys))
length_paired f (x ∷ xs) ys =
    length-append (map (f x) ys) (paired f xs ys) ∙ ap₂ ◌+◌ (length-map ys (f x)) (length_paired f xs ys) ∙ omega (arith, suc-mul (length xs) (length ys))

pub get_or_paired : {A B C : Type 0} (f : A → B → C) (xs : List A) (ys : List B) (p q : ℕ) (a : A) (b : B) (c : C) → p < length xs → q < length ys
    → get_or (paired f xs ys) (p * length ys + q) c ≡ f (get_or xs p a) (get_or ys q b)
get_or_paired f [] ys p q a b c hp hq = absurd (omega arith)
get_or_paired f (x ∷ xs) ys zero q a b c hp hq =
    ap (λ i. get_or (map (f x) ys ++ paired f xs ys) i c) (omega arith)
    ∙ get_or_append_left (map (f x) ys) _ c q (omega (arith, length-map ys (f x)))
    ∙ get_or-map (f x) ys q b c hq
get_or_paired f (x ∷ xs) ys (suc p) q a b c hp hq =
    ap (λ i. get_or (map (f x) ys ++ paired f xs ys) i c) (omega (arith, suc-mul p (length ys), length-map ys (f x)))
    ∙ get_or-append-add (map (f x) ys) _ (p * length ys + q) c
    ∙ get_or_paired f xs ys p q a b c (omega arith) hq

module _ {W : Type 0} {k : Kind W} (laws : Laws k) where
  pub total_states_add : (m n : ℕ) (f : ℕ → W) → total k (range_with_len 0 (m + n)) f ≡ k.plus (total k (range_with_len 0 m) f) (total k (range_with_len 0 n) (λ i. f (m + i)))
  total_states_add m n f =
      ap (λ is. total k is f) (counting_append 0 m n)
      ∙ total_append laws (range_with_len 0 m) (range_with_len (0 + m) n) f
      ∙ ap (k.plus (total k (range_with_len 0 m) f))
      (ap (λ x. total k (range_with_len x n) f) (omega arith) ∙ ap (λ is. total k is f) (counting_shift m 0 n) ∙ total_map laws (λ i. m + i) (range_with_len 0 n) f)

  pub total_states_mul : (m n : ℕ) (f : ℕ → W) → total k (range_with_len 0 (m * n)) f ≡ total k (range_with_len 0 m) (λ p. total k (range_with_len 0 n) (λ q. f (p * n + q)))
  total_states_mul zero n f = ap (λ x. total k (range_with_len 0 x) f) (zero-mul n)
  total_states_mul (suc m) n f =
      ap (λ x. total k (range_with_len 0 x) f) (suc-mul m n)
      ∙ total_states_add (m * n) n f
      ∙ ap₂ k.plus (total_states_mul m n f) refl
      ∙ sym (states_more laws m (λ p. total k (range_with_len 0 n) (λ q. f (p * n + q))))
      ∙ ap (λ x. total k (range_with_len 0 x) (λ p. total k (range_with_len 0 n) (λ q. f (p * n + q)))) (add-one m)
