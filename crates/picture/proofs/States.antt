-- Sums over the states 0, …, n - 1.
use Rattle.std.proofs.Common.{◌≡◌, ℕ, zero, suc, ◌+◌, ◌<◌, ◌≤◌, Bool, true, false, cond, eqb, [], ◌∷◌, ◌++◌, sym, refl, ap, ◌∙◌, ap₂, ⊎_elim, add-zero, suc-add, zero-add, arith}
use Rattle.std.specs.List.{range_with_len, AllByRecursion}
use Rattle.std.proofs.ByRecursion.{All-weaker}
use Rattle.std.proofs.lemmas.Bool.{cases_eq, eq-eqb, ne_eqb}
use Rattle.weight.specs.Kinds.{Kind, Laws}
use Rattle.weight.specs.Sums.{total}
use Rattle.weight.proofs.Totals.{zero_plus, total_append, total_all}

all_counting : (a n : ℕ) → AllByRecursion (λ i. i < a + n) (range_with_len a n)
all_counting a zero = tt
all_counting a (suc n) = (omega arith, All-weaker (λ i. i < a + 1 + n) (λ i. i < a + suc n) (λ i h. omega arith) _ (all_counting (a + 1) n))

pub all_below : (n : ℕ) → AllByRecursion (λ i. i < n) (range_with_len 0 n)
all_below n = All-weaker (λ i. i < 0 + n) (λ i. i < n) (λ i h. omega arith) _ (all_counting 0 n)

pub counting_append : (a m n : ℕ) → range_with_len a (m + n) ≡ range_with_len a m ++ range_with_len (a + m) n
counting_append a zero n = ap₂ range_with_len (sym (add-zero a)) (zero-add n)
counting_append a (suc m) n =
    ap (range_with_len a) (suc-add m n)
    ∙ ap (λ is. a ∷ is) (counting_append (a + 1) m n ∙ ap (λ x. range_with_len (a + 1) m ++ range_with_len x n) (omega arith))

pub counting_more : (m : ℕ) → range_with_len 0 (m + 1) ≡ range_with_len 0 m ++ (m ∷ [])
counting_more m = counting_append 0 m 1 ∙ ap (λ x. range_with_len 0 m ++ (x ∷ [])) (zero-add m)

module _ {W : Type 0} {k : Kind W} (laws : Laws k) where
  pub total_below : (n : ℕ) (f g : ℕ → W) → ((i : ℕ) → i < n → f i ≡ g i) → total k (range_with_len 0 n) f ≡ total k (range_with_len 0 n) g
  total_below n f g e = total_all laws (λ i. i < n) _ f g (all_below n) e

  -- one state more
  pub states_more : (m : ℕ) (f : ℕ → W) → total k (range_with_len 0 (m + 1)) f ≡ k.plus (total k (range_with_len 0 m) f) (f m)
  states_more m f =
      ap (λ is. total k is f) (counting_more m) ∙ total_append laws (range_with_len 0 m) (m ∷ []) f ∙ ap (k.plus (total k (range_with_len 0 m) f)) (laws.plus_zero (f m))

  pub times_cond : (c x : W) (t : Bool) → k.times c (cond t x k.zero) ≡ cond t (k.times c x) k.zero
  times_cond c x true = refl
  times_cond c x false = laws.times_zero c

  pub cond_times : (c x : W) (t : Bool) → k.times (cond t x k.zero) c ≡ cond t (k.times x c) k.zero
  cond_times c x true = refl
  cond_times c x false = laws.zero_times c

  pick_none : (a n j : ℕ) (f : ℕ → W) → j < a → total k (range_with_len a n) (λ i. cond (eqb i j) (f i) k.zero) ≡ k.zero
  pick_none a zero j f h = refl
  pick_none a (suc n) j f h =
      ap₂ k.plus (ap (λ t. cond t (f a) k.zero) (ne_eqb a j (λ e. omega arith))) (pick_none (a + 1) n j f (omega arith)) ∙ zero_plus laws k.zero

  pick_from : (a n j : ℕ) (f : ℕ → W) → a ≤ j → j < a + n → total k (range_with_len a n) (λ i. cond (eqb i j) (f i) k.zero) ≡ f j
  pick_from a zero j f h l = absurd (omega arith)
  pick_from a (suc n) j f h l =
      ⊎_elim
      (λ e. ap₂ k.plus (ap (λ t. cond t (f a) k.zero) (eq-eqb a j e)) (pick_none (a + 1) n j f (omega arith)) ∙ laws.plus_zero (f a) ∙ ap f e)
      (λ ne. ap₂ k.plus (ap (λ t. cond t (f a) k.zero) (ne_eqb a j ne)) (pick_from (a + 1) n j f (omega arith) (omega arith)) ∙ zero_plus laws (f j))
      (cases_eq a j)

  -- of the states below n, only j counts
  pub pick : (n j : ℕ) (f : ℕ → W) → j < n → total k (range_with_len 0 n) (λ i. cond (eqb i j) (f i) k.zero) ≡ f j
  pick n j f h = pick_from 0 n j f (omega arith) (omega arith)
