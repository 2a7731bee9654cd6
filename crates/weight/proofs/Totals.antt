-- What the laws of a kind give of finite sums.
use Rattle.std.proofs.Common.{◌≡◌, List, [], ◌∷◌, ◌++◌, map, sym, refl, ap, ◌∙◌, ap₂}
use Rattle.std.specs.List.{flat_map, AllByRecursion}
use Rattle.weight.specs.Kinds.{Kind, Laws}
use Rattle.weight.specs.Sums.{total, SumLaws}

module _ {W : Type 0} {k : Kind W} (laws : Laws k) where
  pub zero_plus : (x : W) → k.plus k.zero x ≡ x
  zero_plus x = laws.plus_comm k.zero x ∙ laws.plus_zero x

  -- (x + y) + (z + t) = (x + z) + (y + t)
  pub plus_four : (x y z t : W) → k.plus (k.plus x y) (k.plus z t) ≡ k.plus (k.plus x z) (k.plus y t)
  plus_four x y z t =
      laws.plus_assoc x y (k.plus z t)
      ∙ ap (k.plus x) (sym (laws.plus_assoc y z t) ∙ ap (λ u. k.plus u t) (laws.plus_comm y z) ∙ laws.plus_assoc z y t)
      ∙ sym (laws.plus_assoc x z (k.plus y t))

  pub total_append : {A : Type 0} (xs ys : List A) (f : A → W) → total k (xs ++ ys) f ≡ k.plus (total k xs f) (total k ys f)
  total_append [] ys f = sym (zero_plus (total k ys f))
  total_append (x ∷ xs) ys f = ap (k.plus (f x)) (total_append xs ys f) ∙ sym (laws.plus_assoc (f x) (total k xs f) (total k ys f))

  pub total_map : {A B : Type 0} (g : A → B) (xs : List A) (f : B → W) → total k (map g xs) f ≡ total k xs (λ x. f (g x))
  total_map g [] f = refl
  total_map g (x ∷ xs) f = ap (k.plus (f (g x))) (total_map g xs f)

  pub total_joined : {A B : Type 0} (g : A → List B) (xs : List A) (f : B → W) → total k (flat_map g xs) f ≡ total k xs (λ x. total k (g x) f)
  total_joined g [] f = refl
  total_joined g (x ∷ xs) f = total_append (g x) (flat_map g xs) f ∙ ap (k.plus (total k (g x) f)) (total_joined g xs f)

  -- equal terms, under a fact of each element
  pub total_all : {A : Type 0} (P : A → Type 0) (xs : List A) (f g : A → W) → AllByRecursion P xs → ((x : A) → P x → f x ≡ g x) → total k xs f ≡ total k xs g
  total_all P [] f g h e = refl
  total_all P (x ∷ xs) f g h e = ap₂ k.plus (e x h.0) (total_all P xs f g h.1 e)

  pub total_zero : {A : Type 0} (xs : List A) → total k xs (λ _. k.zero) ≡ k.zero
  total_zero [] = refl
  total_zero (x ∷ xs) = zero_plus _ ∙ total_zero xs

  pub total_plus : {A : Type 0} (xs : List A) (f g : A → W) → total k xs (λ x. k.plus (f x) (g x)) ≡ k.plus (total k xs f) (total k xs g)
  total_plus [] f g = sym (zero_plus k.zero)
  total_plus (x ∷ xs) f g = ap (k.plus (k.plus (f x) (g x))) (total_plus xs f g) ∙ plus_four (f x) (g x) (total k xs f) (total k xs g)

  pub total_swap : {A B : Type 0} (xs : List A) (ys : List B) (f : A → B → W) → total k xs (λ x. total k ys (f x)) ≡ total k ys (λ y. total k xs (λ x. f x y))
  total_swap [] ys f = sym (total_zero ys)
  total_swap (x ∷ xs) ys f = ap (k.plus (total k ys (f x))) (total_swap xs ys f) ∙ sym (total_plus ys (f x) (λ y. total k xs (λ x. f x y)))

  pub times_total : {A : Type 0} (c : W) (xs : List A) (f : A → W) → k.times c (total k xs f) ≡ total k xs (λ x. k.times c (f x))
  times_total c [] f = laws.times_zero c
  times_total c (x ∷ xs) f = laws.times_plus c (f x) (total k xs f) ∙ ap (k.plus (k.times c (f x))) (times_total c xs f)

  pub total_times : {A : Type 0} (c : W) (xs : List A) (f : A → W) → k.times (total k xs f) c ≡ total k xs (λ x. k.times (f x) c)
  total_times c [] f = laws.zero_times c
  total_times c (x ∷ xs) f = laws.plus_times (f x) (total k xs f) c ∙ ap (k.plus (k.times (f x) c)) (total_times c xs f)

  pub sums_stand : (A B : Type 0) → SumLaws k A B
  sums_stand A B = record { exchange = total_swap; times_total = times_total; total_times = total_times }

  module _ {A : Type 0} (f : A → W) where
    pub total_start : (xs ys : List A) (t : W) → t ≡ k.zero → xs ≡ ys → k.plus t (total k xs f) ≡ total k ys f
    total_start xs ys t e h = ap₂ k.plus e (ap (λ zs. total k zs f) h) ∙ zero_plus _

    pub total_more : (xs ys : List A) (x : A) (t u r : W) → xs ≡ x ∷ ys → u ≡ k.plus t (f x) → k.plus t (total k xs f) ≡ r → k.plus u (total k ys f) ≡ r
    total_more xs ys x t u r h e q =
        ap (λ v. k.plus v (total k ys f)) e ∙ laws.plus_assoc t (f x) (total k ys f) ∙ ap (λ zs. k.plus t (total k zs f)) (sym h) ∙ q

    pub total_end : (xs : List A) (t r : W) → xs ≡ [] → k.plus t (total k xs f) ≡ r → t ≡ r
    total_end xs t r h q = sym (laws.plus_zero t) ∙ ap (λ zs. k.plus t (total k zs f)) (sym h) ∙ q
