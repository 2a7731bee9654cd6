-- Finite sums and products over a kind.
use Rattle.std.specs.Prelude.{◌≡◌, List, [], ◌∷◌}
use Rattle.weight.specs.Kinds.{Kind}

-- the sum of f x over the x of a list
abbrev pub total : {W A : Type 0} → Kind W → List A → (A → W) → W
total k [] f = k.zero
total k (x ∷ xs) f = k.plus (f x) (total k xs f)

-- the product of a list, its first factor first
abbrev pub product : {W : Type 0} → Kind W → List W → W
product k [] = k.one
product k (x ∷ xs) = k.times x (product k xs)

-- two sums may be exchanged, and a factor distributes over a sum from either side
pub record SumLaws {W : Type 0} (k : Kind W) (A B : Type 0) : Type 0 where
  pub exchange : (xs : List A) (ys : List B) (f : A → B → W)
      → total k xs (λ x. total k ys (f x)) ≡ total k ys (λ y. total k xs (λ x. f x y))
  pub times_total : (c : W) (xs : List A) (f : A → W) → k.times c (total k xs f) ≡ total k xs (λ x. k.times c (f x))
  pub total_times : (c : W) (xs : List A) (f : A → W) → k.times (total k xs f) c ≡ total k xs (λ x. k.times (f x) c)
