-- Taking a remainder, or stopping at a cap, can be left out of a sum's and a product's parts.
use Rattle.std.specs.Prelude.{◌≡◌, ℕ, zero, suc, ◌+◌, ◌*◌, ◌/◌, ◌%◌, min}
use Rattle.std.proofs.Common.{sym, ap, ◌∙◌, add-mul, mul_right_comm, mul-zero, mul-suc, arith, ⊎_elim}
use Rattle.std.proofs.Math.Nat.{mod-add-div', add-mul-mod_self_right, min-eq_left}
use Rattle.std.proofs.lemmas.Bool.{cases_lt}

pub mod-mul-mod : (a m b : ℕ) → (a % m * b) % m ≡ (a * b) % m
mod-mul-mod a m b =
    let split : a * b ≡ a % m * b + a / m * b * m =
    ap (λ x. x * b) (sym (mod-add-div' a m)) ∙ add-mul (a % m) (a / m * m) b ∙ ap (λ x. a % m * b + x) (mul_right_comm (a / m) m b) in
    sym (ap (λ x. x % m) split ∙ add-mul-mod_self_right (a % m * b) (a / m * b) m)

pub cap_add_cap : (a c b : ℕ) → min (min a c + b) c ≡ min (a + b) c
cap_add_cap a c b = omega arith

pub cap_min_cap : (a c b : ℕ) → min (min (min a c) b) c ≡ min (min a b) c
cap_min_cap a c b = omega arith

pub cap_mul_cap : (a c b : ℕ) → min (min a c * b) c ≡ min (a * b) c
cap_mul_cap a c zero = simp mul-zero
cap_mul_cap a c (suc b) =
    ⊎_elim (λ h. omega (arith, mul-suc (min a c) b, mul-suc a b)) (λ h. ap (λ x. min (x * suc b) c) (min-eq_left h)) (cases_lt c a)
