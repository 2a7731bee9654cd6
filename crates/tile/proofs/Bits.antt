-- Bits of a column or row number, and the cells that they name.
use Rattle.std.proofs.Common.{◌≡◌, ℕ, zero, suc, ◌+◌, ◌-◌, ◌*◌, ◌/◌, ◌%◌, ◌^◌, ◌<◌, ◌≤◌, ◌∷◌, sym, refl, ap, ◌∙◌, ap₂, arith, pow-add}
use native.Mathlib.Nat.{mul-add-mod_self_right}
use lib.Pow.{field, high}
use Rattle.picture.specs.Cells.{bit, cell}
use Rattle.picture.specs.Quadrants.{named}

-- a bit below the k-th does not see the k-th
bit_low : (i k x : ℕ) → i < k → bit i (2 ^ k + x) ≡ bit i x
bit_low i k x h =
    let e : k ≡ (k - (1 + i)) + (1 + i) = omega arith in
    sym (field (2 ^ k + x) 1 i)
    ∙ ap (λ z. z / 2 ^ i) (ap (λ z. (z + x) % 2 ^ (1 + i)) (ap (λ z. 2 ^ z) e ∙ pow-add 2 (k - (1 + i)) (1 + i)) ∙ mul-add-mod_self_right (2 ^ (k - (1 + i))) (2 ^ (1 + i)) x)
    ∙ field x 1 i

pub cell_low : (j k x y : ℕ) → j ≤ k → cell j (2 ^ k + x) y ≡ cell j x y
cell_low zero k x y h = refl
cell_low (suc j) k x y h = ap₂ (λ b w. named (b + 2 * bit j y) ∷ w) (bit_low j k x (omega arith)) (cell_low j k x y (omega arith))

pub bit_left : (k x : ℕ) → x < 2 ^ k → bit k x ≡ 0
bit_left k x h = ap (λ z. z / 2 ^ k % 2) (omega arith) ∙ ap (λ z. z % 2) (high 0 k h)

pub bit_right : (k x : ℕ) → x < 2 ^ k → bit k (2 ^ k + x) ≡ 1
bit_right k x h = ap (λ z. z / 2 ^ k % 2) (omega arith) ∙ ap (λ z. z % 2) (high 1 k h)
