-- The rows along a band of cells: one row, and two halves.
use Rattle.std.proofs.Common.{◌≡◌, ℕ, suc, ◌+◌, ◌-◌, ◌*◌, ◌/◌, ◌^◌, List, ◌++◌, sym, ap, ◌∙◌, ap₂, add-mul, arith}
use native.Mathlib.Nat.{two-pow-succ}
use Rattle.std.specs.List.{range_with_len, flat_map}
use Rattle.weight.specs.Kinds.{Kind}
use Rattle.picture.specs.Bodies.{Edge}
use Rattle.picture.specs.Cells.{bit, cell}
use Rattle.picture.specs.Quadrants.{named}
use Rattle.picture.specs.Steps.{stepped, carried}
use Rattle.tile.specs.Bands.{rows_along}
use Rattle.tile.proofs.Bits.{cell_low, bit_left, bit_right}
use Rattle.tile.proofs.Joins.{joined_below, joined_add}

module _ {W : Type 0} (k : Kind W) (arcs : List (Edge W)) (n : ℕ) (row : List W) (y : ℕ) where
  pub rows_more : (left right xs ys : List W) (h j : ℕ) → h ≡ suc j
      → left ≡ stepped k arcs n row (named (2 * bit j y)) → right ≡ stepped k arcs n row (named (1 + 2 * bit j y))
      → xs ≡ rows_along k arcs n left j y → ys ≡ rows_along k arcs n right j y → xs ++ ys ≡ rows_along k arcs n row h y
  rows_more left right xs ys h j e el er ex ey =
      ap₂ ◌++◌
      (ex ∙ joined_below _ _ (2 ^ j) (λ x l. ap (carried k arcs n (cell j x y)) (el ∙ digit (2 * bit j y) (bit j x + 2 * bit j y) (omega (arith, bit_left j x l)))))
      (ey ∙ joined_below _ _ (2 ^ j) (λ x l.
      ap₂ (carried k arcs n) (sym (cell_low j j x y (omega arith))) (er ∙ digit (1 + 2 * bit j y) (bit j (2 ^ j + x) + 2 * bit j y) (omega (arith, bit_right j x l)))))
      ∙ sym (joined_add (λ x. carried k arcs n (cell (suc j) x y) row) (2 ^ j) (2 ^ j))
      ∙ ap (λ z. flat_map (λ x. carried k arcs n (cell (suc j) x y) row) (range_with_len 0 z)) (sym (two-pow-succ j))
      ∙ ap (λ h. rows_along k arcs n row h y) (sym e)
    where
      digit : (a b : ℕ) → a ≡ b → stepped k arcs n row (named a) ≡ stepped k arcs n row (named b)
      digit a b f = ap (λ z. stepped k arcs n row (named z)) f

doubled : (h n : ℕ) → (h ≡ 0 → ⊥) → 2 ^ h * n ≡ 2 ^ (h - 1) * n + 2 ^ (h - 1) * n
doubled h n d = ap (λ z. z * n) (ap (λ z. 2 ^ z) (omega arith) ∙ two-pow-succ (h - 1)) ∙ add-mul (2 ^ (h - 1)) (2 ^ (h - 1)) n

-- half of the rows at one level are those at the next
pub half_is : (len h n : ℕ) → len ≡ 2 ^ h * n → (h ≡ 0 → ⊥) → len / 2 ≡ 2 ^ (h - 1) * n
half_is len h n e d = let f = doubled h n d in omega arith

pub two_halves : (len h n : ℕ) → len ≡ 2 ^ h * n → (h ≡ 0 → ⊥) → len ≡ len / 2 + len / 2
two_halves len h n e d = let f = doubled h n d in omega arith
