-- Columns along one digit more.
use Rattle.std.proofs.Common.{◌≡◌, ℕ, zero, suc, ◌+◌, ◌*◌, ◌/◌, ◌%◌, ◌^◌, ◌<◌, ◌≤◌, List, [], ◌∷◌, length, take, sym, refl, ap, ◌∙◌, ap₂, append-nil, mod-lt, pow-suc, add-one, arith}
use Rattle.std.specs.List.{range_with_len, flat_map}
use Rattle.weight.specs.Kinds.{Kind}
use Rattle.picture.specs.Bodies.{Edge}
use Rattle.picture.specs.Cells.{base_four}
use Rattle.picture.specs.Quadrants.{named}
use Rattle.picture.specs.Steps.{spreads, backed}
use Rattle.picture.proofs.Carries.{length_backed}
use Rattle.tile.specs.Bands.{slot, columns_along}
use Rattle.tile.proofs.Joins.{joined_below, slot_joined, length_slot}
use Rattle.tile.proofs.Squares.{part_fits, four_pos, all_written}

pub four_more : (j : ℕ) → 4 ^ (j + 1) ≡ 4 * 4 ^ j
four_more j = ap (λ z. 4 ^ z) (add-one j) ∙ pow-suc 4 j ∙ omega arith

pub lift_room : (c j count n len : ℕ) → count ≡ 4 ^ j → c < 4 * count → len ≡ 4 ^ (j + 1) * n → c * n + n ≤ len
lift_room c j count n len e h l = omega (arith, part_fits c (4 * count) n h, ap (λ z. z * n) (four_more j ∙ ap (λ z. 4 * z) (sym e)))

-- the part that a column is written to is as long as a column
pub next_long : {W : Type 0} (c j count n : ℕ) (longer : List W) → count ≡ 4 ^ j → c < 4 * count → length longer ≡ 4 ^ (j + 1) * n → length (slot n c longer) ≡ n
next_long c j count n longer e h l = length_slot n c longer (lift_room c j count n (length longer) e h l)

-- the lower digits of a number are those of its remainder
prefix_rest : (j c : ℕ) → j ≤ 1 → base_four j (c % 4 ^ j) ≡ base_four j c
prefix_rest zero c h = refl
prefix_rest (suc zero) c h = let e : c % 4 / 1 % 4 ≡ c / 1 % 4 = omega arith in ap (λ z. named z ∷ []) e
prefix_rest (suc (suc j)) c h = absurd (omega arith)

first_digit : (j c : ℕ) → j ≤ 1 → c < 4 ^ (j + 1) → c / 4 ^ j ≡ c / 4 ^ j % 4
first_digit zero c h l = omega arith
first_digit (suc zero) c h l = omega arith
first_digit (suc (suc j)) c h l = absurd (omega arith)

module _ {W : Type 0} (k : Kind W) (arcs : List (Edge W)) (n : ℕ) (columns : List W) (j : ℕ) where
  abbrev pub lifted : ℕ → ℕ → List W
  lifted count c = spreads k arcs n (slot n (c % count) columns) (named (c / count))

  pub lift_all : (count c : ℕ) (longer : List W) → count ≡ 4 ^ j → c ≡ 4 * count → length longer ≡ 4 ^ (j + 1) * n
      → take (c * n) longer ≡ flat_map (lifted count) (range_with_len 0 c) → longer ≡ flat_map (lifted (4 ^ j)) (range_with_len 0 (4 ^ (j + 1)))
  lift_all count c longer e f l h =
      let all : c ≡ 4 ^ (j + 1) = omega (arith, four_more j) in
      all_written _ (4 ^ (j + 1)) n longer l
      (ap (λ z. take (z * n) longer) (sym all) ∙ h ∙ ap₂ (λ z m. flat_map (lifted z) (range_with_len 0 m)) e all)

  -- the columns of one digit more
  pub lift_columns : (column longer : List W) → j ≤ 1 → length column ≡ n → columns ≡ columns_along k arcs n column j
      → longer ≡ flat_map (lifted (4 ^ j)) (range_with_len 0 (4 ^ (j + 1))) → longer ≡ columns_along k arcs n column (j + 1)
  lift_columns column longer few long e f =
      f ∙ joined_below _ _ (4 ^ (j + 1)) (λ c h.
      ap₂ (spreads k arcs n)
      (ap (slot n (c % 4 ^ j)) e
      ∙ slot_joined (λ c. backed k arcs n (base_four j c) column) n (4 ^ j) (c % 4 ^ j) (λ i l. length_backed k arcs n (base_four j i) column long) (mod-lt c (four_pos j))
      ∙ ap (λ w. backed k arcs n w column) (prefix_rest j c few))
      (ap named (first_digit j c few h))
      ∙ ap (λ z. backed k arcs n (base_four z c) column) (sym (add-one j)))

pub no_digits : {W : Type 0} (k : Kind W) (arcs : List (Edge W)) (n : ℕ) (column : List W) → column ≡ columns_along k arcs n column 0
no_digits k arcs n column = sym (append-nil column)
