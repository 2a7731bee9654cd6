-- For the contracts of private functions: rows and columns of weights laid out one after the other, n weights each.
use Rattle.std.specs.Prelude.{ℕ, zero, suc, ◌+◌, ◌*◌, ◌^◌, List, map}
use Rattle.std.specs.List.{between, range_with_len, flat_map}
use Rattle.weight.specs.Kinds.{Kind}
use Rattle.weight.specs.Sums.{total}
use Rattle.picture.specs.Bodies.{Body, Edge}
use Rattle.picture.specs.Cells.{bit, cell, base_four}
use Rattle.picture.specs.Pictures.{value}
use Rattle.picture.specs.Steps.{at_state, carried, backed}

-- the i-th row or column
abbrev pub slot : {W : Type 0} → ℕ → ℕ → List W → List W
slot n i xs = between (i * n) (i * n + n) xs

-- a row times a column
abbrev pub meeting : {W : Type 0} → Kind W → ℕ → List W → List W → W
meeting k n row column = total k (range_with_len 0 n) (λ q. k.times (at_state k row q) (at_state k column q))

module _ {W : Type 0} (k : Kind W) (arcs : List (Edge W)) (n : ℕ) where
  -- what a row becomes along each cell in row y at depth h
  abbrev pub rows_along : List W → ℕ → ℕ → List W
  rows_along row h y = flat_map (λ x. carried k arcs n (cell h x y) row) (range_with_len 0 (2 ^ h))

  -- what a column becomes along each address of l digits, in the order of their numbers
  abbrev pub columns_along : List W → ℕ → List W
  columns_along column l = flat_map (λ c. backed k arcs n (base_four l c) column) (range_with_len 0 (4 ^ l))

-- the number whose digits in base 4 are those of a cell: bit j of x plus twice bit j of y
abbrev pub interleaved : ℕ → ℕ → ℕ → ℕ
interleaved zero x y = 0
interleaved (suc j) x y = (bit j x + 2 * bit j y) * 4 ^ j + interleaved j x y

-- row y of the cells at a depth that a row of weights gives
abbrev pub cells_in_row : {W : Type 0} → Kind W → Body W → List W → ℕ → ℕ → List W
cells_in_row k b row depth y = map (λ x. value k b (at_state k row) (cell depth x y)) (range_with_len 0 (2 ^ depth))
