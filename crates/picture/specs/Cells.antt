-- Where the cells of a picture lie, and the cells of a tile.
use Rattle.std.specs.Prelude.{ℕ, zero, suc, ◌+◌, ◌-◌, ◌*◌, ◌/◌, ◌%◌, ◌^◌, ◌<◌, ◌≤◌, List, [], ◌∷◌, ◌++◌, map}
use Rattle.std.specs.List.{range_with_len, flat_map}
use Rattle.picture.specs.Quadrants.{Address, named}

abbrev pub bit : ℕ → ℕ → ℕ
bit i n = n / 2 ^ i % 2

-- The cell in column x and row y at depth k: digit i, from 1 to k, is bit k - i of x plus twice bit k - i of y.
abbrev pub cell : ℕ → ℕ → ℕ → Address
cell zero x y = []
cell (suc k) x y = named (bit k x + 2 * bit k y) ∷ cell k x y

-- the j digits of a number in base 4, the coarsest highest
abbrev pub base_four : ℕ → ℕ → Address
base_four zero n = []
base_four (suc j) n = named (n / 4 ^ j % 4) ∷ base_four j n

-- row y of the cells at depth k below a prefix
abbrev pub row_of_cells : Address → ℕ → ℕ → List Address
row_of_cells u k y = map (λ x. u ++ cell k x y) (range_with_len 0 (2 ^ k))

-- the 4^k cells at depth k below a prefix, row by row from the top
abbrev pub cells_below : Address → ℕ → List Address
cells_below u k = flat_map (row_of_cells u k) (range_with_len 0 (2 ^ k))

-- the cells at a depth under the prefix of j digits with number n
abbrev pub tile : (depth j n : ℕ) → List Address
tile depth j n = cells_below (base_four j n) (depth - j)

-- Depth at most 12, a prefix no longer than the depth, a tile depth of at most 6, a prefix below 4 to its length.
pub record Printable (depth j n : ℕ) : Type 0 where
  pub depth_to : depth ≤ 12
  pub length_to : j ≤ depth
  pub tile_to : depth - j ≤ 6
  pub prefix_to : n < 4 ^ j
