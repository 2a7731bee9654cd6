-- Coarse and fine digits of a cell.
use Rattle.std.proofs.Common.{◌≡◌, ℕ, zero, suc, ◌+◌, ◌*◌, ◌/◌, ◌%◌, ◌^◌, ◌<◌, ◌≤◌, [], ◌∷◌, ◌++◌, sym, refl, ap, ◌∙◌, ap₂, div-lt_iff_lt-mul, add_comm, suc-add, pow-suc, zero-add, arith, pow_pos, pow-add, shr-shr}
use Rattle.std.proofs.lemmas.Nat.{mul-le}
use Rattle.picture.specs.Cells.{bit, cell, base_four}
use Rattle.picture.specs.Quadrants.{named}
use Rattle.tile.specs.Bands.{interleaved}
use Rattle.tile.proofs.Squares.{part_fits}

pub interleaved_below : (j x y : ℕ) → interleaved j x y < 4 ^ j
interleaved_below zero x y = omega arith
interleaved_below (suc j) x y =
    let r = interleaved_below j x y in
    let d : bit j x + 2 * bit j y ≤ 3 = omega arith in
    omega (arith, mul-le (bit j x + 2 * bit j y) (4 ^ j) 3 (4 ^ j) d (omega arith), pow-suc 4 j)

pub prefix_interleaved : (j x y : ℕ) → j ≤ 2 → base_four j (interleaved j x y) ≡ cell j x y
prefix_interleaved zero x y h = refl
prefix_interleaved (suc zero) x y h =
    let e : interleaved 1 x y / 1 % 4 ≡ bit 0 x + 2 * bit 0 y = omega arith in
    ap (λ d. named d ∷ []) e
prefix_interleaved (suc (suc zero)) x y h =
    let e : interleaved 2 x y / 4 % 4 ≡ bit 1 x + 2 * bit 1 y = omega arith in
    let f : interleaved 2 x y / 1 % 4 ≡ bit 0 x + 2 * bit 0 y = omega arith in
    ap₂ (λ c d. named c ∷ named d ∷ []) e f
prefix_interleaved (suc (suc (suc j))) x y h = absurd (omega arith)

-- a cell's digits are its coarse ones, then its fine ones
bit_split : (c f x : ℕ) → bit c (x / 2 ^ f) ≡ bit (c + f) x
bit_split c f x = ap (λ z. z % 2) (shr-shr x f c ∙ ap (λ z. x / 2 ^ z) (add_comm f c))

pub cell_split : (c f x y : ℕ) → cell c (x / 2 ^ f) (y / 2 ^ f) ++ cell f x y ≡ cell (c + f) x y
cell_split zero f x y = ap (λ z. cell z x y) (sym (zero-add f))
cell_split (suc c) f x y =
    ap₂ ◌∷◌ (ap₂ (λ a b. named (a + 2 * b)) (bit_split c f x) (bit_split c f y)) (cell_split c f x y)
    ∙ ap (λ z. cell z x y) (sym (suc-add c f))

pub coarse_below : (c f x : ℕ) → x < 2 ^ (c + f) → x / 2 ^ f < 2 ^ c
coarse_below c f x h = (div-lt_iff_lt-mul (pow_pos f)).1 (omega (arith, pow-add 2 c f))

-- the row and the column of a cell lie within the room
pub row_fits : (c f x n len : ℕ) → x < 2 ^ (c + f) → len ≡ 2 ^ c * n → x / 2 ^ f * n + n ≤ len
row_fits c f x n len h l = omega (arith, part_fits (x / 2 ^ f) (2 ^ c) n (coarse_below c f x h))

pub column_fits : (j x y r n len : ℕ) → r ≡ interleaved j x y → len ≡ 4 ^ j * n → r * n + n ≤ len
column_fits j x y r n len e l = omega (arith, part_fits r (4 ^ j) n (omega (arith, interleaved_below j x y)))
