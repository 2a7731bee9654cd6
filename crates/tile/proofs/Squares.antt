-- Powers of four, and parts of a square.
use Rattle.std.proofs.Common.{◌≡◌, ℕ, zero, suc, ◌+◌, ◌-◌, ◌*◌, ◌%◌, ◌^◌, ◌<◌, ◌≤◌, List, [], ◌++◌, length, take, sym, refl, ap, ◌∙◌, ap₂, mul_assoc, suc-mul, pow-suc, arith, lit<, pow-add, rules}
use native.Mathlib.Nat.{two-pow-succ, one-le-pow}
use borrow.Rule.Slice.PartMut.{put_mid}
use Rattle.std.specs.List.{range_with_len, flat_map}
use Rattle.std.proofs.Math.Nat.{pow-le-pow_right}
use Rattle.std.proofs.lemmas.Nat.{mul-le, one_shl}
use Rattle.std.proofs.lemmas.List.{flat_map_more, take_all, places}
use Rattle.std.proofs.lemmas.Slice.{take-put_mid}
use Rattle.picture.proofs.States.{counting_more}

four_pow : (j : ℕ) → 2 ^ (2 * j) ≡ 4 ^ j
four_pow zero = refl
four_pow (suc j) =
    let e : 2 ^ (2 * suc j) ≡ 2 ^ suc (suc (2 * j)) = ap (λ z. 2 ^ z) (omega arith) in
    e ∙ omega (arith, two-pow-succ (suc (2 * j)), two-pow-succ (2 * j), pow-suc 4 j, four_pow j)

pub power_is : (j : ℕ) → j ≤ 12 → (1 * 2 ^ (2 * j)) % 2 ^ 64 ≡ 4 ^ j
power_is j h = one_shl (2 * j) 64 (omega arith) ∙ four_pow j

pub square_is : (h : ℕ) → 4 ^ h ≡ 2 ^ h * 2 ^ h
square_is h = sym (four_pow h) ∙ ap (λ z. 2 ^ z) (omega arith) ∙ pow-add 2 h h

pub four_pos : (j : ℕ) → 0 < 4 ^ j
four_pos j = one-le-pow j 4 (lit< tt)

-- the i-th of m parts of n fits
pub part_fits : (i m n : ℕ) → i < m → i * n + n ≤ m * n
part_fits i m n h = omega (arith, mul-le (suc i) n m n (omega arith) (omega arith), suc-mul i n)

pub part_room : (i m n high wide len : ℕ) → high ≡ m → wide ≡ n → len ≡ m * n → i < high → i * wide + wide ≤ len
part_room i m n high wide len e f l h = omega (arith, part_fits i high wide h, ap₂ ◌*◌ e f)

pub parts_more : {W : Type 0} (f : ℕ → List W) (i : ℕ) → flat_map f (range_with_len 0 (i + 1)) ≡ flat_map f (range_with_len 0 i) ++ f i
parts_more f i = ap (flat_map f) (counting_more i) ∙ sym (flat_map_more f [] (range_with_len 0 i) i)

pub part_long : {X : Type 0} (i n : ℕ) (out part : List X) → i * n + n ≤ length out → length part ≡ n → length (put_mid (i * n) (i * n + n - i * n) out part) ≡ length out
part_long i n out part h l = let long : length part ≡ i * n + n - i * n = omega arith in search (rules, places)

-- one part more is written
pub part_written : {W : Type 0} (f : ℕ → List W) (i n : ℕ) (out part : List W) → i * n + n ≤ length out → length part ≡ n → take (i * n) out ≡ flat_map f (range_with_len 0 i) → part ≡ f i
    → take ((i + 1) * n) (put_mid (i * n) (i * n + n - i * n) out part) ≡ flat_map f (range_with_len 0 (i + 1))
part_written f i n out part h l e p =
    let m : (i + 1) * n ≡ i * n + length part = ap (λ z. z * n) (omega arith) ∙ suc-mul i n ∙ omega arith in
    take-put_mid (i * n) _ out part ((i + 1) * n) m (omega arith) ∙ ap₂ ◌++◌ e p ∙ sym (parts_more f i)

pub all_written : {W : Type 0} (f : ℕ → List W) (m n : ℕ) (out : List W) → length out ≡ m * n → take (m * n) out ≡ flat_map f (range_with_len 0 m) → out ≡ flat_map f (range_with_len 0 m)
all_written f m n out l e = sym (take_all (m * n) out (omega arith)) ∙ e

-- rows and columns of a tile fit their room
pub columns_small : (j n : ℕ) → j ≤ 2 → n ≤ 64 → 4 ^ j * n ≤ 1024
columns_small j n h l = mul-le (4 ^ j) n 16 64 (pow-le-pow_right (lit< tt) h) l

pub rows_small : (j n : ℕ) → j ≤ 4 → n ≤ 64 → 2 ^ j * n ≤ 1024
rows_small j n h l = mul-le (2 ^ j) n 16 64 (pow-le-pow_right (lit< tt) h) l

-- a square of cells is so many bands
pub bands_fill : (c f depth : ℕ) → c + f ≡ depth → 2 ^ depth * 2 ^ depth ≡ 2 ^ c * (2 ^ f * 2 ^ depth)
bands_fill c f depth e = ap (λ z. z * 2 ^ depth) (ap (λ z. 2 ^ z) (sym e) ∙ pow-add 2 c f) ∙ mul_assoc (2 ^ c) (2 ^ f) (2 ^ depth)
