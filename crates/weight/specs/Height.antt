-- Heights: numbers that stop at 16,777,215, under the smaller of two and under the sum.
use Rattle.std.specs.Prelude.{ℕ, ◌+◌, ◌*◌, ◌/◌, ◌%◌, min, true}
use Rattle.std.proofs.Common.{arith}
use Rattle.weight.specs.Kinds.{Kind}
use Rattle.weight.specs.declared.height.Height.{Height}

abbrev pub height_number : Height → ℕ
height_number h = h.high * 65536 + h.middle * 256 + h.low

-- the height that a number comes to, in three bytes
abbrev pub height : ℕ → Height
height n = record {
  high = min n 16777215 / 65536 % 256;
  middle = min n 16777215 / 256 % 256;
  low = min n 16777215 % 256;
  fits = (omega arith, omega arith, omega arith);
}

-- 16,777,215 stands for no height at all, and is the kind's zero
abbrev pub height_kind : Kind Height
height_kind = record {
  zero = height 16777215;
  one = height 0;
  plus = λ a b. height (min (height_number a) (height_number b));
  times = λ a b. height (height_number a + height_number b);
  exchanges = true;
}
