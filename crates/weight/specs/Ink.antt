-- Ink: numbers that stop at 255.
use Rattle.std.specs.Prelude.{ℕ, ◌+◌, ◌*◌, min, true}
use Rattle.std.proofs.Common.{arith}
use Rattle.weight.specs.Kinds.{Kind}
use Rattle.weight.specs.declared.ink.Ink.{Ink}

-- the ink that a number comes to
abbrev pub ink : ℕ → Ink
ink n = record { amount = min n 255; fits = omega arith }

abbrev pub ink_kind : Kind Ink
ink_kind = record {
  zero = ink 0;
  one = ink 1;
  plus = λ a b. ink (a.amount + b.amount);
  times = λ a b. ink (a.amount * b.amount);
  exchanges = true;
}
