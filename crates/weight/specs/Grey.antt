-- Greys: numbers modulo 65,536.
use Rattle.std.specs.Prelude.{ℕ, ◌+◌, ◌*◌, ◌%◌, true}
use Rattle.std.proofs.Common.{arith}
use Rattle.weight.specs.Kinds.{Kind}
use Rattle.weight.specs.declared.grey.Grey.{Grey}

-- the grey that a number comes to
abbrev pub grey : ℕ → Grey
grey n = record { level = n % 65536; fits = omega arith }

abbrev pub grey_kind : Kind Grey
grey_kind = record {
  zero = grey 0;
  one = grey 1;
  plus = λ a b. grey (a.level + b.level);
  times = λ a b. grey (a.level * b.level);
  exchanges = true;
}
