-- A height made of a number has that number, or the largest where it is greater.
use Rattle.std.specs.Prelude.{◌≡◌, ℕ, min}
use Rattle.std.proofs.Common.{arith}
use Rattle.weight.specs.Height.{height_number, height}

pub number_of : (n : ℕ) → height_number (height n) ≡ min n 16777215
number_of n = omega arith
