-- Valves: Boolean matrices of two rows and two columns.
use Rattle.std.specs.Prelude.{◌≡◌, ℕ, ◌+◌, ◌*◌, ◌/◌, ◌%◌, ◌<◌, Bool, true, false, cond, ◌&&◌, ◌||◌, List, length, ◌==◌, slice_index}
use Rattle.weight.specs.Kinds.{Kind}
use Rattle.weight.specs.declared.valve.Valve.{Valve}

-- the valve with the lowest four bits of a number
abbrev pub valve : ℕ → Valve
valve n = record { bit0 = (n % 2 == 1); bit1 = (n / 2 % 2 == 1); bit2 = (n / 4 % 2 == 1); bit3 = (n / 8 % 2 == 1) }

abbrev pub valve_number : Valve → ℕ
valve_number v = cond v.bit0 1 0 + 2 * cond v.bit1 1 0 + 4 * cond v.bit2 1 0 + 8 * cond v.bit3 1 0

-- bit 2i + j, where false is 0 and true is 1: input i reaches output j
abbrev pub reaches : Valve → Bool → Bool → Bool
reaches v false false = v.bit0
reaches v false true = v.bit1
reaches v true false = v.bit2
reaches v true true = v.bit3

-- the valve in which input i reaches output j exactly if f i j
abbrev pub valve_where : (Bool → Bool → Bool) → Valve
valve_where f = record { bit0 = f false false; bit1 = f false true; bit2 = f true false; bit3 = f true true }

-- the sum is the union; in the product input i reaches output j by some t that it reaches in a and that reaches j in b
abbrev pub valve_kind : Kind Valve
valve_kind = record {
  zero = valve 0;
  one = valve 9;
  plus = λ a b. valve_where (λ i j. reaches a i j || reaches b i j);
  times = λ a b. valve_where (λ i j. (reaches a i false && reaches b false j) || (reaches a i true && reaches b true j));
  exchanges = false;
}

-- a table that has the product of a and b at 16a + b
pub record Products (table : List ℕ) : Type 0 where
  pub count : length table ≡ 256
  pub at : (n : ℕ) → n < 256 → slice_index table n ≡ valve_number (valve_kind.times (valve (n / 16)) (valve (n % 16)))
