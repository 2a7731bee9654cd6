-- The laws of Boolean matrices, entry by entry, and what a table of their products holds.
use Rattle.std.specs.Prelude.{◌≡◌, ℕ, ◌+◌, ◌*◌, ◌/◌, ◌%◌, ◌<◌, Bool, true, false, List, length, ◌==◌, slice_index}
use Rattle.std.proofs.Common.{ap, ap₂, ◌∙◌, arith}
use Rattle.std.proofs.lemmas.Bool.{eqb-true}
use Rattle.weight.specs.Kinds.{Laws}
use Rattle.weight.specs.Valve.{valve, valve_number, valve_kind, reaches, Products}
use Rattle.weight.specs.declared.valve.Valve.{Valve}
use Rattle.weight.specs.Table.{every, at}

same_routes : {a b : Valve} → ((i j : Bool) → reaches a i j ≡ reaches b i j) → a ≡ b
same_routes e = λ k. record { bit0 = e false false k; bit1 = e false true k; bit2 = e true false k; bit3 = e true true k }

same_bits : {a b : Valve} → a.bit0 ≡ b.bit0 → a.bit1 ≡ b.bit1 → a.bit2 ≡ b.bit2 → a.bit3 ≡ b.bit3 → a ≡ b
same_bits p q r s = λ k. record { bit0 = p k; bit1 = q k; bit2 = r k; bit3 = s k }

pub valve_laws : Laws valve_kind
valve_laws = record {
  plus_assoc = λ x y z. same_routes (λ i j. grind arith);
  plus_comm = λ x y. same_routes (λ i j. grind arith);
  plus_zero = λ x. same_routes (λ i j. grind arith);
  times_assoc = λ x y z. same_bits (grind arith) (grind arith) (grind arith) (grind arith);
  one_times = λ x. same_routes (λ i j. grind arith);
  times_one = λ x. same_routes (λ i j. grind arith);
  zero_times = λ x. same_routes (λ i j. grind arith);
  times_zero = λ x. same_routes (λ i j. grind arith);
  times_plus = λ x y z. same_bits (grind arith) (grind arith) (grind arith) (grind arith);
  plus_times = λ x y z. same_bits (grind arith) (grind arith) (grind arith) (grind arith);
  apart = λ e. omega (arith, ap valve_number e);
  times_comm = λ e. grind arith;
}

number_below : (v : Valve) → valve_number v < 16
number_below v = grind arith

of_number : (v : Valve) → valve (valve_number v) ≡ v
of_number v = same_routes (λ i j. grind arith)

pub product_at : {table : List ℕ} → Products table → (a b : Valve) → valve (slice_index table (16 * valve_number a + valve_number b)) ≡ valve_kind.times a b
product_at {table} products a b =
    let h = number_below a in
    let k = number_below b in
    let place = 16 * valve_number a + valve_number b in
    let row : valve (place / 16) ≡ a = ap valve (omega arith) ∙ of_number a in
    let column : valve (place % 16) ≡ b = ap valve (omega arith) ∙ of_number b in
    ap valve (products.at place (omega arith) ∙ ap₂ (λ x y. valve_number (valve_kind.times x y)) row column) ∙ of_number (valve_kind.times a b)

abbrev right : ℕ → ℕ → Bool
right k x = x == valve_number (valve_kind.times (valve (k / 16)) (valve (k % 16)))

-- the rule is one test of the whole table
pub products_tested : (table : List ℕ) → length table ≡ 256 → every right 0 table ≡ true → Products table
products_tested table n passes = record { count = n; at = λ k h. eqb-true _ _ (at right table passes k (omega arith)) }
