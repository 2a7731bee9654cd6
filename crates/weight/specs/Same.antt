-- A weight is known by its number: its invariant has one proof at most.
use Rattle.std.specs.Prelude.{◌≡◌, ℕ}
use mathlib.Core.HLevel.{is_prop→PathP, ×₃_prop}
use Rattle.std.proofs.Math.Bridge.{le_prop}
use Rattle.std.proofs.Common.{arith}
use Rattle.weight.specs.Height.{height_number}
use Rattle.weight.specs.declared.grey.Grey.{Grey}
use Rattle.weight.specs.declared.height.Height.{Height}
use Rattle.weight.specs.declared.ink.Ink.{Ink}

same_data : {D W : Type 0} {P : D → Type 0} → ((d : D) → IsProp (P d)) → (make : (d : D) → P d → W) {d e : D} (p : P d) (q : P e) → d ≡ e → make d p ≡ make e q
same_data {P = P} prop make p q e = λ i. make (e i) (is_prop→PathP (λ j. P (e j)) (λ j. prop (e j)) p q i)

pub same_grey : {a b : Grey} → a.level ≡ b.level → a ≡ b
same_grey {a} {b} e = same_data (λ _. le_prop) (λ n h. record { level = n; fits = h }) a.fits b.fits e

pub same_ink : {a b : Ink} → a.amount ≡ b.amount → a ≡ b
same_ink {a} {b} e = same_data (λ _. le_prop) (λ n h. record { amount = n; fits = h }) a.fits b.fits e

abbrev bytes : Height → ℕ × ℕ × ℕ
bytes h = (h.high, h.middle, h.low)

pub same_bytes : {a b : Height} → bytes a ≡ bytes b → a ≡ b
same_bytes {a} {b} e = same_data (λ _. ×₃_prop le_prop le_prop le_prop) (λ d h. record { high = d.0; middle = d.1; low = d.2; fits = h }) a.fits b.fits e

pub same_height : {a b : Height} → height_number a ≡ height_number b → a ≡ b
same_height {a} {b} e =
    let high : a.high ≡ b.high = omega arith in
    let middle : a.middle ≡ b.middle = omega arith in
    let low : a.low ≡ b.low = omega arith in
    same_bytes (λ i. (high i, middle i, low i))
