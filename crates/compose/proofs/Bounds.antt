-- What the limits say of counts.
use Rattle.std.proofs.Common.{◌≡◌, ℕ, ◌≤◌, Bool, true, false, cond, ltb, Some, None, Option, sym, refl}
use Rattle.std.proofs.lemmas.Bool.{ltb-false}
use Rattle.std.proofs.lemmas.Option.{none-some}
use Rattle.weight.specs.Kinds.{Kind}
use Rattle.compose.specs.Faults.{excess, product_excess}
use Rattle.compose.specs.declared.limits.Fault.{Fault}
use Rattle.compose.specs.declared.limits.Fault.TheVariants.{NoExchange, ManyStates, ManyArcs}

both_false : (s t : Bool) → cond s (Some ManyStates) (cond t (Some ManyArcs) None) ≡ None → (s ≡ false) × (t ≡ false)
both_false true t e = absurd (none-some ManyStates (sym e))
both_false false true e = absurd (none-some ManyArcs (sym e))
both_false false false e = (refl, refl)

-- counts that pass no limit are within both
pub within_limits : (n m : ℕ) → excess n m ≡ None → (n ≤ 64) × (m ≤ 512)
within_limits n m e = let both = both_false (ltb 64 n) (ltb 512 m) e in (ltb-false 64 n both.0, ltb-false 512 m both.1)

accepted : (t : Bool) (fault : Option Fault) → cond t fault (Some NoExchange) ≡ None → (t ≡ true) × (fault ≡ None)
accepted true fault e = (refl, e)
accepted false fault e = absurd (none-some NoExchange (sym e))

-- a product is accepted on a kind that exchanges, if its counts are within the limits
pub product_within : {W : Type 0} (k : Kind W) (n m : ℕ) → product_excess k n m ≡ None → (k.exchanges ≡ true) × (n ≤ 64) × (m ≤ 512)
product_within k n m e =
    let both = accepted k.exchanges (excess n m) e in
    let fits = within_limits n m both.1 in
    (both.0, fits.0, fits.1)
