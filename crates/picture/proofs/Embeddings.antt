-- A body as a part of another, its states raised by a number.
use Rattle.std.proofs.Common.{◌≡◌, ℕ, ◌+◌, ◌<◌, ◌≤◌, false, cond, ◌&&◌, eqb, List, [], ◌∷◌, ◌++◌, map, refl, ap, ◌∙◌, ap₂, zero-add, arith}
use Rattle.std.specs.List.{AllByRecursion}
use Rattle.std.proofs.ByRecursion.{All-weaker, All-map}
use Rattle.weight.specs.Kinds.{Kind, Laws}
use Rattle.weight.specs.Sums.{total}
use Rattle.weight.proofs.Totals.{zero_plus, total_append, total_map, total_all, total_zero}
use Rattle.picture.specs.Bodies.{Body, Edge, Sound, Within}
use Rattle.picture.specs.BodyOperations.{arc_from, raised}
use Rattle.picture.specs.Quadrants.{Address, same}
use Rattle.picture.specs.Steps.{spread, back, at_state}
use Rattle.picture.specs.declared.quadrant.Quadrant.{Quadrant}
use Rattle.picture.proofs.StateSums.{eqb_add}

-- both ends of an arc with its weight are below n
abbrev pub Ends : {W : Type 0} → ℕ → Edge W → Type 0
Ends n e = Within n e.0

-- an arc leaves none of the n states from s on
abbrev pub Away : {W : Type 0} → ℕ → ℕ → Edge W → Type 0
Away s n e = (q : ℕ) → q < n → eqb (s + q) e.0.from ≡ false

-- the value of a state on the rest of an address
abbrev pub state_value : {W : Type 0} → Kind W → List (Edge W) → List W → Address → ℕ → W
state_value k arcs last w p = back k arcs (at_state k last) w p

pub raised_none : {W : Type 0} (es : List (Edge W)) → map (raised 0) es ≡ es
raised_none [] = refl
raised_none (e ∷ es) = ap₂ ◌∷◌ (λ i. (arc_from (zero-add e.0.from i) (zero-add e.0.to i) e.0.quadrant, e.1)) (raised_none es)

pub all_raised : {W : Type 0} (P : Edge W → Type 0) (s n : ℕ) (es : List (Edge W)) → AllByRecursion (Ends n) es → ((e : Edge W) → Ends n e → P (raised s e)) → AllByRecursion P (map (raised s) es)
all_raised P s n es h f = All-map P (raised s) es (All-weaker (Ends n) _ f es h)

pub ends_raised : {W : Type 0} (s n m : ℕ) (es : List (Edge W)) → s + n ≤ m → AllByRecursion (Ends n) es → AllByRecursion (Ends m) (map (raised s) es)
ends_raised s n m es h ends = all_raised (Ends m) s n es ends (λ e x. (omega (arith, x.0), omega (arith, x.1)))

module _ {W : Type 0} {k : Kind W} (laws : Laws k) where
  pub total_none : {A : Type 0} (P : A → Type 0) (xs : List A) (f : A → W) → AllByRecursion P xs → ((x : A) → P x → f x ≡ k.zero) → total k xs f ≡ k.zero
  total_none P xs f h e = total_all laws P xs f (λ _. k.zero) h e ∙ total_zero laws xs

  pub away_none : (s n : ℕ) (es : List (Edge W)) (v : ℕ → W) (d : Quadrant) (q : ℕ) → q < n → AllByRecursion (Away s n) es → spread k es v d (s + q) ≡ k.zero
  away_none s n es v d q h away =
      total_none (Away s n) es _ away (λ e x. ap (λ t. cond (t && same d e.0.quadrant) (k.times e.1 (v e.0.to)) k.zero) (x q h))

  -- a part of a body, whose states begin at s, has its own values
  pub part_value : (a : Body W) → Sound a → (s : ℕ) (arcs xs ys : List (Edge W)) (last : List W)
      → arcs ≡ xs ++ (map (raised s) a.arcs ++ ys)
      → AllByRecursion (Away s a.states) xs → AllByRecursion (Away s a.states) ys
      → ((q : ℕ) → q < a.states → at_state k last (s + q) ≡ at_state k a.last q)
      → (w : Address) (q : ℕ) → q < a.states
      → state_value k arcs last w (s + q) ≡ state_value k a.arcs a.last w q
  part_value a sound s arcs xs ys last split hx hy hl [] q h = hl q h
  part_value a sound s arcs xs ys last split hx hy hl (d ∷ w) q h =
      ap (λ es. spread k es (state_value k arcs last w) d (s + q)) split
      ∙ total_append laws xs _ _
      ∙ ap₂ k.plus (away_none s a.states xs _ d q h hx) (total_append laws (map (raised s) a.arcs) ys _)
      ∙ zero_plus laws _
      ∙ ap₂ k.plus (total_map laws (raised s) a.arcs _) (away_none s a.states ys _ d q h hy)
      ∙ laws.plus_zero _
      ∙ total_all laws (Ends a.states) a.arcs _ _ sound.ends
      (λ e x. ap₂ (λ t y. cond (t && same d e.0.quadrant) (k.times e.1 y) k.zero) (eqb_add s q e.0.from)
      (part_value a sound s arcs xs ys last split hx hy hl w e.0.to x.1))
