-- Rows and columns that are lists, taken along an address.
use Rattle.std.proofs.Common.{◌≡◌, ℕ, ◌<◌, Bool, cond, List, [], ◌∷◌, ◌++◌, length, sym, refl, ap, ◌∙◌, arith}
use Rattle.std.specs.List.{range_with_len}
use Rattle.std.proofs.lemmas.List.FromFn.{length-map-range_with_len, get_or-map-range_with_len}
use Rattle.weight.specs.Kinds.{Kind, Laws}
use Rattle.weight.specs.Sums.{total}
use Rattle.weight.proofs.Totals.{total_all}
use Rattle.picture.specs.Bodies.{Body, Sound, Edge}
use Rattle.picture.specs.Pictures.{step, value}
use Rattle.picture.specs.Quadrants.{Address}
use Rattle.picture.specs.Steps.{leaves, back, at_state, stepped, carried, backed}
use Rattle.picture.specs.declared.quadrant.Quadrant.{Quadrant}
use Rattle.picture.proofs.States.{total_below}
use Rattle.picture.proofs.Values.{step_gathered, value_below, value_back}

pub length_carried : {W : Type 0} (k : Kind W) (arcs : List (Edge W)) (n : ℕ) (w : Address) (row : List W) → length row ≡ n → length (carried k arcs n w row) ≡ n
length_carried k arcs n [] row l = l
length_carried k arcs n (d ∷ w) row l = length_carried k arcs n w _ (length-map-range_with_len _ 0 n)

pub length_backed : {W : Type 0} (k : Kind W) (arcs : List (Edge W)) (n : ℕ) (w : Address) (column : List W) → length column ≡ n → length (backed k arcs n w column) ≡ n
length_backed k arcs n [] column l = l
length_backed k arcs n (d ∷ w) column l = length-map-range_with_len _ 0 n

module _ {W : Type 0} {k : Kind W} (laws : Laws k) (b : Body W) (sound : Sound b) where
  -- one digit more
  pub value_stepped : (row next : List W) (d : Quadrant) → next ≡ stepped k b.arcs b.states row d
      → (w : Address) → value k b (at_state k next) w ≡ value k b (at_state k row) (d ∷ w)
  value_stepped row next d e w =
      value_below laws b sound _ (step k b (at_state k row) d)
      (λ q h. ap (λ r. at_state k r q) e ∙ get_or-map-range_with_len _ 0 b.states q q k.zero h (omega arith) ∙ sym (step_gathered laws b sound _ d q)) w

  pub value_carried : (u v : Address) (row : List W) → value k b (at_state k (carried k b.arcs b.states u row)) v ≡ value k b (at_state k row) (u ++ v)
  value_carried [] v row = refl
  value_carried (d ∷ u) v row = value_carried u v _ ∙ value_stepped row _ d refl (u ++ v)

  cond_equal : (t : Bool) (x y : W) → x ≡ y → cond t x k.zero ≡ cond t y k.zero
  cond_equal t x y e = ap (λ z. cond t z k.zero) e

  backed_back : (w : Address) (column : List W) (p : ℕ) → p < b.states → at_state k (backed k b.arcs b.states w column) p ≡ back k b.arcs (at_state k column) w p
  backed_back [] column p h = refl
  backed_back (d ∷ w) column p h =
      get_or-map-range_with_len _ 0 b.states p p k.zero h (omega arith)
      ∙ total_all laws _ b.arcs _ _ sound.ends (λ e ends. cond_equal (leaves d p e) _ _ (ap (k.times e.1) (backed_back w column e.0.to ends.1)))

  -- the value at u followed by v, by the row along u and the column along v
  pub value_meets : (u v : Address) (row : List W)
      → total k (range_with_len 0 b.states) (λ q. k.times (at_state k (carried k b.arcs b.states u row) q) (at_state k (backed k b.arcs b.states v b.last) q))
      ≡ value k b (at_state k row) (u ++ v)
  value_meets u v row =
      total_below laws b.states _ _ (λ q h. ap (k.times _) (backed_back v b.last q h))
      ∙ sym (value_back laws b sound (at_state k (carried k b.arcs b.states u row)) v)
      ∙ value_carried u v row
