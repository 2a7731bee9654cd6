-- The picture of a product, on a kind that exchanges.
use Rattle.std.proofs.Common.{◌≡◌, ℕ, ◌+◌, ◌*◌, ◌<◌, Bool, true, false, cond, ◌&&◌, eqb, List, [], ◌∷◌, sym, refl, ap, ◌∙◌, ap₂, arith}
use mathlib.Core.Path.{fun_ext}
use lib.Arith.{digits_lt}
use Rattle.std.specs.List.{range_with_len, flat_map, AllByRecursion}
use Rattle.std.proofs.ByRecursion.{All-append}
use Rattle.std.proofs.lemmas.Bool.{eqb-true, and_right}
use Rattle.weight.specs.Kinds.{Kind, Laws}
use Rattle.weight.specs.Sums.{total}
use Rattle.weight.proofs.Totals.{total_joined, total_all, times_total, total_times}
use Rattle.picture.specs.Bodies.{Body, Sound}
use Rattle.picture.specs.BodyOperations.{paired, product_body}
use Rattle.picture.specs.OperationStatements.{Products}
use Rattle.picture.specs.Quadrants.{Address, digit, same}
use Rattle.picture.specs.Steps.{at_state}
use Rattle.picture.specs.declared.quadrant.Quadrant.{Quadrant}
use Rattle.picture.proofs.Embeddings.{Ends, state_value}
use Rattle.picture.proofs.States.{total_below}
use Rattle.picture.proofs.StateSums.{eqb_pair, length_paired, get_or_paired, total_states_mul}
use Rattle.picture.proofs.Values.{value_back}

all_joined : {A B : Type 0} (P : B → Type 0) (Q : A → Type 0) (g : A → List B) (xs : List A) → AllByRecursion Q xs → ((x : A) → Q x → AllByRecursion P (g x)) → AllByRecursion P (flat_map g xs)
all_joined P Q g [] h f = tt
all_joined P Q g (x ∷ xs) h f = All-append P (g x) (flat_map g xs) (f x h.0) (all_joined P Q g xs h.1 f)

all_cond : {A : Type 0} (P : A → Type 0) (t : Bool) (x : A) → P x → AllByRecursion P (cond t (x ∷ []) [])
all_cond P true x h = (h, tt)
all_cond P false x h = tt

pub product_sound : {W : Type 0} (k : Kind W) (a b : Body W) → Sound a → Sound b → Sound (product_body k a b)
product_sound k a b sa sb = record {
  firsts = length_paired k.times a.first b.first ∙ ap₂ ◌*◌ sa.firsts sb.firsts;
  lasts = length_paired k.times a.last b.last ∙ ap₂ ◌*◌ sa.lasts sb.lasts;
  ends =
      all_joined (Ends (a.states * b.states)) (Ends a.states) _ a.arcs sa.ends (λ e x.
      all_joined (Ends (a.states * b.states)) (Ends b.states) _ b.arcs sb.ends (λ f y.
      all_cond (Ends (a.states * b.states)) _ _ (digits_lt x.0 y.0, digits_lt x.1 y.1)));
}

same_digits : (d e f : Quadrant) → same d e ≡ true → same e f ≡ same d f
same_digits d e f h = ap (λ n. eqb n (digit f)) (sym (eqb-true (digit d) (digit e) h))

cond_same : {A : Type 0} (t : Bool) (x : A) → cond t x x ≡ x
cond_same true x = refl
cond_same false x = refl

module _ {W : Type 0} {k : Kind W} (laws : Laws k) where
  total_cond : {A : Type 0} (t : Bool) (x : A) (f : A → W) → total k (cond t (x ∷ []) []) f ≡ cond t (f x) k.zero
  total_cond true x f = laws.plus_zero (f x)
  total_cond false x f = refl

  -- a product of sums is the sum of the products
  total_product : {A B : Type 0} (xs : List A) (ys : List B) (f : A → W) (g : B → W) → total k xs (λ x. total k ys (λ y. k.times (f x) (g y))) ≡ k.times (total k xs f) (total k ys g)
  total_product xs ys f g = ap (total k xs) (fun_ext (λ x. sym (times_total laws (f x) ys g))) ∙ sym (total_times laws (total k ys g) xs f)

  -- (x·y)·(z·t) = (x·z)·(y·t)
  times_four : k.exchanges ≡ true → (x y z t : W) → k.times (k.times x y) (k.times z t) ≡ k.times (k.times x z) (k.times y t)
  times_four c x y z t =
      laws.times_assoc x y (k.times z t)
      ∙ ap (k.times x) (sym (laws.times_assoc y z t) ∙ ap (λ u. k.times u t) (laws.times_comm c y z) ∙ laws.times_assoc z y t)
      ∙ sym (laws.times_assoc x z (k.times y t))

  -- two arcs: `ad` and `bd` say whether each has the digit, `ab` whether the two have one digit
  both_leave : (p q ab ad bd : Bool) (x y z : W) → (ad ≡ true → ab ≡ bd) → x ≡ k.times y z
      → cond ab (cond ((p && q) && ad) x k.zero) k.zero ≡ k.times (cond (p && ad) y k.zero) (cond (q && bd) z k.zero)
  both_leave p q ab false bd x y z h e =
      ap (λ t. cond ab (cond t x k.zero) k.zero) (and_right (p && q) false refl) ∙ cond_same ab k.zero ∙ sym (laws.zero_times _)
      ∙ ap (λ t. k.times (cond t y k.zero) (cond (q && bd) z k.zero)) (sym (and_right p false refl))
  both_leave false q ab true bd x y z h e = cond_same ab k.zero ∙ sym (laws.zero_times _)
  both_leave true false ab true bd x y z h e = cond_same ab k.zero ∙ sym (laws.times_zero _)
  both_leave true true ab true true x y z h e = ap (λ t. cond t x k.zero) (h refl) ∙ e
  both_leave true true ab true false x y z h e = ap (λ t. cond t x k.zero) (h refl) ∙ sym (laws.times_zero _)

  pair_leaves : (pq p q ab ad bd : Bool) (x y z : W) → pq ≡ (p && q) → (ad ≡ true → ab ≡ bd) → x ≡ k.times y z
      → cond ab (cond (pq && ad) x k.zero) k.zero ≡ k.times (cond (p && ad) y k.zero) (cond (q && bd) z k.zero)
  pair_leaves pq p q ab ad bd x y z both h e = ap (λ t. cond ab (cond (t && ad) x k.zero) k.zero) both ∙ both_leave p q ab ad bd x y z h e

  module _ (c : k.exchanges ≡ true) (a b : Body W) (sa : Sound a) (sb : Sound b) where
    -- the value of a pair of states is the product of their values
    pair_value : (w : Address) (p q : ℕ) → p < a.states → q < b.states
        → state_value k (product_body k a b).arcs (product_body k a b).last w (p * b.states + q)
        ≡ k.times (state_value k a.arcs a.last w p) (state_value k b.arcs b.last w q)
    pair_value [] p q hp hq =
        ap (λ n. at_state k (paired k.times a.last b.last) (p * n + q)) (sym sb.lasts)
        ∙ get_or_paired k.times a.last b.last p q k.zero k.zero k.zero (omega (arith, sa.lasts)) (omega (arith, sb.lasts))
    pair_value (d ∷ w) p q hp hq =
        total_joined laws _ a.arcs _
        ∙ total_all laws (Ends a.states) a.arcs _ _ sa.ends (λ e x.
        total_joined laws _ b.arcs _
        ∙ total_all laws (Ends b.states) b.arcs _ _ sb.ends (λ f y.
        total_cond _ _ _
        ∙ pair_leaves _ (eqb p e.0.from) (eqb q f.0.from) _ (same d e.0.quadrant) (same d f.0.quadrant) _
        (k.times e.1 (state_value k a.arcs a.last w e.0.to)) (k.times f.1 (state_value k b.arcs b.last w f.0.to))
        (eqb_pair b.states p q e.0.from f.0.from hq y.0) (same_digits d e.0.quadrant f.0.quadrant)
        (ap (k.times (k.times e.1 f.1)) (pair_value w e.0.to f.0.to x.1 y.1) ∙ times_four c e.1 f.1 _ _)))
        ∙ total_product a.arcs b.arcs _ _

  pub product_shows : Products k
  product_shows c a b sa sb w =
      value_back laws (product_body k a b) (product_sound k a b sa sb) _ w
      ∙ total_states_mul laws a.states b.states _
      ∙ total_below laws a.states _ _ (λ p hp. total_below laws b.states _ _ (λ q hq.
      ap₂ k.times
      (ap (λ n. at_state k (paired k.times a.first b.first) (p * n + q)) (sym sb.firsts)
      ∙ get_or_paired k.times a.first b.first p q k.zero k.zero k.zero (omega (arith, sa.firsts)) (omega (arith, sb.firsts)))
      (pair_value c a b sa sb w p q hp hq)
      ∙ times_four c _ _ _ _))
      ∙ total_product (range_with_len 0 a.states) (range_with_len 0 b.states) _ _
      ∙ ap₂ k.times (sym (value_back laws a sa _ w)) (sym (value_back laws b sb _ w))
