-- How many arcs a product has.
use Rattle.std.proofs.Common.{◌≡◌, ℕ, suc, ◌+◌, ◌<◌, Bool, true, false, cond, List, [], ◌∷◌, ◌++◌, length, get_or, take, filter, refl, ap, ◌∙◌, ap₂, suc-mul, zero-mul, arith}
use Rattle.std.specs.List.{zip, flat_map}
use Rattle.std.proofs.lemmas.List.Elements.{filter_more}
use Rattle.std.proofs.lemmas.List.{length-append}
use Rattle.std.proofs.lemmas.Bool.{cond-true, cond-false}
use Rattle.weight.specs.Kinds.{Kind}
use Rattle.picture.specs.Bodies.{Edge}
use Rattle.picture.specs.BodyOperations.{arc_from, arc_pair, arc_pairs}
use Rattle.picture.specs.Quadrants.{same}
use Rattle.picture.specs.declared.body.Arc.{Arc}
use Rattle.picture.specs.declared.quadrant.Quadrant.{Quadrant}
use Rattle.picture.specs.declared.quadrant.Quadrant.TheVariants.{UpperLeft, UpperRight, LowerLeft, LowerRight}
use Rattle.product.specs.Counts.{tally, matches}

module _ (d : Quadrant) (arcs : List Arc) (i : ℕ) (a : Arc) (h : i < length arcs) where
  tally_step : tally d (take (i + 1) arcs) ≡ tally d (take i arcs) + length (cond (same d (get_or arcs i a).quadrant) (get_or arcs i a ∷ []) [])
  tally_step = ap length (filter_more (λ x. same d x.quadrant) arcs i a h) ∙ length-append (filter (λ x. same d x.quadrant) (take i arcs)) _

  -- one arc more, with the digit and without it
  pub tally_same : same d (get_or arcs i a).quadrant ≡ true → tally d (take (i + 1) arcs) ≡ tally d (take i arcs) + 1
  tally_same t = tally_step ∙ ap (λ (xs : List Arc). tally d (take i arcs) + length xs) (cond-true (same d (get_or arcs i a).quadrant) (get_or arcs i a ∷ []) [] t)

  pub tally_other : same d (get_or arcs i a).quadrant ≡ false → tally d (take (i + 1) arcs) ≡ tally d (take i arcs)
  tally_other t = tally_step ∙ ap (λ (xs : List Arc). tally d (take i arcs) + length xs) (cond-false (same d (get_or arcs i a).quadrant) (get_or arcs i a ∷ []) [] t) ∙ omega arith

length_cond : {A B : Type 0} (t : Bool) (x : A) (xs : List A) (y : B) (ys : List B) → length xs ≡ length ys → length (cond t (x ∷ []) [] ++ xs) ≡ length (cond t (y ∷ ys) ys)
length_cond true x xs y ys h = ap suc h
length_cond false x xs y ys h = h

module _ {W : Type 0} (k : Kind W) (n : ℕ) where
  pair_length : (e : Edge W) (xs : List Arc) (ws : List W) → length xs ≡ length ws → length (flat_map (arc_pair k n e) (zip xs ws)) ≡ tally e.0.quadrant xs
  pair_length e [] ws h = refl
  pair_length e (x ∷ xs) [] h = absurd (omega arith)
  pair_length e (x ∷ xs) (w ∷ ws) h =
      length_cond (same e.0.quadrant x.quadrant) _ _ x (filter (λ a. same e.0.quadrant a.quadrant) xs) (pair_length e xs ws (omega arith))

  -- one arc more on the left
  matches_more : (p q : ℕ) (d : Quadrant) (xs ys : List Arc) → tally d ys + matches xs ys ≡ matches (arc_from p q d ∷ xs) ys
  matches_more p q UpperLeft xs ys = omega (arith, suc-mul (tally UpperLeft xs) (tally UpperLeft ys))
  matches_more p q UpperRight xs ys = omega (arith, suc-mul (tally UpperRight xs) (tally UpperRight ys))
  matches_more p q LowerLeft xs ys = omega (arith, suc-mul (tally LowerLeft xs) (tally LowerLeft ys))
  matches_more p q LowerRight xs ys = omega (arith, suc-mul (tally LowerRight xs) (tally LowerRight ys))

  pub product_length : (xs ys : List Arc) (us ws : List W) → length xs ≡ length us → length ys ≡ length ws → length (arc_pairs k n (zip xs us) (zip ys ws)) ≡ matches xs ys
  product_length [] ys us ws h l =
      omega (arith, zero-mul (tally UpperLeft ys), zero-mul (tally UpperRight ys), zero-mul (tally LowerLeft ys), zero-mul (tally LowerRight ys))
  product_length (x ∷ xs) ys [] ws h l = absurd (omega arith)
  product_length (x ∷ xs) ys (u ∷ us) ws h l =
      length-append (flat_map (arc_pair k n (x, u)) (zip ys ws)) _
      ∙ ap₂ ◌+◌ (pair_length (x, u) ys ws l) (product_length xs ys us ws (omega arith) l)
      ∙ matches_more x.from x.to x.quadrant xs ys
