-- Four parts one after the other.
use Rattle.std.proofs.Common.{◌≡◌, ◌≤◌, ◌-◌, ℕ, List, arith, get_or, take, drop, ◌+◌, [], ◌∷◌, ◌++◌, map, length, sym, refl, ap, ◌∙◌, ap₂}
use Rattle.std.specs.List.{zip}
use Rattle.compose.proofs.Zipped.{zipped_append}
use Rattle.std.proofs.lemmas.List.FromFn.{length-map-range_with_len}
use Rattle.std.proofs.lemmas.List.{take_all, length-map, length-append, append_assoc}
use Rattle.weight.specs.Kinds.{Kind}
use Rattle.picture.specs.Bodies.{Body, Sound}
use Rattle.picture.specs.BodyOperations.{Part, raised, entries, pieced_arcs}
use Rattle.picture.specs.Operations.{four, pieced_picture}
use Rattle.picture.specs.Pictures.{picture}
use Rattle.picture.specs.Quadrants.{Address}
use Rattle.picture.specs.declared.body.Arc.{Arc}
use Rattle.picture.specs.declared.quadrant.Quadrant.{Quadrant}
use Rattle.picture.specs.declared.quadrant.Quadrant.TheVariants.{UpperLeft, UpperRight, LowerLeft, LowerRight}
use Rattle.picture.specs.declared.stored.Stored.{Stored}
use Rattle.picture.proofs.Storing.{lent_sound}
use Rattle.piece.specs.Parts.{part_arcs, part_size, four_stored}

-- a first element and the others
pub head_rest : {X : Type 0} (xs : List X) (x : X) → 1 ≤ length xs → x ≡ get_or xs 0 x → xs ≡ x ∷ take (length xs - 1) (drop 1 xs)
head_rest [] x h e = absurd (omega arith)
head_rest (y ∷ ys) x h e =
    let long : length ys ≡ length (y ∷ ys) - 1 = omega arith in
    ap₂ ◌∷◌ (sym e) (sym (take_all (length ys) ys (omega arith)) ∙ ap (λ n. take n ys) long)

-- the arcs of a part before those of the others
module _ {W : Type 0} (k : Kind W) (s : ℕ) (p : Part W) (rest : List (Part W)) where
  pub arcs_long : length (pieced_arcs k s (p ∷ rest)) ≡ part_size p.1 + length (pieced_arcs k (s + p.1.states) rest)
  arcs_long =
      length-append (entries k s p) (map (raised s) p.1.arcs ++ pieced_arcs k (s + p.1.states) rest)
      ∙ ap₂ ◌+◌ (length-map-range_with_len _ 0 p.1.states) (length-append (map (raised s) p.1.arcs) (pieced_arcs k (s + p.1.states) rest) ∙ ap (λ n. n + length (pieced_arcs k (s + p.1.states) rest)) (length-map p.1.arcs (raised s)))
      ∙ omega arith

  pub arcs_more : (xs us : List Arc) (ys vs : List W) → length xs ≡ length ys → zip xs ys ≡ part_arcs k s p.0 p.1 → zip us vs ≡ pieced_arcs k (s + p.1.states) rest
      → zip (xs ++ us) (ys ++ vs) ≡ pieced_arcs k s (p ∷ rest)
  arcs_more xs us ys vs long one more =
      zipped_append xs us ys vs long ∙ ap₂ ◌++◌ one more ∙ append_assoc (entries k s p) (map (raised s) p.1.arcs) (pieced_arcs k (s + p.1.states) rest)

-- how many arcs four parts have
pub four_long : {W : Type 0} (k : Kind W) (p q r t : Part W) → length (pieced_arcs k 1 (p ∷ q ∷ r ∷ t ∷ [])) ≡ part_size p.1 + part_size q.1 + (part_size r.1 + part_size t.1)
four_long k p q r t =
    let s = 1 + p.1.states + q.1.states in
    omega (arith, arcs_long k 1 p (q ∷ r ∷ t ∷ []), arcs_long k (1 + p.1.states) q (r ∷ t ∷ []), arcs_long k s r (t ∷ []), arcs_long k (s + r.1.states) t [])

module _ {W : Type 0} (k : Kind W) (a b c d : Body W) where
  -- the pictures of four bodies, by their quadrants
  pub four_pictures : (w : Address) → pieced_picture k (λ e. picture k (four a b c d e)) w ≡ pieced_picture k (four (picture k a) (picture k b) (picture k c) (picture k d)) w
  four_pictures [] = refl
  four_pictures (UpperLeft ∷ w) = refl
  four_pictures (UpperRight ∷ w) = refl
  four_pictures (LowerLeft ∷ w) = refl
  four_pictures (LowerRight ∷ w) = refl

pub four_sound : {W : Type 0} (a b c d : Stored W) (e : Quadrant) → Sound (four_stored a b c d e)
four_sound a b c d UpperLeft = lent_sound a
four_sound a b c d UpperRight = lent_sound b
four_sound a b c d LowerLeft = lent_sound c
four_sound a b c d LowerRight = lent_sound d
