-- Right sides that differ by uses of the laws mean the same.
use Rattle.std.proofs.Common.{◌≡◌, [], ◌∷◌, map, sym, refl, ◌∙◌}
use Rattle.weight.specs.Kinds.{Kind}
use Rattle.picture.specs.Operations.{four, turned, mirrored, pieced_picture}
use Rattle.picture.specs.PictureLaws.{PictureLaws}
use Rattle.picture.specs.Quadrants.{Address}
use Rattle.picture.specs.declared.quadrant.Quadrant.TheVariants.{UpperLeft, UpperRight, LowerLeft, LowerRight}
use Rattle.picture.proofs.LawsOfPictures.{each_quadrant}
use Rattle.recipe.specs.Expressions.{Expression, Zoomed, Pieced}
use Rattle.book.specs.Meanings.{Book, meaning}
use Rattle.book.specs.Uses.{Law, sums_swap, sums_regroup, products_regroup, products_swap, products_spread, four_turns, two_mirrors, turn_mirror_turn, turns_enter_sums, turns_enter_products, mirrors_enter_sums, mirrors_enter_products, zoomed_piecing, turned_piecing, mirrored_piecing, Alike, by_law, itself, back, onward, in_turn, in_mirror, in_zoom, in_sum, in_product, in_piecing, AlikeFromOne, alike, four_zooms, back_from_one, onward_from_one}

module _ {W : Type 0} (k : Kind W) (laws : PictureLaws k) (book : Book W) where
  law_means : {f g : Expression} → Law k.exchanges f g → meaning k book f ≡ meaning k book g
  law_means sums_swap = laws.sum_comm _ _
  law_means sums_regroup = laws.sum_assoc _ _ _
  law_means (products_regroup e) = (laws.products e).product_assoc _ _ _
  law_means (products_swap e) = (laws.products e).product_comm _ _
  law_means (products_spread e) = (laws.products e).product_sum _ _ _
  law_means (four_turns {f}) = laws.four_turns (meaning k book f)
  law_means (two_mirrors {f}) = laws.two_mirrors (meaning k book f)
  law_means (turn_mirror_turn {f}) = laws.turn_mirror_turn (meaning k book f)
  law_means turns_enter_sums = refl
  law_means (turns_enter_products e) = refl
  law_means mirrors_enter_sums = refl
  law_means (mirrors_enter_products e) = refl
  law_means (zoomed_piecing {i} {d} {f} {g} {h} {e}) =
      each_quadrant (λ d. four (meaning k book f) (meaning k book g) (meaning k book h) (meaning k book e) d ≡ meaning k book (four f g h e d)) refl refl refl refl d
  law_means (turned_piecing {i} {j} {f} {g} {h} {e}) = laws.turn_piecing (meaning k book f) (meaning k book g) (meaning k book h) (meaning k book e)
  law_means (mirrored_piecing {i} {j} {f} {g} {h} {e}) = laws.mirror_piecing (meaning k book f) (meaning k book g) (meaning k book h) (meaning k book e)

  pub alike_means : {f g : Expression} → Alike k.exchanges f g → meaning k book f ≡ meaning k book g
  alike_means (by_law l) = law_means l
  alike_means itself = refl
  alike_means (back p) = sym (alike_means p)
  alike_means (onward p q) = alike_means p ∙ alike_means q
  alike_means (in_turn p) = λ i w. alike_means p i (map turned w)
  alike_means (in_mirror p) = λ i w. alike_means p i (map mirrored w)
  alike_means (in_zoom {d} p) = λ i w. alike_means p i (d ∷ w)
  alike_means (in_sum p q) = λ i w. k.plus (alike_means p i w) (alike_means q i w)
  alike_means (in_product p q) = λ i w. k.times (alike_means p i w) (alike_means q i w)
  alike_means (in_piecing p q r s) = λ i w. pieced_picture k (four (alike_means p i) (alike_means q i) (alike_means r i) (alike_means s i)) w

  -- at every address but the empty one
  pub below_means : {f g : Expression} → AlikeFromOne k.exchanges f g → (w : Address) → (w ≡ [] → ⊥) → meaning k book f w ≡ meaning k book g w
  below_means (alike p) w h = λ i. alike_means p i w
  below_means four_zooms [] h = elim (h refl) [ ]
  below_means (four_zooms {i} {f}) (d ∷ w) h =
      each_quadrant (λ d. meaning k book (Pieced i (Zoomed UpperLeft f) (Zoomed UpperRight f) (Zoomed LowerLeft f) (Zoomed LowerRight f)) (d ∷ w) ≡ meaning k book f (d ∷ w)) refl refl refl refl d
  below_means (back_from_one p) w h = sym (below_means p w h)
  below_means (onward_from_one p q) w h = below_means p w h ∙ below_means q w h
