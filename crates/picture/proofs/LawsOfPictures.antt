-- The laws of the operations on pictures.
use Rattle.std.proofs.Common.{◌≡◌, true, [], ◌∷◌, map, refl, ap, ap₂}
use mathlib.Core.Path.{fun_ext}
use Rattle.weight.specs.Kinds.{Kind, Laws}
use Rattle.picture.specs.Operations.{turned, mirrored, four, turned_picture, mirrored_picture, pieced_picture}
use Rattle.picture.specs.PictureLaws.{PictureLaws, ProductLaws}
use Rattle.picture.specs.Pictures.{Picture}
use Rattle.picture.specs.Quadrants.{Address}
use Rattle.picture.specs.declared.quadrant.Quadrant.{Quadrant}
use Rattle.picture.specs.declared.quadrant.Quadrant.TheVariants.{UpperLeft, UpperRight, LowerLeft, LowerRight}

-- what holds of each quadrant
pub each_quadrant : (P : Quadrant → Type 0) → P UpperLeft → P UpperRight → P LowerLeft → P LowerRight → (d : Quadrant) → P d
each_quadrant P a b c d UpperLeft = a
each_quadrant P a b c d UpperRight = b
each_quadrant P a b c d LowerLeft = c
each_quadrant P a b c d LowerRight = d

turned_four : (d : Quadrant) → turned (turned (turned (turned d))) ≡ d
turned_four = each_quadrant _ refl refl refl refl

mirrored_two : (d : Quadrant) → mirrored (mirrored d) ≡ d
mirrored_two = each_quadrant _ refl refl refl refl

turned_mirrored_turned : (d : Quadrant) → turned (mirrored (turned d)) ≡ mirrored d
turned_mirrored_turned = each_quadrant _ refl refl refl refl

map_four : (w : Address) → map turned (map turned (map turned (map turned w))) ≡ w
map_four [] = refl
map_four (d ∷ w) = ap₂ ◌∷◌ (turned_four d) (map_four w)

map_two : (w : Address) → map mirrored (map mirrored w) ≡ w
map_two [] = refl
map_two (d ∷ w) = ap₂ ◌∷◌ (mirrored_two d) (map_two w)

map_three : (w : Address) → map turned (map mirrored (map turned w)) ≡ map mirrored w
map_three [] = refl
map_three (d ∷ w) = ap₂ ◌∷◌ (turned_mirrored_turned d) (map_three w)

module _ {W : Type 0} (k : Kind W) (f g h i : Picture W) where
  turned_piecing : (w : Address) → turned_picture (pieced_picture k (four f g h i)) w ≡ pieced_picture k (four (turned_picture h) (turned_picture f) (turned_picture i) (turned_picture g)) w
  turned_piecing [] = refl
  turned_piecing (UpperLeft ∷ w) = refl
  turned_piecing (UpperRight ∷ w) = refl
  turned_piecing (LowerLeft ∷ w) = refl
  turned_piecing (LowerRight ∷ w) = refl

  mirrored_piecing : (w : Address) → mirrored_picture (pieced_picture k (four f g h i)) w ≡ pieced_picture k (four (mirrored_picture g) (mirrored_picture f) (mirrored_picture i) (mirrored_picture h)) w
  mirrored_piecing [] = refl
  mirrored_piecing (UpperLeft ∷ w) = refl
  mirrored_piecing (UpperRight ∷ w) = refl
  mirrored_piecing (LowerLeft ∷ w) = refl
  mirrored_piecing (LowerRight ∷ w) = refl

module _ {W : Type 0} {k : Kind W} (laws : Laws k) where
  product_laws : k.exchanges ≡ true → ProductLaws k
  product_laws t = record {
    product_comm = λ f g. fun_ext (λ w. laws.times_comm t (f w) (g w));
    product_assoc = λ f g h. fun_ext (λ w. laws.times_assoc (f w) (g w) (h w));
    product_sum = λ f g h. fun_ext (λ w. laws.times_plus (f w) (g w) (h w));
  }

  pub picture_laws : PictureLaws k
  picture_laws = record {
    sum_comm = λ f g. fun_ext (λ w. laws.plus_comm (f w) (g w));
    sum_assoc = λ f g h. fun_ext (λ w. laws.plus_assoc (f w) (g w) (h w));
    four_turns = λ f. fun_ext (λ w. ap f (map_four w));
    two_mirrors = λ f. fun_ext (λ w. ap f (map_two w));
    turn_mirror_turn = λ f. fun_ext (λ w. ap f (map_three w));
    turn_sum = λ f g. refl;
    mirror_sum = λ f g. refl;
    turn_product = λ f g. refl;
    mirror_product = λ f g. refl;
    zoom_piecing = λ d f. refl;
    turn_piecing = λ f g h i. fun_ext (turned_piecing k f g h i);
    mirror_piecing = λ f g h i. fun_ext (mirrored_piecing k f g h i);
    four_zooms = λ f d w. refl;
    products = product_laws;
  }
