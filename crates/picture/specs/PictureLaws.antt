-- The laws of the operations on pictures.
use Rattle.std.specs.Prelude.{◌≡◌, true, ◌∷◌}
use Rattle.weight.specs.Kinds.{Kind}
use Rattle.picture.specs.Operations.{four, sum_picture, product_picture, turned_picture, mirrored_picture, zoomed_picture, pieced_picture}
use Rattle.picture.specs.Pictures.{Picture}
use Rattle.picture.specs.Quadrants.{Address}
use Rattle.picture.specs.declared.quadrant.Quadrant.{Quadrant}

-- the laws of products
pub record ProductLaws {W : Type 0} (k : Kind W) : Type 0 where
  pub product_comm : (f g : Picture W) → product_picture k f g ≡ product_picture k g f
  pub product_assoc : (f g h : Picture W) → product_picture k (product_picture k f g) h ≡ product_picture k f (product_picture k g h)
  pub product_sum : (f g h : Picture W) → product_picture k f (sum_picture k g h) ≡ sum_picture k (product_picture k f g) (product_picture k f h)

-- on every kind; `products` on kinds that exchange
pub record PictureLaws {W : Type 0} (k : Kind W) : Type 0 where
  pub sum_comm : (f g : Picture W) → sum_picture k f g ≡ sum_picture k g f
  pub sum_assoc : (f g h : Picture W) → sum_picture k (sum_picture k f g) h ≡ sum_picture k f (sum_picture k g h)
  pub four_turns : (f : Picture W) → turned_picture (turned_picture (turned_picture (turned_picture f))) ≡ f
  pub two_mirrors : (f : Picture W) → mirrored_picture (mirrored_picture f) ≡ f
  pub turn_mirror_turn : (f : Picture W) → turned_picture (mirrored_picture (turned_picture f)) ≡ mirrored_picture f
  pub turn_sum : (f g : Picture W) → turned_picture (sum_picture k f g) ≡ sum_picture k (turned_picture f) (turned_picture g)
  pub mirror_sum : (f g : Picture W) → mirrored_picture (sum_picture k f g) ≡ sum_picture k (mirrored_picture f) (mirrored_picture g)
  pub turn_product : (f g : Picture W) → turned_picture (product_picture k f g) ≡ product_picture k (turned_picture f) (turned_picture g)
  pub mirror_product : (f g : Picture W) → mirrored_picture (product_picture k f g) ≡ product_picture k (mirrored_picture f) (mirrored_picture g)
  pub zoom_piecing : (d : Quadrant) (f : Quadrant → Picture W) → zoomed_picture d (pieced_picture k f) ≡ f d
  pub turn_piecing : (f g h i : Picture W)
      → turned_picture (pieced_picture k (four f g h i)) ≡ pieced_picture k (four (turned_picture h) (turned_picture f) (turned_picture i) (turned_picture g))
  pub mirror_piecing : (f g h i : Picture W)
      → mirrored_picture (pieced_picture k (four f g h i)) ≡ pieced_picture k (four (mirrored_picture g) (mirrored_picture f) (mirrored_picture i) (mirrored_picture h))
  -- at every address but the empty one
  pub four_zooms : (f : Picture W) (d : Quadrant) (w : Address) → pieced_picture k (λ e. zoomed_picture e f) (d ∷ w) ≡ f (d ∷ w)
  pub products : k.exchanges ≡ true → ProductLaws k
