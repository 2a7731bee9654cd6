-- What the operations on bodies keep, and that each has the picture of the operation on pictures.
use Rattle.std.specs.Prelude.{◌≡◌, true}
use Rattle.weight.specs.Kinds.{Kind}
use Rattle.picture.specs.Bodies.{Body, Sound}
use Rattle.picture.specs.BodyOperations.{sum_body, product_body, turned_body, mirrored_body, zoomed_body, pieced_body}
use Rattle.picture.specs.Operations.{sum_picture, product_picture, turned_picture, mirrored_picture, zoomed_picture, pieced_picture}
use Rattle.picture.specs.Pictures.{Picture, picture}
use Rattle.picture.specs.Quadrants.{Address}
use Rattle.picture.specs.declared.quadrant.Quadrant.{Quadrant}

-- a body has a picture
abbrev pub Shows : {W : Type 0} → Kind W → Body W → Picture W → Type 0
Shows k b f = (w : Address) → picture k b w ≡ f w

-- results of sound bodies are sound
pub record SoundResults {W : Type 0} (k : Kind W) : Type 0 where
  pub sums : (a b : Body W) → Sound a → Sound b → Sound (sum_body a b)
  pub products : (a b : Body W) → Sound a → Sound b → Sound (product_body k a b)
  pub turns : (a : Body W) → Sound a → Sound (turned_body a)
  pub mirrors : (a : Body W) → Sound a → Sound (mirrored_body a)
  pub zooms : (d : Quadrant) (a : Body W) → Sound a → Sound (zoomed_body k d a)
  pub piecings : (f : Quadrant → Body W) → ((d : Quadrant) → Sound (f d)) → Sound (pieced_body k f)

module _ {W : Type 0} (k : Kind W) where
  -- a sum of bodies
  abbrev pub Sums : Type 0
  Sums = (a b : Body W) → Sound a → Sound b → Shows k (sum_body a b) (sum_picture k (picture k a) (picture k b))

  -- a product of bodies, on kinds that exchange
  abbrev pub Products : Type 0
  Products = k.exchanges ≡ true → (a b : Body W) → Sound a → Sound b → Shows k (product_body k a b) (product_picture k (picture k a) (picture k b))

  -- a turned body
  abbrev pub Turns : Type 0
  Turns = (a : Body W) → Sound a → Shows k (turned_body a) (turned_picture (picture k a))

  -- a mirrored body
  abbrev pub Mirrors : Type 0
  Mirrors = (a : Body W) → Sound a → Shows k (mirrored_body a) (mirrored_picture (picture k a))

  -- a body zoomed into a quadrant
  abbrev pub Zooms : Type 0
  Zooms = (d : Quadrant) (a : Body W) → Sound a → Shows k (zoomed_body k d a) (zoomed_picture d (picture k a))

  -- four bodies pieced together
  abbrev pub Piecings : Type 0
  Piecings = (f : Quadrant → Body W) → ((d : Quadrant) → Sound (f d)) → Shows k (pieced_body k f) (pieced_picture k (λ d. picture k (f d)))
