-- The book: a picture for each place. What a right side means, and how the lines of a script change the book.
use Rattle.std.specs.Prelude.{List, [], ◌∷◌}
use Rattle.weight.specs.Kinds.{Kind}
use Rattle.picture.specs.Operations.{four, sum_picture, product_picture, turned_picture, mirrored_picture, zoomed_picture, pieced_picture}
use Rattle.picture.specs.Pictures.{Picture}
use Rattle.recipe.specs.declared.place.Place.{Place}
use Rattle.recipe.specs.Expressions.{Expression, Named, Turned, Mirrored, Zoomed, Sum, Product, Pieced, Line}
use Rattle.recipe.specs.Evaluations.{put}

-- a picture for each place
abbrev pub Book : Type 0 → Type 0
Book W = Place → Picture W

module _ {W : Type 0} (k : Kind W) where
  -- the picture that a right side means
  abbrev pub meaning : Book W → Expression → Picture W
  meaning book (Named p) = book p
  meaning book (Turned f) = turned_picture (meaning book f)
  meaning book (Mirrored f) = mirrored_picture (meaning book f)
  meaning book (Zoomed d f) = zoomed_picture d (meaning book f)
  meaning book (Sum i f g) = sum_picture k (meaning book f) (meaning book g)
  meaning book (Product i f g) = product_picture k (meaning book f) (meaning book g)
  meaning book (Pieced i f g h e) = pieced_picture k (four (meaning book f) (meaning book g) (meaning book h) (meaning book e))

  -- line by line, the target's picture becomes what the right side means in the book as the line starts
  abbrev pub noted : List Line → Book W → Book W
  noted [] book = book
  noted (l ∷ ls) book = noted ls (put l.target (meaning book l.right) book)
