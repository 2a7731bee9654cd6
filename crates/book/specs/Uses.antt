-- Uses of the picture laws on right sides. Where a mark stands in the script has no part in them.
use Rattle.std.specs.Prelude.{◌≡◌, ℕ, ◌≤◌, Bool, true, List, [], ◌∷◌}
use Rattle.picture.specs.Operations.{four}
use Rattle.picture.specs.declared.quadrant.Quadrant.{Quadrant}
use Rattle.picture.specs.declared.quadrant.Quadrant.TheVariants.{UpperLeft, UpperRight, LowerLeft, LowerRight}
use Rattle.recipe.specs.declared.place.Place.{Place}
use Rattle.recipe.specs.Expressions.{Expression, Turned, Mirrored, Zoomed, Sum, Product, Pieced, Line}

-- on a kind that exchanges, or not
module _ (exchanges : Bool) where
  -- the two sides of a law
  pub data Law : Expression → Expression → Type 0 where
    sums_swap : {i j : ℕ} {f g : Expression} → Law (Sum i f g) (Sum j g f)
    sums_regroup : {i j m n : ℕ} {f g h : Expression} → Law (Sum i (Sum j f g) h) (Sum m f (Sum n g h))
    products_regroup : {i j m n : ℕ} {f g h : Expression} → exchanges ≡ true → Law (Product i (Product j f g) h) (Product m f (Product n g h))
    products_swap : {i j : ℕ} {f g : Expression} → exchanges ≡ true → Law (Product i f g) (Product j g f)
    products_spread : {i j l m n : ℕ} {f g h : Expression} → exchanges ≡ true → Law (Product i f (Sum j g h)) (Sum l (Product m f g) (Product n f h))
    four_turns : {f : Expression} → Law (Turned (Turned (Turned (Turned f)))) f
    two_mirrors : {f : Expression} → Law (Mirrored (Mirrored f)) f
    turn_mirror_turn : {f : Expression} → Law (Turned (Mirrored (Turned f))) (Mirrored f)
    turns_enter_sums : {i j : ℕ} {f g : Expression} → Law (Turned (Sum i f g)) (Sum j (Turned f) (Turned g))
    turns_enter_products : {i j : ℕ} {f g : Expression} → exchanges ≡ true → Law (Turned (Product i f g)) (Product j (Turned f) (Turned g))
    mirrors_enter_sums : {i j : ℕ} {f g : Expression} → Law (Mirrored (Sum i f g)) (Sum j (Mirrored f) (Mirrored g))
    mirrors_enter_products : {i j : ℕ} {f g : Expression} → exchanges ≡ true → Law (Mirrored (Product i f g)) (Product j (Mirrored f) (Mirrored g))
    zoomed_piecing : {i : ℕ} {d : Quadrant} {f g h e : Expression} → Law (Zoomed d (Pieced i f g h e)) (four f g h e d)
    turned_piecing : {i j : ℕ} {f g h e : Expression} → Law (Turned (Pieced i f g h e)) (Pieced j (Turned h) (Turned f) (Turned e) (Turned g))
    mirrored_piecing : {i j : ℕ} {f g h e : Expression} → Law (Mirrored (Pieced i f g h e)) (Pieced j (Mirrored g) (Mirrored f) (Mirrored e) (Mirrored h))

  -- right sides that differ by any number of uses, in either direction and on any piece
  pub data Alike : Expression → Expression → Type 0 where
    by_law : {f g : Expression} → Law f g → Alike f g
    itself : {f : Expression} → Alike f f
    back : {f g : Expression} → Alike f g → Alike g f
    onward : {f g h : Expression} → Alike f g → Alike g h → Alike f h
    in_turn : {f g : Expression} → Alike f g → Alike (Turned f) (Turned g)
    in_mirror : {f g : Expression} → Alike f g → Alike (Mirrored f) (Mirrored g)
    in_zoom : {d : Quadrant} {f g : Expression} → Alike f g → Alike (Zoomed d f) (Zoomed d g)
    in_sum : {i j : ℕ} {f g p q : Expression} → Alike f g → Alike p q → Alike (Sum i f p) (Sum j g q)
    in_product : {i j : ℕ} {f g p q : Expression} → Alike f g → Alike p q → Alike (Product i f p) (Product j g q)
    in_piecing : {i j : ℕ} {a b c d p q r s : Expression} → Alike a p → Alike b q → Alike c r → Alike d s → Alike (Pieced i a b c d) (Pieced j p q r s)

  -- The same from depth 1 on: with the four zooms pieced, [^0f,^1f,^2f,^3f] = f, on the whole right side.
  pub data AlikeFromOne : Expression → Expression → Type 0 where
    alike : {f g : Expression} → Alike f g → AlikeFromOne f g
    four_zooms : {i : ℕ} {f : Expression} → AlikeFromOne (Pieced i (Zoomed UpperLeft f) (Zoomed UpperRight f) (Zoomed LowerLeft f) (Zoomed LowerRight f)) f
    back_from_one : {f g : Expression} → AlikeFromOne f g → AlikeFromOne g f
    onward_from_one : {f g h : Expression} → AlikeFromOne f g → AlikeFromOne g h → AlikeFromOne f h

  -- the line that stores f to p
  abbrev pub stores : Place → Expression → Line
  stores p f = record { target = p; right = f }

  -- scripts that differ by uses of the laws
  pub data Related : List Line → List Line → Type 0 where
    no_line : Related [] []
    a_line : {p : Place} {f g : Expression} {ls ms : List Line} → Alike f g → Related ls ms → Related (stores p f ∷ ls) (stores p g ∷ ms)

  -- the same, with the four zooms pieced on the whole right side of the last line, whose target is `last`
  pub data RelatedFromOne (last : Place) : List Line → List Line → Type 0 where
    the_last : {f g : Expression} → AlikeFromOne f g → RelatedFromOne last (stores last f ∷ []) (stores last g ∷ [])
    before_it : {q : Place} {f g : Expression} {ls ms : List Line} → Alike f g → RelatedFromOne last ls ms → RelatedFromOne last (stores q f ∷ ls) (stores q g ∷ ms)

  -- the scripts differ by uses of the laws, and the cells of place p at this depth are compared
  pub data Compared (ls ms : List Line) (p : Place) (depth : ℕ) : Type 0 where
    always : Related ls ms → Compared ls ms p depth
    from_one : {last : Place} → RelatedFromOne last ls ms → (p ≡ last → 1 ≤ depth) → Compared ls ms p depth
