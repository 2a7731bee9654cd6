-- The numbers of the places.
use Rattle.std.proofs.Common.{◌≡◌, ◌<◌, Some, refl, ap, arith}
use Rattle.recipe.specs.Places.{number, place}
use Rattle.recipe.specs.declared.place.Place.{Place}
use Rattle.recipe.specs.declared.place.Place.TheVariants.{A, B, C, D, E, F, G, H}

-- what holds of each place
pub each_place : (P : Place → Type 0) → P A → P B → P C → P D → P E → P F → P G → P H → (p : Place) → P p
each_place P a b c d e f g h A = a
each_place P a b c d e f g h B = b
each_place P a b c d e f g h C = c
each_place P a b c d e f g h D = d
each_place P a b c d e f g h E = e
each_place P a b c d e f g h F = f
each_place P a b c d e f g h G = g
each_place P a b c d e f g h H = h

-- the place with a place's number is that place
pub place_number : (p : Place) → place (number p) ≡ Some p
place_number = each_place (λ p. place (number p) ≡ Some p) refl refl refl refl refl refl refl refl

-- places with one number are one
pub one_place : (p q : Place) → number p ≡ number q → p ≡ q
one_place p q e = let a = place_number p in let b = place_number q in let c : place (number p) ≡ place (number q) = ap place e in cc

-- there are eight
pub number_below : (p : Place) → number p < 8
number_below = each_place (λ p. number p < 8) (omega arith) (omega arith) (omega arith) (omega arith) (omega arith) (omega arith) (omega arith) (omega arith)
