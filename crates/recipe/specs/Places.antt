-- The eight places, their numbers and their letters.
use Rattle.std.specs.Prelude.{◌≡◌, ℕ, zero, suc, ◌+◌, Some, None, Option, Result, MatchResult}
use Rattle.recipe.specs.declared.place.NoPlace.{NoPlace}
use Rattle.recipe.specs.declared.place.Place.{Place}
use Rattle.recipe.specs.declared.place.Place.TheVariants.{A, B, C, D, E, F, G, H}

-- the number of a place
abbrev pub number : Place → ℕ
number A = 0
number B = 1
number C = 2
number D = 3
number E = 4
number F = 5
number G = 6
number H = 7

-- the place with a number, if there is one
abbrev pub place : ℕ → Option Place
place zero = Some A
place (suc zero) = Some B
place (suc (suc zero)) = Some C
place (suc (suc (suc zero))) = Some D
place (suc (suc (suc (suc zero)))) = Some E
place (suc (suc (suc (suc (suc zero))))) = Some F
place (suc (suc (suc (suc (suc (suc zero)))))) = Some G
place (suc (suc (suc (suc (suc (suc (suc zero))))))) = Some H
place (suc (suc (suc (suc (suc (suc (suc (suc n)))))))) = None

-- the place with a number, or the number where it has none
abbrev pub Decodes : ℕ → Result Place NoPlace → Type 0
Decodes n r = MatchResult r (λ p. place n ≡ Some p) (λ e. (e.0 ≡ n) × (place n ≡ None))

-- the byte of a place's letter: 'A' is 65
abbrev pub letter : Place → ℕ
letter p = 65 + number p
