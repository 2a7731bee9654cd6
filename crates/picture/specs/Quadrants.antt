-- Quadrants, the digits that name them, and addresses.
use Rattle.std.specs.Prelude.{◌≡◌, ℕ, zero, suc, Bool, List, Some, None, Option, Result, MatchResult, ◌==◌}
use Rattle.std.specs.Option.{unwrap_or}
use Rattle.picture.specs.declared.quadrant.NoQuadrant.{NoQuadrant}
use Rattle.picture.specs.declared.quadrant.Quadrant.{Quadrant}
use Rattle.picture.specs.declared.quadrant.Quadrant.TheVariants.{UpperLeft, UpperRight, LowerLeft, LowerRight}

abbrev pub digit : Quadrant → ℕ
digit UpperLeft = 0
digit UpperRight = 1
digit LowerLeft = 2
digit LowerRight = 3

-- the quadrant that a number names
abbrev pub quadrant : ℕ → Option Quadrant
quadrant zero = Some UpperLeft
quadrant (suc zero) = Some UpperRight
quadrant (suc (suc zero)) = Some LowerLeft
quadrant (suc (suc (suc zero))) = Some LowerRight
quadrant (suc (suc (suc (suc n)))) = None

-- the quadrant that a number names, or the number where it names none
abbrev pub Decodes : ℕ → Result Quadrant NoQuadrant → Type 0
Decodes n r = MatchResult r (λ d. quadrant n ≡ Some d) (λ e. (e.0 ≡ n) × (quadrant n ≡ None))

-- the quadrant that a number below 4 names, and upper left for any other
abbrev pub named : ℕ → Quadrant
named n = unwrap_or (quadrant n) UpperLeft

abbrev pub same : Quadrant → Quadrant → Bool
same d e = digit d == digit e

-- an address, the coarsest digit first
abbrev pub Address : Type 0
Address = List Quadrant
