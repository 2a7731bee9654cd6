-- Arcs counted by their digit.
use Rattle.std.specs.Prelude.{ℕ, ◌+◌, ◌*◌, List, length, filter}
use Rattle.picture.specs.Quadrants.{same}
use Rattle.picture.specs.declared.body.Arc.{Arc}
use Rattle.picture.specs.declared.quadrant.Quadrant.{Quadrant}
use Rattle.picture.specs.declared.quadrant.Quadrant.TheVariants.{UpperLeft, UpperRight, LowerLeft, LowerRight}

-- how many arcs have a digit
abbrev pub tally : Quadrant → List Arc → ℕ
tally d arcs = length (filter (λ a. same d a.quadrant) arcs)

-- how many pairs of arcs have one digit
abbrev pub matches : List Arc → List Arc → ℕ
matches xs ys =
    tally UpperLeft xs * tally UpperLeft ys + tally UpperRight xs * tally UpperRight ys
    + tally LowerLeft xs * tally LowerLeft ys + tally LowerRight xs * tally LowerRight ys
