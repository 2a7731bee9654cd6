-- For the contracts of private functions: functions that take quadrants to quadrants.
use Rattle.std.specs.Prelude.{◌≡◌}
use Rattle.picture.specs.declared.quadrant.Quadrant.{Quadrant}

-- each result is g's
abbrev pub Computes : (Quadrant → Quadrant → Type 0) → (Quadrant → Quadrant) → Type 0
Computes gives g = (q r : Quadrant) → gives q r → r ≡ g q
