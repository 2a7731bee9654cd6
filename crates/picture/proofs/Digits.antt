-- The digit of a quadrant.
use Rattle.std.proofs.Common.{◌<◌, arith}
use Rattle.picture.specs.Quadrants.{digit}
use Rattle.picture.specs.declared.quadrant.Quadrant.{Quadrant}
use Rattle.picture.specs.declared.quadrant.Quadrant.TheVariants.{UpperLeft, UpperRight, LowerLeft, LowerRight}

pub digit_below : (q : Quadrant) → digit q < 4
digit_below UpperLeft = omega arith
digit_below UpperRight = omega arith
digit_below LowerLeft = omega arith
digit_below LowerRight = omega arith
