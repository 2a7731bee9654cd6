-- The operations of a recipe on bodies.
use Rattle.std.specs.Prelude.{ℕ, [], Some, None, Ok, Err, Option, Result}
use Rattle.weight.specs.Kinds.{Kind}
use Rattle.picture.specs.Bodies.{Body}
use Rattle.picture.specs.BodyOperations.{sum_body, product_body, turned_body, mirrored_body, zoomed_body, pieced_body}
use Rattle.picture.specs.Operations.{four}
use Rattle.compose.specs.Faults.{over_limit, product_fault}
use Rattle.compose.specs.declared.limits.Fault.{Fault}
use Rattle.recipe.specs.Evaluations.{Operations}
use Rattle.stack.specs.declared.fault.StepFault.{StepFault}

-- no states and no arcs: every cell is zero
abbrev pub blank : {W : Type 0} → Body W
blank = record { states = 0; first = []; last = []; arcs = [] }

-- the body of a step whose mark is at byte i, unless there is a fault
abbrev pub unless : {W : Type 0} → Option Fault → ℕ → Body W → Result (Body W) StepFault
unless None i b = Ok b
unless (Some f) i b = Err (record { mark = i; fault = f })

-- sums, products and piecings are refused past the limits, and products on a kind that does not exchange
abbrev pub drawing : {W : Type 0} → Kind W → Operations (Body W) StepFault
drawing k = record {
  nothing = blank;
  turn = turned_body;
  mirror = mirrored_body;
  zoom = zoomed_body k;
  add = λ i a b. unless (over_limit (sum_body a b)) i (sum_body a b);
  multiply = λ i a b. unless (product_fault k (product_body k a b)) i (product_body k a b);
  piece = λ i a b c d. unless (over_limit (pieced_body k (four a b c d))) i (pieced_body k (four a b c d));
}
