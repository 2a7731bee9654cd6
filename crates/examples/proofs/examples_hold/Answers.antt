use Rattle.std.proofs.Common.{refl}
use Rattle.weight.specs.Same.{same_height, same_ink}
use Rattle.examples.proofs.examples_hold.Goals as goal

pub returns : goal.returns
returns c = record {
  height_stops = same_height refl;
  ink_sum_stops = same_ink refl;
  ink_product_stops = same_ink refl;
  valve_there = refl;
  valve_back = refl;
  ramp_rises = refl;
  ramp_mirrored = refl;
  ramp_squared = refl;
  ramp_turned = refl;
  flat_pieced_whole = refl;
  flat_pieced = refl;
  flat_composed = refl;
}
