-- The worked examples, as one list.
use Rattle.std.specs.Prelude.{◌≡◌, [], ◌∷◌}
use Rattle.weight.specs.Grey.{grey_kind}
use Rattle.weight.specs.Height.{height, height_kind}
use Rattle.weight.specs.Ink.{ink, ink_kind}
use Rattle.weight.specs.Valve.{valve, valve_kind}
use Rattle.picture.specs.BodyOperations.{sum_body, product_body, turned_body, mirrored_body, pieced_body}
use Rattle.picture.specs.Operations.{four}
use Rattle.examples.specs.Drawings.{ramp, flat, cells}

pub record Examples : Type 0 where
  pub height_stops : height_kind.times (height 16777214) (height 5) ≡ height 16777215
  pub ink_sum_stops : ink_kind.plus (ink 200) (ink 100) ≡ ink 255
  pub ink_product_stops : ink_kind.times (ink 16) (ink 16) ≡ ink 255
  pub valve_there : valve_kind.times (valve 2) (valve 4) ≡ valve 1
  pub valve_back : valve_kind.times (valve 4) (valve 2) ≡ valve 8
  pub ramp_rises : cells 2 ramp ≡ 0 ∷ 1 ∷ 2 ∷ 3 ∷ 0 ∷ 1 ∷ 2 ∷ 3 ∷ 0 ∷ 1 ∷ 2 ∷ 3 ∷ 0 ∷ 1 ∷ 2 ∷ 3 ∷ []
  pub ramp_mirrored : cells 2 (mirrored_body ramp) ≡ 3 ∷ 2 ∷ 1 ∷ 0 ∷ 3 ∷ 2 ∷ 1 ∷ 0 ∷ 3 ∷ 2 ∷ 1 ∷ 0 ∷ 3 ∷ 2 ∷ 1 ∷ 0 ∷ []
  pub ramp_squared : cells 2 (product_body grey_kind ramp ramp) ≡ 0 ∷ 1 ∷ 4 ∷ 9 ∷ 0 ∷ 1 ∷ 4 ∷ 9 ∷ 0 ∷ 1 ∷ 4 ∷ 9 ∷ 0 ∷ 1 ∷ 4 ∷ 9 ∷ []
  pub ramp_turned : cells 2 (turned_body ramp) ≡ 0 ∷ 0 ∷ 0 ∷ 0 ∷ 1 ∷ 1 ∷ 1 ∷ 1 ∷ 2 ∷ 2 ∷ 2 ∷ 2 ∷ 3 ∷ 3 ∷ 3 ∷ 3 ∷ []
  pub flat_pieced_whole : cells 0 (pieced_body grey_kind (λ d. flat)) ≡ 0 ∷ []
  pub flat_pieced : cells 1 (pieced_body grey_kind (λ d. flat)) ≡ 7 ∷ 7 ∷ 7 ∷ 7 ∷ []
  pub flat_composed : cells 1 (pieced_body grey_kind (four flat (sum_body flat flat) flat (product_body grey_kind flat flat))) ≡ 7 ∷ 14 ∷ 7 ∷ 49 ∷ []
