-- Masks: 0 and 1 under or and and.
use Rattle.std.specs.Prelude.{ℕ, Bool, true, false, cond, ◌&&◌, ◌||◌}
use Rattle.weight.specs.Kinds.{Kind}
use Rattle.weight.specs.declared.mask.Mask.{Mask}

abbrev pub mask : Bool → Mask
mask b = record { set = b }

abbrev pub mask_kind : Kind Mask
mask_kind = record {
  zero = mask false;
  one = mask true;
  plus = λ a b. mask (a.set || b.set);
  times = λ a b. mask (a.set && b.set);
  exchanges = true;
}

abbrev pub mask_number : Mask → ℕ
mask_number a = cond a.set 1 0
