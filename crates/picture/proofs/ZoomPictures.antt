-- The picture of a zoom.
use Rattle.std.proofs.Common.{refl}
use Rattle.std.proofs.lemmas.List.FromFn.{length-map-range_with_len}
use Rattle.weight.specs.Kinds.{Kind, Laws}
use Rattle.picture.specs.Bodies.{Body, Sound}
use Rattle.picture.specs.BodyOperations.{zoomed_body}
use Rattle.picture.specs.OperationStatements.{Zooms}
use Rattle.picture.specs.declared.quadrant.Quadrant.{Quadrant}
use Rattle.picture.proofs.Carries.{value_stepped}

pub zoom_sound : {W : Type 0} (k : Kind W) (d : Quadrant) (a : Body W) → Sound a → Sound (zoomed_body k d a)
zoom_sound k d a sound = record { firsts = length-map-range_with_len _ 0 a.states; lasts = sound.lasts; ends = sound.ends }

pub zoom_shows : {W : Type 0} {k : Kind W} → Laws k → Zooms k
zoom_shows laws d a sound w = value_stepped laws a sound a.first _ d refl w
