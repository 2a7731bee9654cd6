use Rattle.picture.proofs.Values.{picture_meets}
use Rattle.picture.proofs.theorems.meet_in_the_middle.Goals as goal

pub returns : goal.returns
returns g c = picture_meets g.met.W.Weight.laws
