use Rattle.picture.proofs.LawsOfPictures.{picture_laws}
use Rattle.picture.proofs.theorems.picture_laws_stand.Goals as goal

pub returns : goal.returns
returns g c = picture_laws g.met.W.Weight.laws
