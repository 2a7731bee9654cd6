use Rattle.std.proofs.Common.{ap, ◌∙◌}
use Rattle.picture.specs.Lent.{lent}
use Rattle.picture.specs.Operations.{mirrored}
use Rattle.picture.specs.Pictures.{picture}
use Rattle.picture.proofs.DigitPictures.{redirected_shows, mirror_replaces}
use Rattle.picture.proofs.Storing.{lent_sound}
use Rattle.compose.proofs.mirrors.mirror.Goals as goal

pub returns : goal.returns
returns g c =
    let body = c.displace.ensures.body mirrored (λ _ _ p. p.1) in
    record {
      body = body;
      kept = c.displace.ensures.kept mirrored (λ _ _ p. p.1);
      shows = λ w. ap (λ b. picture g.W.Weight.kind b w) body ∙ redirected_shows g.met.W.Weight.laws mirrored mirrored mirror_replaces (lent c.args.a) (lent_sound c.args.a) w;
    }
