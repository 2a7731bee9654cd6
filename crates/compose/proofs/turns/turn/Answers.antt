use Rattle.std.proofs.Common.{ap, ◌∙◌}
use Rattle.picture.specs.BodyOperations.{unturned}
use Rattle.picture.specs.Lent.{lent}
use Rattle.picture.specs.Operations.{turned}
use Rattle.picture.specs.Pictures.{picture}
use Rattle.picture.proofs.DigitPictures.{redirected_shows, turn_replaces}
use Rattle.picture.proofs.Storing.{lent_sound}
use Rattle.compose.proofs.turns.turn.Goals as goal

pub returns : goal.returns
returns g c =
    let body = c.displace.ensures.body unturned (λ _ _ p. p.1) in
    record {
      body = body;
      kept = c.displace.ensures.kept unturned (λ _ _ p. p.1);
      shows = λ w. ap (λ b. picture g.W.Weight.kind b w) body ∙ redirected_shows g.met.W.Weight.laws turned unturned turn_replaces (lent c.args.a) (lent_sound c.args.a) w;
    }
