use Rattle.picture.specs.BodyOperations.{unturned}
use Rattle.picture.specs.Operations.{mirrored}
use Rattle.picture.proofs.DigitPictures.{redirected_sound, turn_shows, mirror_shows}
use Rattle.picture.proofs.PiecedPictures.{pieced_sound, pieced_shows}
use Rattle.picture.proofs.ProductPictures.{product_sound, product_shows}
use Rattle.picture.proofs.SumPictures.{sum_sound, sum_shows}
use Rattle.picture.proofs.ZoomPictures.{zoom_sound, zoom_shows}
use Rattle.picture.proofs.theorems.operations_stand.Goals as goal

pub returns : goal.returns
returns g c =
    let k = g.W.Weight.kind in
    let laws = g.met.W.Weight.laws in
    record {
      sound = record {
        sums = sum_sound;
        products = product_sound k;
        turns = redirected_sound unturned;
        mirrors = redirected_sound mirrored;
        zooms = zoom_sound k;
        piecings = pieced_sound k;
      };
      sums = sum_shows laws;
      products = product_shows laws;
      turns = turn_shows laws;
      mirrors = mirror_shows laws;
      zooms = zoom_shows laws;
      piecings = pieced_shows laws;
    }
