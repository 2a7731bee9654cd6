use Rattle.std.proofs.Common.{refl, rules}
use Rattle.product.proofs.Appending.{held_more}
use Rattle.product.proofs.pairs.Pairs.push.Goals as goal

pub returns : goal.returns
returns g c =
    let self = c.args.self.now in
    record {
      count = refl;
      adds = held_more self.count self.arcs.now self.weights.now c.args.arc c.args.weight self.both c.requires;
      long = search rules;
      arcs = refl;
      weights = refl;
    }
