use Rattle.tile.proofs.Squares.{power_is}
use Rattle.tile.proofs.powers.power.Goals as goal

pub returns : goal.returns
returns c = power_is c.args.digits c.requires
