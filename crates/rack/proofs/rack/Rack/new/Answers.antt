use Rattle.table.proofs.Bodies.{blank_bodies}
use Rattle.rack.proofs.rack.Rack.new.Goals as goal

pub returns : goal.returns
returns g c memory = blank_bodies c.blank.result memory c.blank.ensures
