use Rattle.std.proofs.Common.{◌+◌, sym, ap₂}
use Rattle.picture.proofs.Storing.{lent_count}
use Rattle.piece.proofs.parts.part_size.Goals as goal

pub returns-clause-size : goal.returns-clause-size
returns-clause-size g c = ap₂ ◌+◌ c.states.ensures (sym (lent_count c.args.part _ c.arcs.ensures.arcs c.arcs.ensures.count))
