use Rattle.std.proofs.Common.{rules}
use Rattle.picture.proofs.Storing.{lent_sound}
use Rattle.tile.proofs.automaton.Automaton.new.Goals as goal

pub invariant_of-result : goal.invariant_of-result
invariant_of-result g c = let sound = lent_sound c.args.body in search rules
