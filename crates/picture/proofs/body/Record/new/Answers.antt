use Rattle.std.proofs.Common.{arith, rules}
use Rattle.picture.proofs.Storing.{holds_made}
use Rattle.picture.proofs.body.Record.new.Goals as goal

pub returns : goal.returns
returns c =
    holds_made c.args.states c.args.arcs.now c.copy_from_slice.new.self _ c.copy_from_slice.ensures.after
    (record { few_states = omega arith; few_arcs = omega arith; ends = search rules })
