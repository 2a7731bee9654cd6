use Rattle.std.proofs.Common.{◌-◌, ◌∙◌, arith, rules}
use Rattle.std.proofs.lemmas.List.{places, length-take-le}
use Rattle.std.proofs.lemmas.Result.{err_from_is_err_and}
use Rattle.words.specs.Wrong.{arc_pieces}
use Rattle.words.proofs.Stopping.{stop_states}
use Rattle.words.proofs.Storing.{body_done}
use Rattle.words.proofs.reader.Reader.body.Goals as goal

pub returns-in_err-states : goal.returns-in_err-states
returns-in_err-states g c =
    let n = c.args.counts.states in
    let p = err_from_is_err_and c.from_residual.result c.from_residual.ensures.1 in
    rw (p.1, p.2) (stop_states g.W.Written.writing _ n (arc_pieces c.args.counts.arcs) _ _ _ (length-take-le (n - 0) c.split_at_mut-firsts.result.0.now (omega arith) ∙ omega arith) c.in_err-states.ensures)

pub returns : goal.returns
returns g c =
    body_done g.W.Written.writing c.args.counts c.states.new.firsts _ c.states.new.lasts _ c.arcs.new.weights c.arcs.new.arcs _
    (search (rules, places)) (search (rules, places)) (search rules) (search rules) (search rules) (search rules) c.in_ok-states.ensures.0 c.in_ok-arcs.ensures
