use Rattle.std.proofs.Common.{◌<◌, ◌≢◌, length, arith, get_or-set_other, get_or-set_same, below_more}
use Rattle.std.proofs.lemmas.List.FromFn.{fill_by_all}
use Rattle.steps.proofs.rows.advance.Goals as goal

pub loop-q-preserved : goal.loop-q-preserved
loop-q-preserved g c =
    below_more _ _
    (λ k h. let ne : k ≢ c.loop-q.q = omega arith in rw get_or-set_other (c.loop-q.invariant k h))
    (let lt : c.loop-q.q < length c.loop-q.next = omega arith in rw get_or-set_same c.gather.ensures)

pub returns : goal.returns
returns g c = fill_by_all _ _ _ _ c.loop-q.auto.next (λ k h. c.loop-q.invariant k (omega arith))
