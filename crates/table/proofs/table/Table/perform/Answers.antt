use Rattle.std.proofs.Common.{◌+◌, ◌≤◌, sym, refl, ap, ◌∙◌, arith}
use Rattle.table.proofs.Scripting.{more, count_store, count_other, here_fits, done_more, done_stop, done_all, performed_front}
use Rattle.table.proofs.table.Table.perform.Goals.{in-Store, in_default-step}
use Rattle.table.proofs.table.Table.perform.Goals as goal

pub step-requires-clause-fits : goal.step-requires-clause-fits
step-requires-clause-fits g c = here_fits _ _ _ _ _ _ _ _ c.loop-step.invariant _ _ refl (omega arith)

pub returns-in-Err-clause-performed : goal.returns-in-Err-clause-performed
returns-in-Err-clause-performed g c =
    performed_front g.W.Weight.kind c.args.steps.now _ _ c.args.memory.now _ _ _ _ c.split_at_mut-bays.ensures.front c.requires.bays (omega arith)
    (done_stop _ _ _ _ _ _ _ _ c.loop-step.invariant _ _ refl (omega arith) _ c.in-Err.step c.in-Err.ensures.stepped)

pub loop-step-preserved : goal.loop-step-preserved
loop-step-preserved g c =
    let lines = c.loop-step.lines in
    let few : c.match-step-2.lines ≤ lines + 1 = elim c.match-step-2.branch [ in-Store w ↦ omega (arith, w.lines-is) | in_default-step w ↦ omega (arith, w.lines-is) ] in
    done_more _ _ _ _ _ _ _ _ c.loop-step.invariant _ _ refl (omega arith) _ _ _ _ c.step.ensures.kept (omega arith) c.in_default.ensures.height few
    (λ r. elim c.match-step-2.branch [
      | in-Store w ↦ count_store _ w.in-Store.field-0 lines w.in-Store.is r ∙ ap (λ n. more n r) (sym w.lines-is)
      | in_default-step w ↦ count_other _ lines w.in_default-step.not-Store r ∙ ap (λ n. more n r) (sym w.lines-is)
    ])
    c.in_default.ensures.stepped

pub returns-clause-performed : goal.returns-clause-performed
returns-clause-performed g c =
    performed_front g.W.Weight.kind c.args.steps.now _ _ c.args.memory.now _ _ _ _ c.split_at_mut-bays.ensures.front c.requires.bays (omega arith)
    (done_all _ _ _ _ _ _ _ _ c.loop-step.invariant (omega arith))
