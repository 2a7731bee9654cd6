use Rattle.std.proofs.Common.{Ok, Err}
use Rattle.std.proofs.lemmas.Result.{err_from_is_err_and}
use Rattle.table.specs.Tables.{body_of}
use Rattle.book.specs.Calls.{unread}
use Rattle.rack.proofs.Performing.{read_carries, runs_performed}
use Rattle.rack.proofs.rack.Rack.perform.Goals as goal

pub returns-in_err-recipe-clause-outcome : goal.returns-in_err-recipe-clause-outcome
returns-in_err-recipe-clause-outcome g c = let e = err_from_is_err_and c.from_residual.result c.from_residual.ensures.1 in rw (e.1, e.2) (unread c.in_err-recipe.ensures)

pub perform-requires-clause-carries : goal.perform-requires-clause-carries
perform-requires-clause-carries g c = read_carries c.args.script.now c.in_ok-recipe.recipe _ c.in_ok-recipe.ensures c.steps.ensures

pub returns-in_err-perform-clause-outcome : goal.returns-in_err-perform-clause-outcome
returns-in_err-perform-clause-outcome g c =
    let e = err_from_is_err_and c.from_residual-in_err-perform.result c.from_residual-in_err-perform.ensures.1 in
    rw (e.1, e.2) (runs_performed g.W.Weight.kind g.W.Written.writing (body_of c.args.self.now.table c.args.memory.now) c.args.script.now c.in_ok-recipe.recipe _ _ (Err c.in_err-perform.field-0.0) c.in_ok-recipe.ensures c.steps.ensures c.in_err-perform.ensures.performed)

pub returns-clause-outcome : goal.returns-clause-outcome
returns-clause-outcome g c =
    runs_performed g.W.Weight.kind g.W.Written.writing (body_of c.args.self.now.table c.args.memory.now) c.args.script.now c.in_ok-recipe.recipe _ _ (Ok c.in_ok-perform.field-0) c.in_ok-recipe.ensures c.steps.ensures c.in_ok-perform.ensures.performed
