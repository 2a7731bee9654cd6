use Rattle.std.proofs.Common.{refl}
use Rattle.std.proofs.lemmas.Result.{err_from_is_err_and}
use Rattle.recipe.specs.Trees.{zoom}
use Rattle.recipe.proofs.Moves.{took_both, took_is}
use Rattle.recipe.proofs.Refusals.{lost_zoom}
use Rattle.recipe.proofs.reader.Reader.start.Goals as goal

pub returns-in_err-quadrant-in-Caret : goal.returns-in_err-quadrant-in-Caret
returns-in_err-quadrant-in-Caret c =
    let p = err_from_is_err_and c.from_residual-in_err-quadrant-in-Caret.result c.from_residual-in_err-quadrant-in-Caret.ensures.1 in
    let t = c.in_ok-opening.ensures in
    let h = c.in_err-quadrant-in-Caret.ensures in
    rw (p.1, p.2) (lost_zoom t.1 (took_is c.in-Caret.is t.0) h.1 h.0)

pub returns-in_ok-quadrant-in-Caret : goal.returns-in_ok-quadrant-in-Caret
returns-in_ok-quadrant-in-Caret c =
    let t = c.in_ok-opening.ensures in
    let h = c.in_ok-quadrant-in-Caret.ensures in
    ((zoom c.in_ok-quadrant-in-Caret.quadrant, refl, took_both (took_is c.in-Caret.is t.0) h), t.1)
