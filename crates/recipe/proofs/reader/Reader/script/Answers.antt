use Rattle.std.proofs.Common.{rules}
use Rattle.std.proofs.lemmas.Result.{err_from_is_err_and}
use Rattle.recipe.proofs.Lines.{got_blank, got_next, lost_next, smaller, none_left}
use Rattle.recipe.proofs.reader.Reader.script.Goals as goal

pub loop-self-init : goal.loop-self-init
loop-self-init c = got_blank

pub loop-self-smaller : goal.loop-self-smaller
loop-self-smaller c = smaller c.loop-self.invariant c.in_ok-line.ensures.0

pub loop-self-preserved : goal.loop-self-preserved
loop-self-preserved c = got_next c.loop-self.invariant c.in_ok-line.ensures.0

pub returns-in_err-line : goal.returns-in_err-line
returns-in_err-line c =
    let p = err_from_is_err_and c.from_residual.result c.from_residual.ensures.1 in
    rw (p.1, p.2) (lost_next c.loop-self.invariant c.in_err-line.ensures)

pub returns : goal.returns
returns c = (c.loop-self.invariant, none_left _ (search rules))
