use Rattle.std.proofs.Common.{refl, arith}
use Rattle.recipe.proofs.Moves.{got_name}
use Rattle.recipe.proofs.Refusals.{lost_waiting, took_name}
use Rattle.recipe.proofs.reader.Reader.name.Goals as goal

pub returns-then-self-ge-MAX_WAITING : goal.returns-then-self-ge-MAX_WAITING
returns-then-self-ge-MAX_WAITING c = λ l. lost_waiting _ l _ c.requires.named (omega (arith, c.if-self-ge-MAX_WAITING.true))

pub returns : goal.returns
returns c = λ l.
    let h = took_name _ _ _ c.requires.named refl refl refl refl in
    (got_name (omega (arith, c.if-self-ge-MAX_WAITING.false)) h c.push.ensures, tt)
