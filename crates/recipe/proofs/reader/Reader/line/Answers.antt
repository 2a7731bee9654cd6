use Rattle.std.proofs.Common.{◌<◌, length, sym, refl, arith, length-drop}
use Rattle.recipe.specs.Devices.Reading.{left}
use Rattle.recipe.proofs.Moves.{took_both, room_more}
use Rattle.recipe.proofs.Refusals.{took_name}
use Rattle.recipe.proofs.Parts.{passed}
use Rattle.recipe.proofs.Lines.{lost_target, lost_equals, lost_row, got_row}
use Rattle.recipe.proofs.reader.Reader.line.Goals as goal

pub returns-in_default : goal.returns-in_default
returns-in_default c =
    let h : 0 < length (left c.args.self.now) = simp length-drop (omega arith) in
    lost_target _ h (sym c.in_default.ensures)

pub returns-in_err-expect : goal.returns-in_err-expect
returns-in_err-expect c =
    let x = c.in_err-expect.ensures in
    passed _ _ c.from_residual.ensures.1 (lost_equals _ _ (sym c.in-Some.ensures) x.1 x.0)

pub returns-in_err-closed : goal.returns-in_err-closed
returns-in_err-closed c =
    let h = took_name _ _ _ (sym c.in-Some.ensures) refl refl refl refl in
    passed _ _ c.from_residual-in_err-closed.ensures.1 (lost_row _ (took_both h c.in_ok-expect.ensures) c.in_err-closed.ensures)

pub push-requires-clause-room : goal.push-requires-clause-room
push-requires-clause-room c =
    let t = c.in_ok-expect.ensures in
    room_more (omega (arith, t.did.count, t.did.on)) c.in_ok-closed.ensures.0

pub returns : goal.returns
returns c =
    let h = took_name _ _ _ (sym c.in-Some.ensures) refl refl refl refl in
    (got_row _ (took_both h c.in_ok-expect.ensures) c.in_ok-closed.ensures.0 c.push.ensures, tt)
