use Rattle.std.proofs.Common.{Err, sym, refl, ap, ◌∙◌, subst}
use Rattle.std.proofs.lemmas.Result.{err_from_is_err_and}
use Rattle.picture.specs.Stored.{stored}
use Rattle.words.specs.Format.{SpellsBody}
use Rattle.words.proofs.Unique.{no_body, one_body, one_fault}
use Rattle.words.proofs.reading.read.Goals as goal

pub returns-in_err-place : goal.returns-in_err-place
returns-in_err-place g c =
    let s = g.W.Written.writing in
    let laws = g.met.W.Written.words in
    let given = c.args.given.now in
    let p = err_from_is_err_and c.from_residual.result c.from_residual.ensures.1 in
    let refused = c.in_err-place.ensures in
    record {
      outcome = rw (p.1, p.2) (refused, refl);
      accepts = λ b h. absurd (no_body s laws given _ refused b h);
      refuses = λ f h. p.1 ∙ ap Err (p.2 ∙ one_fault s laws given _ f refused h);
    }

pub returns : goal.returns
returns g c =
    let s = g.W.Written.writing in
    let laws = g.met.W.Written.words in
    let given = c.args.given.now in
    let place = c.in_ok-place.place in
    let ok = c.in_ok-place.ensures in
    let held : SpellsBody s (stored place c.copy_from_slice.new.self) given = subst (λ mem. SpellsBody s (stored place mem) given) (sym c.copy_from_slice.ensures.after) ok.1 in
    record {
      outcome = (ok.0, held);
      accepts = λ b h. (place, refl, one_body s laws (stored place c.copy_from_slice.new.self) b given held h);
      refuses = λ f h. absurd (no_body s laws given f h (stored place c.copy_from_slice.new.self) held);
    }
