use Rattle.std.proofs.Common.{◌<◌, sym, refl, ◌∙◌, arith, rules, ltb-false}
use Rattle.std.proofs.lemmas.Slice.{first_rest}
use Rattle.std.proofs.lemmas.Result.{err_from_is_err_and}
use Rattle.words.proofs.Parsed.{refused_head, refused_count, refused_piece, parsed}
use Rattle.words.proofs.reading.parse.Goals as goal

pub returns-in_err-counts : goal.returns-in_err-counts
returns-in_err-counts g c =
    let p = err_from_is_err_and c.from_residual.result c.from_residual.ensures.1 in
    rw (p.1, p.2) (refused_head g.W.Written.writing (omega arith) c.args.given.now _ _ (first_rest c.args.given.now 0 (omega (arith, ltb-false))) _ c.in_err-counts.ensures)

pub returns-then-rest-size : goal.returns-then-rest-size
returns-then-rest-size g c =
    refused_count g.W.Written.writing (omega arith) c.args.given.now _ _ (first_rest c.args.given.now 0 (omega (arith, ltb-false))) c.in_ok-counts.counts c.in_ok-counts.ensures (λ e. c.if-rest-size.true (e ∙ sym c.size.ensures))

pub returns-in_err-body : goal.returns-in_err-body
returns-in_err-body g c =
    let p = err_from_is_err_and c.from_residual-in_err-body.result c.from_residual-in_err-body.ensures.1 in
    rw (p.1, p.2) (refused_piece g.W.Written.writing (omega arith) c.args.given.now _ _ (first_rest c.args.given.now 0 (omega (arith, ltb-false))) c.in_ok-counts.counts c.in_ok-counts.ensures
    (c.if-rest-size.false ∙ c.size.ensures) _ c.in_err-body.ensures)

pub returns : goal.returns
returns g c =
    let narrow : g.W.Written.writing.width < 9 = omega arith in
    parsed g.W.Written.writing narrow c.args.given.now _ _ (first_rest c.args.given.now 0 (omega (arith, ltb-false))) c.in_ok-counts.counts c.in_ok-counts.ensures
    (c.if-rest-size.false ∙ c.size.ensures) (g.met.W.Written.words.count narrow) _ _ refl (search rules) (c.body.auto.weights ∙ c.requires) c.in_ok-body.ensures
