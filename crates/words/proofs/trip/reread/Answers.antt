use Rattle.std.proofs.Common.{◌≡◌, ◌++◌, drop, sym, ap, ◌∙◌, subst}
use Rattle.picture.specs.Lent.{lent}
use Rattle.picture.specs.Stored.{stored, Kept}
use Rattle.words.specs.Format.{words_of}
use Rattle.words.proofs.Taking.{front_written}
use Rattle.words.proofs.trip.reread.Goals as goal

pub unwrap-requires : goal.unwrap-requires
unwrap-requires g c =
    let ok = c.in_ok-count.ensures.outcome in
    let front = front_written (words_of g.W.Written.writing (lent c.args.body)) _ _ _ ok.1 ok.2 in
    let got = c.read.ensures.accepts (lent c.args.body) (record { narrow = ok.0; limited = c.in_ok-count.ensures.limited; spelled = front }) in
    rw got.1

pub returns : goal.returns
returns g c =
    let ok = c.in_ok-count.ensures.outcome in
    let words = words_of g.W.Written.writing (lent c.args.body) in
    let front = front_written words _ _ _ ok.1 ok.2 in
    let got = c.read.ensures.accepts (lent c.args.body) (record { narrow = ok.0; limited = c.in_ok-count.ensures.limited; spelled = front }) in
    let same : c.unwrap.result ≡ got.0 = cc got.1 in
    let kept = rw got.1 at c.read.ensures.outcome in
    (subst Kept (sym same) kept.0, ap (λ r. stored r c.read.new.weights) same ∙ got.2, ok.2 ∙ ap (λ k. words ++ drop k c.args.out.now) ok.1)
