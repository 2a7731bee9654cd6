use Rattle.book.proofs.Printing.{answers_lines}
use Rattle.book.proofs.Singling.{one_outcome}
use Rattle.book.proofs.theorems.one_outcome.Goals as goal

pub returns : goal.returns
returns g c =
    let k = g.W.Weight.kind in
    let v = g.W.Written.writing in
    record { one = one_outcome k v g.met.W.Written.words; lines = answers_lines k v g.met.W.Weight.laws }
