use Rattle.book.proofs.Wording.{entered_back, written_back}
use Rattle.book.proofs.theorems.words_come_back.Goals as goal

pub returns : goal.returns
returns g c =
    let k = g.W.Weight.kind in
    let v = g.W.Written.writing in
    record { entered = entered_back k v; written = written_back k v }
