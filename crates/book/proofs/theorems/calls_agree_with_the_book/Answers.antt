use Rattle.book.proofs.Calling.{lists_faithful}
use Rattle.book.proofs.theorems.calls_agree_with_the_book.Goals as goal

pub returns : goal.returns
returns g c = lists_faithful g.W.Weight.kind g.met.W.Weight.laws g.W.Written.writing g.met.W.Written.words
