use Rattle.book.proofs.Printing.{law_equal_scripts}
use Rattle.book.proofs.theorems.law_equal_scripts_print_alike.Goals as goal

pub returns : goal.returns
returns g c = law_equal_scripts g.W.Weight.kind g.W.Written.writing g.met.W.Weight.laws
