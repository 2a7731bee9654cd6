use Rattle.std.proofs.Common.{length}
use Rattle.words.specs.Format.{state_words}
use Rattle.words.specs.Inner.{Took, Passed}
use Rattle.words.specs.Wrong.{state_pieces}
use Rattle.words.proofs.Zipping.{so_far}
use Rattle.words.proofs.reader.Reader.states.Given as goal

abbrev pub invariant-loop-q : goal.invariant-loop-q
invariant-loop-q g l =
    let s = g.W.Written.writing in
    record { took : Took (so_far (state_words s) l.q l.firsts l.lasts) l.initial.self l.self; passed : Passed s (length l.initial.firsts) (state_pieces l.q) l.initial.self l.self }
