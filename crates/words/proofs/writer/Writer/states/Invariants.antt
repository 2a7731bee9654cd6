use Rattle.std.proofs.Common.{length}
use Rattle.words.specs.Format.{state_words}
use Rattle.words.specs.Inner.{Put}
use Rattle.words.proofs.Zipping.{so_far}
use Rattle.words.proofs.writer.Writer.states.Given as goal

abbrev pub invariant-loop-first : goal.invariant-loop-first
invariant-loop-first g l = Put (so_far (state_words g.W.Written.writing) (length l.yielded) l.firsts l.lasts) l.initial.self l.self
