use Rattle.std.proofs.Common.{take}
use Rattle.words.specs.Inner.{Put}
use Rattle.words.proofs.writer.Writer.weight.Given as goal

abbrev pub invariant-loop-i : goal.invariant-loop-i
invariant-loop-i g l = Put (take l.i (g.W.Written.writing.words l.value)) l.initial.self l.self
