use Rattle.std.proofs.Common.{length}
use Rattle.words.specs.Format.{edge_words}
use Rattle.words.specs.Inner.{Put}
use Rattle.words.proofs.Zipping.{so_far}
use Rattle.words.proofs.writer.Writer.arcs.Given as goal

abbrev pub invariant-loop-arc : goal.invariant-loop-arc
invariant-loop-arc g l = Put (so_far (edge_words g.W.Written.writing) (length l.yielded) l.arcs l.weights) l.initial.self l.self
