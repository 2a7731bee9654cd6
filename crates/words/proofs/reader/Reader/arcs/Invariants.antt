use Rattle.std.proofs.Common.{take}
use Rattle.std.specs.List.{AllByRecursion}
use Rattle.picture.specs.Bodies.{Within}
use Rattle.words.specs.Format.{edge_words}
use Rattle.words.specs.Inner.{Took, Passed}
use Rattle.words.specs.Wrong.{arc_pieces}
use Rattle.words.proofs.Zipping.{so_far}
use Rattle.words.proofs.reader.Reader.arcs.Given as goal

abbrev pub invariant-loop-k : goal.invariant-loop-k
invariant-loop-k g l =
    let s = g.W.Written.writing in
    record {
      ends : AllByRecursion (Within l.n) (take l.k l.arcs);
      took : Took (so_far (edge_words s) l.k l.arcs l.weights) l.initial.self l.self;
      passed : Passed s l.n (arc_pieces l.k) l.initial.self l.self;
    }
