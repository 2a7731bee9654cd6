use Rattle.std.proofs.Common.{◌+◌, ◌∷◌, ap, arith}
use Rattle.words.specs.Format.{edge_words}
use Rattle.words.proofs.Putting.{put_both, pair_fits, put_pair}
use Rattle.words.proofs.Sizes.{edge_size}
use Rattle.words.proofs.writer.Writer.arcs.Goals as goal

pub word-requires : goal.word-requires
word-requires g c =
    let s = g.W.Written.writing in
    let fits = pair_fits (edge_words s) _ _ _ c.next.new.self c.loop-arc.invariant (cc) (cc) c.loop-arc.yielded_by c.in-Some.is c.next.ensures.steps (1 + s.width) (edge_size s (g.met.W.Written.words.count c.args.self.now.narrow)) c.requires.room in
    omega (arith, fits)

pub weight-requires : goal.weight-requires
weight-requires g c =
    let s = g.W.Written.writing in
    let fits = pair_fits (edge_words s) _ _ _ c.next.new.self c.loop-arc.invariant (cc) (cc) c.loop-arc.yielded_by c.in-Some.is c.next.ensures.steps (1 + s.width) (edge_size s (g.met.W.Written.words.count c.args.self.now.narrow)) c.requires.room in
    omega (arith, fits, c.word.ensures.on, c.word.ensures.long)

pub loop-arc-preserved : goal.loop-arc-preserved
loop-arc-preserved g c =
    put_pair (edge_words g.W.Written.writing) _ _ _ c.next.new.self c.loop-arc.invariant (cc) (cc) c.loop-arc.yielded_by c.in-Some.is c.next.ensures.steps _ (ap (λ w. w ∷ g.W.Written.writing.words c.in-Some.weight.now) c.arc_word.ensures) (put_both c.word.ensures c.weight.ensures)
