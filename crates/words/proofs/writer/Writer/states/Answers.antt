use Rattle.std.proofs.Common.{◌*◌, refl, arith}
use Rattle.words.specs.Format.{state_words}
use Rattle.words.proofs.Putting.{put_both, pair_fits, put_pair}
use Rattle.words.proofs.Sizes.{state_size}
use Rattle.words.proofs.writer.Writer.states.Goals as goal

pub weight-requires : goal.weight-requires
weight-requires g c =
    let s = g.W.Written.writing in
    let fits = pair_fits (state_words s) _ _ _ c.next.new.self c.loop-first.invariant (cc) (cc) c.loop-first.yielded_by c.in-Some.is c.next.ensures.steps (2 * s.width) (state_size s (g.met.W.Written.words.count c.args.self.now.narrow)) c.requires.room in
    omega (arith, fits)

pub weight-requires-in-loop-first : goal.weight-requires-in-loop-first
weight-requires-in-loop-first g c =
    let s = g.W.Written.writing in
    let count = g.met.W.Written.words.count c.args.self.now.narrow in
    let fits = pair_fits (state_words s) _ _ _ c.next.new.self c.loop-first.invariant (cc) (cc) c.loop-first.yielded_by c.in-Some.is c.next.ensures.steps (2 * s.width) (state_size s count) c.requires.room in
    omega (arith, fits, c.weight.ensures.on, c.weight.ensures.long, count)

pub loop-first-preserved : goal.loop-first-preserved
loop-first-preserved g c =
    put_pair (state_words g.W.Written.writing) _ _ _ c.next.new.self c.loop-first.invariant (cc) (cc) c.loop-first.yielded_by c.in-Some.is c.next.ensures.steps _ refl (put_both c.weight.ensures c.weight-in-loop-first.ensures)
