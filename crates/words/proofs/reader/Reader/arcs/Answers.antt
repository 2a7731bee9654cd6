use Rattle.std.proofs.Common.{◌-◌, ◌∷◌, suc, length, sym, subst, arith}
use Rattle.std.specs.List.{AllByRecursion}
use Rattle.std.proofs.ByRecursion.{All-push}
use Rattle.std.proofs.lemmas.List.{take_more_set}
use Rattle.std.proofs.lemmas.Result.{err_from_is_err_and}
use Rattle.picture.specs.Bodies.{Within}
use Rattle.words.specs.Format.{edge_words}
use Rattle.words.specs.Wrong.{a_weight, an_arc, arc_pieces}
use Rattle.words.proofs.Stopping.{arcs_split, arcs_due, passed_both, passed_as, passed_arc, passed_weight, stop, stop_arc, stop_weight}
use Rattle.words.proofs.Taking.{took_both, took_pair}
use Rattle.words.proofs.reader.Reader.arcs.Goals as goal

pub returns-in_err-arc : goal.returns-in_err-arc
returns-in_err-arc g c =
    let m = length c.args.weights.now in
    let due = a_weight ∷ arc_pieces (m - suc c.loop-k.k) in
    let p = err_from_is_err_and c.from_residual.result c.from_residual.ensures.1 in
    rw (p.1, p.2) (stop g.W.Written.writing c.args.n (an_arc ∷ due) _ _ (arcs_due c.loop-k.k m (omega arith)) c.loop-k.invariant.passed (stop_arc g.W.Written.writing c.args.n due _ _ _ c.in_err-arc.ensures))

pub returns-in_err-weights : goal.returns-in_err-weights
returns-in_err-weights g c =
    let s = g.W.Written.writing in
    let n = c.args.n in
    let m = length c.args.weights.now in
    let due = arc_pieces (m - suc c.loop-k.k) in
    let arc = passed_arc s n c.in_ok-arc.field-0 c.in_ok-arc.ensures in
    let p = err_from_is_err_and c.from_residual-in_err-weights.result c.from_residual-in_err-weights.ensures.1 in
    rw (p.1, p.2) (stop s n (an_arc ∷ a_weight ∷ due) _ _ (arcs_due c.loop-k.k m (omega arith)) c.loop-k.invariant.passed (arc.first (a_weight ∷ due) _ (stop_weight s n due _ _ _ c.in_err-weights.ensures)))

pub loop-k-preserved : goal.loop-k-preserved
loop-k-preserved g c =
    let s = g.W.Written.writing in
    let n = c.args.n in
    let arc = c.in_ok-arc.field-0 in
    let weight = c.in_ok-weights.field-0 in
    record {
      ends = subst (AllByRecursion (Within n)) (sym (take_more_set c.loop-k.arcs c.loop-k.k arc (omega arith))) (All-push (Within n) _ arc c.loop-k.invariant.ends c.in_ok-arc.ensures.0);
      took = took_pair (edge_words s) c.loop-k.k c.loop-k.arcs c.loop-k.weights arc weight (omega arith) (omega arith) c.loop-k.invariant.took (took_both c.in_ok-arc.ensures.1 c.in_ok-weights.ensures);
      passed = passed_as s n (sym (arcs_split c.loop-k.k 1))
          (passed_both s n c.loop-k.invariant.passed (passed_both s n (passed_arc s n arc c.in_ok-arc.ensures) (passed_weight s n weight (g.met.W.Written.words.count c.args.self.now.narrow weight) c.in_ok-weights.ensures)));
    }
