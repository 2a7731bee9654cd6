use Rattle.std.proofs.Common.{◌-◌, ◌∷◌, suc, length, sym, arith}
use Rattle.std.proofs.lemmas.Result.{err_from_is_err_and}
use Rattle.words.specs.Format.{state_words}
use Rattle.words.specs.Wrong.{a_weight, state_pieces}
use Rattle.words.proofs.Stopping.{states_split, states_due, passed_both, passed_as, passed_weight, stop, stop_weight}
use Rattle.words.proofs.Taking.{took_both, took_pair}
use Rattle.words.proofs.reader.Reader.states.Goals as goal

pub returns-in_err-first : goal.returns-in_err-first
returns-in_err-first g c =
    let n = length c.args.firsts.now in
    let due = state_pieces (n - suc c.loop-q.q) in
    let p = err_from_is_err_and c.from_residual.result c.from_residual.ensures.1 in
    rw (p.1, p.2) (stop g.W.Written.writing n (a_weight ∷ a_weight ∷ due) _ _ (states_due c.loop-q.q n (omega arith)) c.loop-q.invariant.passed (stop_weight g.W.Written.writing n (a_weight ∷ due) _ _ _ c.in_err-first.ensures))

pub returns-in_err-lasts : goal.returns-in_err-lasts
returns-in_err-lasts g c =
    let s = g.W.Written.writing in
    let n = length c.args.firsts.now in
    let due = state_pieces (n - suc c.loop-q.q) in
    let first = passed_weight s n c.in_ok-first.field-0 (g.met.W.Written.words.count c.args.self.now.narrow c.in_ok-first.field-0) c.in_ok-first.ensures in
    let p = err_from_is_err_and c.from_residual-in_err-lasts.result c.from_residual-in_err-lasts.ensures.1 in
    rw (p.1, p.2) (stop s n (a_weight ∷ a_weight ∷ due) _ _ (states_due c.loop-q.q n (omega arith)) c.loop-q.invariant.passed (first.first (a_weight ∷ due) _ (stop_weight s n due _ _ _ c.in_err-lasts.ensures)))

pub loop-q-preserved : goal.loop-q-preserved
loop-q-preserved g c =
    let s = g.W.Written.writing in
    let n = length c.args.firsts.now in
    let count = g.met.W.Written.words.count c.args.self.now.narrow in
    let first = c.in_ok-first.field-0 in
    let last = c.in_ok-lasts.field-0 in
    record {
      took = took_pair (state_words s) c.loop-q.q c.loop-q.firsts c.loop-q.lasts first last (omega arith) (omega arith) c.loop-q.invariant.took (took_both c.in_ok-first.ensures c.in_ok-lasts.ensures);
      passed = passed_as s n (sym (states_split c.loop-q.q 1))
          (passed_both s n c.loop-q.invariant.passed (passed_both s n (passed_weight s n first (count first) c.in_ok-first.ensures) (passed_weight s n last (count last) c.in_ok-lasts.ensures)));
    }
