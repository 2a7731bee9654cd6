use Rattle.std.proofs.Common.{◌+◌, ◌*◌, sym, refl, ap, ◌∙◌, ap₂, arith, rules}
use Rattle.std.specs.List.{zip, flat_map}
use Rattle.picture.proofs.Storing.{lent_count}
use Rattle.picture.specs.Lent.{lent}
use Rattle.words.specs.Format.{head_word, state_words, edge_words}
use Rattle.words.proofs.Putting.{put_words}
use Rattle.words.proofs.Sizes.{size_states}
use Rattle.words.proofs.Storing.{lent_limited, lent_size}
use Rattle.words.proofs.writing.write.Goals as goal

pub returns-then-width-ge-TOO_WIDE-clause-limited : goal.returns-then-width-ge-TOO_WIDE-clause-limited
returns-then-width-ge-TOO_WIDE-clause-limited g c = lent_limited c.args.body

pub returns-then-out-end-clause-outcome : goal.returns-then-out-end-clause-outcome
returns-then-out-end-clause-outcome g c =
    let long = lent_size c.args.body c.arcs-arcs.result.now c.arcs-arcs.ensures.arcs c.arcs-arcs.ensures.count g.W.Written.writing (g.met.W.Written.words.count (omega arith)) in
    ((omega arith, omega (arith, long, c.size-end.ensures)), refl)

pub returns-then-out-end-clause-limited : goal.returns-then-out-end-clause-limited
returns-then-out-end-clause-limited g c = lent_limited c.args.body

pub states-requires-clause-both : goal.states-requires-clause-both
states-requires-clause-both g c =
    c.last.ensures.count ∙ sym c.first.ensures.count

pub arcs-requires-clause-room : goal.arcs-requires-clause-room
arcs-requires-clause-room g c =
    let s = g.W.Written.writing in
    let states = size_states s (g.met.W.Written.words.count (omega arith)) (lent c.args.body) (lent_limited c.args.body) c.first.result.now c.last.result.now c.first.ensures.first c.last.ensures.last in
    omega (arith, states, c.states.ensures.on, c.states.ensures.long, c.word.ensures.on, c.word.ensures.long, c.size-end.ensures, ap (λ m. m * (1 + s.width)) c.arcs-arcs.ensures.count)

pub returns-clause-outcome : goal.returns-clause-outcome
returns-clause-outcome g c =
    let s = g.W.Written.writing in
    let long = lent_size c.args.body c.arcs-arcs.result.now c.arcs-arcs.ensures.arcs c.arcs-arcs.ensures.count s (g.met.W.Written.words.count (omega arith)) in
    let end = ap (λ n. 1 + n) c.size-end.ensures ∙ sym long in
    let head = c.head.ensures ∙ ap (head_word s c.args.body.record.now.states) (sym (lent_count c.args.body c.arcs-arcs.result.now c.arcs-arcs.ensures.arcs c.arcs-arcs.ensures.count ∙ c.arcs-arcs.ensures.count)) in
    let states = ap₂ (λ xs ys. flat_map (state_words s) (zip xs ys)) c.first.ensures.first c.last.ensures.last in
    let arcs = ap (flat_map (edge_words s)) (ap (λ bs. zip bs c.arc_weights.result.now) c.arcs-arcs.ensures.arcs ∙ c.arc_weights.ensures.arcs) in
    let whole = put_words s (lent c.args.body) c.head.result _ _ _ head states arcs end refl c.word.ensures c.states.ensures c.arcs.ensures in
    let name = c.arcs.ensures.same ∙ c.states.ensures.same ∙ c.word.ensures.same in
    (omega arith, end, search (rules, whole))

pub returns-clause-limited : goal.returns-clause-limited
returns-clause-limited g c = lent_limited c.args.body
