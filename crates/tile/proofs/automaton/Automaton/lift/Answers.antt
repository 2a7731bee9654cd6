use Rattle.std.proofs.Common.{◌≡◌, ◌*◌, ◌^◌, ◌≤◌, length, ap, ◌∙◌, ap₂, lit<, arith, rules}
use Rattle.std.proofs.Math.Nat.{pow-le-pow_right}
use borrow.Author.Rules.{scaled_fits≤}
use Rattle.std.proofs.lemmas.List.FromFn.{length-map-range_with_len}
use Rattle.picture.specs.Steps.{spreads}
use Rattle.index.specs.Terms.{edges}
use Rattle.tile.proofs.Lifts.{lift_room, next_long, lift_all}
use Rattle.tile.proofs.Squares.{part_long, part_written}
use Rattle.tile.proofs.automaton.Automaton.lift.Goals as goal

pub overflow_mul-c-end : goal.overflow_mul-c-end
overflow_mul-c-end g c = let few : 4 ^ c.args.digits ≤ 4 = pow-le-pow_right (lit< tt) c.requires.few in omega (arith, c.power-count.ensures)

pub offset_bounds-longer-c : goal.offset_bounds-longer-c
offset_bounds-longer-c g c =
    let n = c.args.self.now.arcs.states in
    let room = lift_room c.loop-c.c c.args.digits c.power-count.result n _ c.power-count.ensures c.loop-c-test.true c.requires.longer in
    scaled_fits≤ (c.loop-c.c * n) (length c.args.longer.now) _ (omega arith) (search rules)

pub loop-c-preserved : goal.loop-c-preserved
loop-c-preserved g c =
    let a = c.args.self.now.arcs in
    let k = g.W.Weight.kind in
    let room = lift_room c.loop-c.c c.args.digits c.power-count.result a.states _ c.power-count.ensures c.loop-c-test.true (c.loop-c.invariant.0 ∙ c.requires.longer) in
    let same = next_long c.loop-c.c c.args.digits _ a.states c.loop-c.longer c.power-count.ensures c.loop-c-test.true (c.loop-c.invariant.0 ∙ c.requires.longer) in
    let next = c.step_column.ensures ∙ ap (λ n. spreads k (edges a) n c.slot-column.result.now c.named-digit.result) same in
    let long = ap length next ∙ length-map-range_with_len _ 0 a.states in (
      part_long c.loop-c.c a.states c.loop-c.longer _ room long ∙ c.loop-c.invariant.0,
      part_written _ c.loop-c.c a.states c.loop-c.longer _ room long c.loop-c.invariant.1
          (next ∙ ap₂ (spreads k (edges a) a.states) c.slot-column.ensures c.named-digit.ensures),
    )

pub returns : goal.returns
returns g c =
    let a = c.args.self.now in
    let k = g.W.Weight.kind in
    let done : c.loop-c.c ≡ 4 * c.power-count.result = omega arith in
    lift_all k (edges a.arcs) a.arcs.states c.args.columns.now c.args.digits _ _ _ c.power-count.ensures done (c.loop-c.invariant.0 ∙ c.requires.longer) c.loop-c.invariant.1
