use Rattle.std.proofs.Common.{length, ap₂, ◌∙◌, ◌≡◌, ◌-◌, arith, rules}
use Rattle.index.specs.Terms.{edges}
use Rattle.picture.specs.Steps.{stepped}
use Rattle.tile.proofs.Halves.{rows_more, half_is, two_halves}
use Rattle.tile.proofs.automaton.Automaton.+carry.Goals as goal

pub carry-requires : goal.carry-requires
carry-requires g t c κs within =
    let half = half_is (length c.args.rows.now) c.args.depth c.args.self.now.arcs.states c.requires.rows (λ e. omega arith) in
    (search rules, (within, (search rules, (omega arith, (search rules, search rules)))))

pub carry-requires-2 : goal.carry-requires-2
carry-requires-2 g t c κs within =
    let half = half_is (length c.args.rows.now) c.args.depth c.args.self.now.arcs.states c.requires.rows (λ e. omega arith) in
    let two = two_halves (length c.args.rows.now) c.args.depth c.args.self.now.arcs.states c.requires.rows (λ e. omega arith) in
    (search rules, (within, (search rules, (omega arith, (search rules, search rules)))))

pub returns : goal.returns
returns g t c =
    let k = g.W.Weight.kind in
    let a = c.args.self.now.arcs in
    let left : length c.step_row.new.next ≡ a.states = search rules in
    let right : length c.step_row-2.new.next ≡ a.states = search rules in
    rows_more k (edges a) a.states c.args.row.now c.args.y c.step_row.new.next c.step_row-2.new.next _ _ c.args.depth (c.args.depth - 1)
    (omega arith) (c.step_row.ensures ∙ ap₂ (λ n d. stepped k (edges a) n c.args.row.now d) (search rules) c.named.ensures)
    (c.step_row-2.ensures ∙ ap₂ (λ n d. stepped k (edges a) n c.args.row.now d) (search rules) c.named-2.ensures) c.carry.ensures c.carry-2.ensures
