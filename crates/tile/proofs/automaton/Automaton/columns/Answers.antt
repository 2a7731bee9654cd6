use Rattle.std.proofs.Common.{◌≡◌, ap, ◌∙◌, arith}
use Rattle.index.specs.Terms.{edges}
use Rattle.tile.specs.Bands.{columns_along}
use Rattle.tile.proofs.Lifts.{lift_columns, no_digits}
use Rattle.tile.proofs.automaton.Automaton.columns.Goals as goal

pub returns-in-1 : goal.returns-in-1
returns-in-1 g c =
    let a = c.args.self.now in
    let k = g.W.Weight.kind in
    let digits : 1 ≡ c.args.digits = omega (arith, c.in-1.is) in
    lift_columns k (edges a.arcs) a.arcs.states _ 0 c.args.column.now _ (omega arith) c.requires.column (no_digits k (edges a.arcs) a.arcs.states c.args.column.now) c.lift.ensures
    ∙ ap (columns_along k (edges a.arcs) a.arcs.states c.args.column.now) digits

pub returns-in_default : goal.returns-in_default
returns-in_default g c =
    let a = c.args.self.now in
    let k = g.W.Weight.kind in
    let digits : 2 ≡ c.args.digits = omega arith in
    lift_columns k (edges a.arcs) a.arcs.states _ 1 c.args.column.now _ (omega arith) c.requires.column
    (lift_columns k (edges a.arcs) a.arcs.states _ 0 c.args.column.now _ (omega arith) c.requires.column (no_digits k (edges a.arcs) a.arcs.states c.args.column.now) c.lift-in_default.ensures)
    c.lift-in_default-2.ensures
    ∙ ap (columns_along k (edges a.arcs) a.arcs.states c.args.column.now) digits
