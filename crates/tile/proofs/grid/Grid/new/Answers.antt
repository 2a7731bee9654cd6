use Rattle.std.proofs.Common.{◌*◌, ap, arith}
use Rattle.tile.proofs.Squares.{columns_small}
use Rattle.tile.proofs.grid.Grid.new.Goals as goal

pub overflow_mul-columns : goal.overflow_mul-columns
overflow_mul-columns g c =
    let n = c.args.body.now.arcs.states in
    omega (arith, columns_small c.min-fine.result n (omega arith) c.args.body.now.arcs.few, ap (λ m. m * n) c.power.ensures)

pub slice_bounds-columns-end : goal.slice_bounds-columns-end
slice_bounds-columns-end g c =
    let n = c.args.body.now.arcs.states in
    omega (arith, columns_small c.min-fine.result n (omega arith) c.args.body.now.arcs.few, ap (λ m. m * n) c.power.ensures)
