use Rattle.std.proofs.Common.{◌*◌, ap, arith}
use Rattle.tile.proofs.Squares.{rows_small}
use Rattle.tile.proofs.grid.Grid.rows.Goals as goal

pub slice_bounds-rows-end : goal.slice_bounds-rows-end
slice_bounds-rows-end g c =
    let n = c.args.self.now.body.now.arcs.states in
    omega (arith, rows_small c.args.self.now.coarse n c.args.self.now.few_coarse c.args.self.now.body.now.arcs.few, ap (λ m. m * n) c.side.ensures)
