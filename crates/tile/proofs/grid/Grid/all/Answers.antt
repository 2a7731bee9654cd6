use Rattle.std.proofs.Common.{◌≡◌, ◌*◌, length, ◌∙◌, ap₂, arith, rules}
use Rattle.tile.specs.Grids.{row_of}
use Rattle.tile.proofs.Squares.{part_room, part_long, part_written}
use Rattle.tile.proofs.Tops.{bands_all}
use Rattle.tile.proofs.grid.Grid.all.Goals as goal

pub loop-y-preserved : goal.loop-y-preserved
loop-y-preserved g c =
    let size = c.side.result * c.side-2.result in
    let room = part_room c.loop-y.y _ _ c.side-count.result size _ c.side-count.ensures (ap₂ ◌*◌ c.side.ensures c.side-2.ensures) (c.loop-y.invariant.0 ∙ c.requires.cells) c.loop-y-test.true in
    let long : length c.band.new.cells ≡ size = search rules in (
      part_long c.loop-y.y size c.loop-y.cells _ room long ∙ c.loop-y.invariant.0,
      search rules,
      part_written _ c.loop-y.y size c.loop-y.cells _ room long c.loop-y.invariant.2 c.band.ensures,
    )

pub returns : goal.returns
returns g c =
    let s = c.args.self.now in
    bands_all (row_of s) s.coarse s.fine c.loop-y.y c.side-count.result _ c.loop-y.cells
    (omega arith) c.side-count.ensures (ap₂ ◌*◌ c.side.ensures c.side-2.ensures) (c.loop-y.invariant.0 ∙ c.requires.cells) c.loop-y.invariant.2
