use Rattle.std.proofs.Common.{◌≡◌, ◌+◌, ◌*◌, ◌/◌, ◌^◌, length, take, sym, ap, ◌∙◌, ap₂, arith}
use lib.Arith.{digits_div}
use Rattle.std.specs.List.{range_with_len, flat_map}
use Rattle.std.proofs.lemmas.List.FromFn.{length-map-range_with_len}
use Rattle.tile.specs.Grids.{depth_of, rows_of, row_of}
use Rattle.tile.proofs.Squares.{part_room, part_long, part_written, all_written}
use Rattle.tile.proofs.grid.Grid.band.Goals as goal

pub line-requires-clause-rows : goal.line-requires-clause-rows
line-requires-clause-rows g c =
    let s = c.args.self.now in
    c.rows-rows.ensures ∙ ap (rows_of s) (sym (ap (λ m. (c.args.y * c.side-high.result + c.loop-i.i) / m) (sym c.side-high.ensures) ∙ digits_div c.args.y c.loop-i-test.true))

pub loop-i-preserved : goal.loop-i-preserved
loop-i-preserved g c =
    let s = c.args.self.now in
    let room = part_room c.loop-i.i _ _ c.side-high.result c.side-wide.result _ c.side-high.ensures c.side-wide.ensures (c.loop-i.invariant.0 ∙ c.requires.cells) c.loop-i-test.true in
    let long = ap length c.line.ensures ∙ length-map-range_with_len _ 0 (2 ^ depth_of s) ∙ sym c.side-wide.ensures in (
      part_long c.loop-i.i c.side-wide.result c.loop-i.cells _ room long ∙ c.loop-i.invariant.0,
      part_written (λ i. row_of s (c.args.y * c.side-high.result + i)) c.loop-i.i c.side-wide.result c.loop-i.cells _ room long c.loop-i.invariant.1 c.line.ensures,
    )

pub returns : goal.returns
returns g c =
    let s = c.args.self.now in
    let done : c.loop-i.i ≡ c.side-high.result = omega arith in
    all_written _ c.side-high.result c.side-wide.result _ (c.loop-i.invariant.0 ∙ c.requires.cells ∙ sym (ap₂ ◌*◌ c.side-high.ensures c.side-wide.ensures))
    (ap (λ m. take (m * c.side-wide.result) c.loop-i.cells) (sym done) ∙ c.loop-i.invariant.1
    ∙ ap (λ m. flat_map (λ i. row_of s (c.args.y * c.side-high.result + i)) (range_with_len 0 m)) done)
    ∙ ap (λ m. flat_map (λ i. row_of s (c.args.y * m + i)) (range_with_len 0 m)) c.side-high.ensures
