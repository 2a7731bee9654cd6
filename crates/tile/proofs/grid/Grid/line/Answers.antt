use Rattle.std.proofs.Common.{◌≡◌, length, get_or, set, sym, ap, ◌∙◌, ap₂, arith}
use Rattle.std.proofs.lemmas.List.Edits.{fill_by_more}
use Rattle.std.proofs.lemmas.List.FromFn.{fill_by_all}
use Rattle.tile.specs.Bands.{slot, meeting}
use Rattle.tile.proofs.Grids.{row_fits, column_fits}
use Rattle.tile.proofs.Joins.{length_slot}
use Rattle.tile.proofs.Lines.{rows_long, columns_long, line_of}
use Rattle.tile.proofs.grid.Grid.line.Goals as goal

pub slot-row-requires : goal.slot-row-requires
slot-row-requires g c =
    let s = c.args.self.now in
    omega (arith, row_fits s.coarse s.fine c.loop-x.x s.body.now.arcs.states _ (omega (arith, c.loop-x-test.true)) (rows_long s _ c.args.rows.now c.requires.rows))

pub slot-column-requires : goal.slot-column-requires
slot-column-requires g c =
    let s = c.args.self.now in
    column_fits s.fine c.loop-x.x c.args.y _ s.body.now.arcs.states _ c.interleave.ensures (columns_long s)

pub meet-requires : goal.meet-requires
meet-requires g c =
    let s = c.args.self.now in
    let n = s.body.now.arcs.states in
    let fits = row_fits s.coarse s.fine c.loop-x.x n _ (omega (arith, c.loop-x-test.true)) (rows_long s _ c.args.rows.now c.requires.rows) in
    ap length c.slot-row.ensures ∙ length_slot n _ c.args.rows.now (omega (arith, fits))
    ∙ sym (ap length c.slot-column.ensures ∙ length_slot n _ s.columns.now (column_fits s.fine c.loop-x.x c.args.y _ n _ c.interleave.ensures (columns_long s)))

pub loop-x-preserved : goal.loop-x-preserved
loop-x-preserved g c =
    let k = g.W.Weight.kind in
    let s = c.args.self.now in
    let n = s.body.now.arcs.states in
    let row = c.slot-row.result.now in
    let column = c.slot-column.result.now in
    let fits = row_fits s.coarse s.fine c.loop-x.x n _ (omega (arith, c.loop-x-test.true)) (rows_long s _ c.args.rows.now c.requires.rows) in
    let long : length row ≡ n = ap length c.slot-row.ensures ∙ length_slot n _ c.args.rows.now (omega (arith, fits)) in
    let put =
    c.meet.ensures ∙ ap (λ n. meeting k n row column) long
    ∙ ap₂ (meeting k n) c.slot-row.ensures (c.slot-column.ensures ∙ ap (λ i. slot n i s.columns.now) c.interleave.ensures) in
    λ i h. ap (λ v. get_or (set c.loop-x.cells c.loop-x.x v) i k.zero) put ∙ fill_by_more _ c.loop-x.cells c.loop-x.x k.zero (omega arith) c.loop-x.invariant i h

pub returns : goal.returns
returns g c =
    line_of c.args.self.now g.met.W.Weight.laws c.args.rows.now c.loop-x.cells c.args.y c.requires.rows
    (fill_by_all _ _ _ _ (c.loop-x.auto.cells ∙ c.requires.cells) (λ k h. c.loop-x.invariant k (omega (arith, c.requires.cells))))
