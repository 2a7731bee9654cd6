use Rattle.std.proofs.Common.{◌^◌, ◌++◌, map, drop, ap, ◌∙◌, ap₂, arith}
use Rattle.picture.specs.Cells.{base_four, row_of_cells}
use Rattle.picture.specs.Pictures.{picture}
use Rattle.tile.specs.Automata.{body}
use Rattle.tile.proofs.Lines.{row_below}
use Rattle.tile.proofs.printing.print_row.Goals as goal

pub returns : goal.returns
returns g c =
    let k = g.W.Weight.kind in
    let square = c.in_ok-square.square in
    let u = base_four c.args.tile.digits c.args.tile.prefix in
    let named = c.in_ok-square.ensures in
    let made = c.new.ensures in
    let counted = c.side-wide.ensures ∙ ap (λ d. 2 ^ d) named.3 in
    record {
      printable = named.0;
      within = omega (arith, counted);
      counted = counted;
      fits = omega arith;
      cells =
          ap₂ ◌++◌
          (c.row.ensures
          ∙ row_below c.new.result _ square.depth made.depth made.value c.args.y
          ∙ ap (λ u. map (picture k (body c.new.result.body.now)) (row_of_cells u square.depth c.args.y)) (ap₂ base_four named.2 named.1)
          ∙ ap₂ (λ b d. map (picture k b) (row_of_cells u d c.args.y)) (ap body made.body ∙ c.new-body.ensures) named.3)
          (ap (λ n. drop n c.args.cells.now) (omega arith));
    }
