use Rattle.std.proofs.Common.{◌+◌, ◌^◌, ◌++◌, map, drop, refl, sym, ap, ◌∙◌, ap₂, arith}
use Rattle.std.proofs.lemmas.List.{length-take-le}
use Rattle.picture.specs.Cells.{base_four, cells_below}
use Rattle.picture.specs.Pictures.{picture}
use Rattle.tile.specs.Automata.{body}
use Rattle.tile.proofs.Lines.{tile_below}
use Rattle.tile.proofs.Squares.{square_is, bands_fill}
use Rattle.tile.proofs.printing.print.Goals as goal

pub all-requires-clause-cells : goal.all-requires-clause-cells
all-requires-clause-cells g c =
    let s = c.new.result in
    let long = ap (λ d. 4 ^ d) (sym c.new.ensures.depth) ∙ square_is (s.coarse + s.fine) ∙ bands_fill s.coarse s.fine (s.coarse + s.fine) refl in
    length-take-le _ c.args.cells.now (omega arith) ∙ omega (arith, c.power-count.ensures, long)

pub returns : goal.returns
returns g c =
    let k = g.W.Weight.kind in
    let square = c.in_ok-square.square in
    let u = base_four c.args.tile.digits c.args.tile.prefix in
    let named = c.in_ok-square.ensures in
    let made = c.new.ensures in
    record {
      printable = named.0;
      counted = c.power-count.ensures ∙ ap (λ d. 4 ^ d) named.3;
      fits = omega arith;
      cells =
          ap₂ ◌++◌
          (tile_below c.new.result _ square.depth made.depth made.value _ c.all.ensures
          ∙ ap (λ u. map (picture k (body c.new.result.body.now)) (cells_below u square.depth)) (ap₂ base_four named.2 named.1)
          ∙ ap₂ (λ b d. map (picture k b) (cells_below u d)) (ap body made.body ∙ c.new-body.ensures) named.3)
          (ap (λ n. drop n c.args.cells.now) (omega arith));
    }
