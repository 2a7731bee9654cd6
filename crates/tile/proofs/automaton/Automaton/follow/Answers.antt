use Rattle.std.proofs.Common.{length, ◌≡◌, ◌-◌, ◌/◌, ◌%◌, ap, ap₂, ◌∙◌, arith}
use Rattle.index.specs.Terms.{edges}
use Rattle.picture.specs.Quadrants.{named}
use Rattle.picture.specs.Steps.{stepped}
use Rattle.tile.specs.Automata.{body}
use Rattle.tile.proofs.Sounds.{sound}
use Rattle.tile.proofs.Squares.{four_pos}
use Rattle.tile.proofs.Tops.{follow_more}
use Rattle.tile.proofs.automaton.Automaton.follow.Goals as goal

pub nonzero_div-square : goal.nonzero_div-square
nonzero_div-square g c = omega (arith, c.power.ensures, four_pos (c.loop-left.left - 1))

pub loop-left-preserved : goal.loop-left-preserved
loop-left-preserved g c =
    let a = c.args.self.now in
    let k = g.W.Weight.kind in
    let long : length c.loop-left.next ≡ a.arcs.states = omega arith in
    follow_more g.met.W.Weight.laws (body a) (sound a) c.loop-left.row _ c.loop-left.left c.args.square.prefix _ (omega arith)
    (c.copy_from_slice.ensures.after ∙ c.step_row.ensures
    ∙ ap₂ (λ n d. stepped k (edges a.arcs) n c.loop-left.row d) long (c.named-digit.ensures ∙ ap (λ m. named (c.args.square.prefix / m % 4)) c.power.ensures))
    c.loop-left.invariant
