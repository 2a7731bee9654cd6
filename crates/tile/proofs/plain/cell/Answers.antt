use Rattle.std.proofs.Common.{◌≡◌, length, ap, ◌∙◌, rules}
use Rattle.std.specs.List.{range_with_len}
use Rattle.picture.specs.Lent.{lent}
use Rattle.picture.specs.Steps.{at_state, carried}
use Rattle.weight.specs.Sums.{total}
use Rattle.picture.proofs.Storing.{lent_sound}
use Rattle.tile.proofs.Alongs.{cell_is}
use Rattle.tile.proofs.plain.cell.Goals as goal

pub travel-requires : goal.travel-requires
travel-requires g c =
    let long : length c.copy_from_slice.new.self ≡ (lent c.args.body).states = ap length c.copy_from_slice.ensures.after ∙ c.first.ensures.count in
    record { row = long; next = search rules }

pub meet-requires : goal.meet-requires
meet-requires g c = let sound = lent_sound c.args.body in search rules

pub returns : goal.returns
returns g c =
    let k = g.W.Weight.kind in
    let b = lent c.args.body in
    let sound = lent_sound c.args.body in
    let first = c.copy_from_slice.ensures.after ∙ c.first.ensures.first in
    cell_is g.met.W.Weight.laws b sound c.args.address.now _ _
    (c.travel.ensures ∙ ap (λ row. carried k b.arcs (length row) c.args.address.now row) first ∙ ap (λ n. carried k b.arcs n c.args.address.now b.first) sound.firsts)
    (c.meet.ensures ∙ ap (λ last. total k (range_with_len 0 (length c.travel.new.row)) (λ q. k.times (at_state k c.travel.new.row q) (at_state k last q))) c.last.ensures.last)
