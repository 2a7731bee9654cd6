use Rattle.std.proofs.Common.{rules}
use Rattle.piece.proofs.NewState.{filled_same, first_of}
use Rattle.piece.proofs.rows.write_firsts.Goals as goal

pub returns : goal.returns
returns g c =
    let k = g.W.Weight.kind in
    let same = filled_same _ (λ p. p.0.now) (λ p x q h. (search rules, search rules)) _ _ _ c.fill_with.ensures.ran.1 in
    first_of c.one.result k.one c.zero-zero.result k.zero _ c.fill_with.new.self same c.fill_with.ensures.len c.requires c.one.ensures c.zero-zero.ensures
