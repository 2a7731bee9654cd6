use Rattle.std.proofs.Common.{◌∷◌, ◌∙◌, ap₂, arith, length-set}
use Rattle.piece.proofs.NewState.{after_first}
use Rattle.piece.proofs.rows.write_lasts.Goals as goal

pub returns : goal.returns
returns g c =
    after_first _ c.args.out.now c.join_lasts.new.out c.whole_value.result (omega (arith, length-set c.args.out.now 0 c.whole_value.result, c.requires))
    ∙ ap₂ ◌∷◌ c.whole_value.ensures c.join_lasts.ensures
