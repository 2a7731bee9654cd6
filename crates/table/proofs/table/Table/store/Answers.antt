use Rattle.std.proofs.Common.{◌≡◌, ◌*◌, ap, ◌∙◌, arith, rules}
use Rattle.recipe.specs.Evaluations.{put}
use Rattle.recipe.specs.Places.{number}
use Rattle.recipe.proofs.Numbers.{number_below}
use Rattle.table.specs.Tables.{body_of}
use Rattle.table.proofs.Bodies.{bodies_put}
use Rattle.table.proofs.Keeping.{put_kept}
use Rattle.table.proofs.table.Table.store.Goals as goal

pub returns-clause-places : goal.returns-clause-places
returns-clause-places g c =
    let t = c.args.self.now in
    let p = c.args.place in
    let bays = c.args.bays.now in
    let a = 640 * c.from-at.result in
    let from : a ≡ 640 * number p = ap (λ n. 640 * n) c.from-at.ensures in
    let low = number_below p in
    bodies_put t c.put.new.self p c.pop-latest.result c.put.ensures.places a _ bays c.pop-latest.new.out from (omega arith) (omega arith) (search rules)
    ∙ ap (λ b. put p b (body_of t bays)) c.pop-latest.ensures.body

pub returns-clause-kept : goal.returns-clause-kept
returns-clause-kept g c =
    put_kept c.args.self.now c.put.new.self (number c.args.place) c.pop-latest.result c.put.ensures.records c.requires.kept c.pop-latest.ensures.kept (search rules)
