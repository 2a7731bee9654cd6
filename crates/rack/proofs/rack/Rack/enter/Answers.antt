use Rattle.std.proofs.Common.{◌≡◌, ◌+◌, ◌-◌, ◌*◌, ◌≤◌, length, ap, ◌∙◌, arith, rules}
use Rattle.std.proofs.lemmas.List.Edits.{length-between}
use Rattle.std.proofs.lemmas.Slice.{drop-put_mid}
use Rattle.std.proofs.lemmas.Result.{err_from_is_err_and}
use Rattle.picture.specs.Stored.{stored}
use Rattle.recipe.specs.Places.{number}
use Rattle.recipe.proofs.Numbers.{number_below}
use Rattle.table.specs.Tables.{body_of}
use Rattle.table.proofs.Bodies.{bodies_put, part_again}
use Rattle.table.proofs.Keeping.{put_kept}
use Rattle.rack.proofs.Holding.{rack_kept, as_rack}
use Rattle.rack.proofs.Outcomes.{is_entered, is_not_entered, back_again}
use Rattle.rack.proofs.rack.Rack.enter.Goals as goal

pub invariant_of-self : goal.invariant_of-self
invariant_of-self g c =
    let rack = c.args.self.now in
    let full : length c.in_ok-body.body.arcs ≡ 512 = search rules in
    as_rack (put_kept rack.table c.put.new.self (number c.in_ok-place.place) _ c.put.ensures.records (rack_kept rack) c.in_ok-body.ensures.outcome.0 full)

pub returns-in_err-body-clause-outcome : goal.returns-in_err-body-clause-outcome
returns-in_err-body-clause-outcome g c =
    let t = c.args.self.now.table in
    let memory = c.args.memory.now in
    let a = 640 * c.from-at.result in
    let h = c.in_err-body.ensures.outcome in
    let e = err_from_is_err_and c.from_residual-in_err-body.result c.from_residual-in_err-body.ensures.1 in
    let same = part_again a (a + 640 - a) memory c.read.new.weights (a + 640) (omega arith) h.1 in
    rw (e.1, e.2) (is_not_entered g.W.Weight.kind g.W.Written.writing (body_of t memory) c.in_ok-place.place (length memory) c.args.place c.args.words.now _ c.in_ok-place.ensures.found c.in_err-body.field-0.0 h.0 (ap (body_of t) same))

pub returns-clause-outcome : goal.returns-clause-outcome
returns-clause-outcome g c =
    let t = c.args.self.now.table in
    let p = c.in_ok-place.place in
    let memory = c.args.memory.now in
    let a = 640 * c.from-at.result in
    let k = a + 640 - a in
    let long : 10240 ≤ length memory = c.in_ok-place.ensures.enough in
    let low = number_below p in
    let at : c.from-at.result ≡ number p = c.from-at.ensures in
    let full : length c.read.new.weights ≡ k = c.read.auto.weights ∙ length-between memory a (a + 640) (omega arith) in
    let done = bodies_put t c.put.new.self p c.in_ok-body.body c.put.ensures.places a k memory c.read.new.weights (omega arith) (omega arith) (omega arith) full in
    is_entered g.W.Weight.kind g.W.Written.writing (body_of t memory) p (length memory) c.args.place c.args.words.now _ c.in_ok-place.ensures.found (stored c.in_ok-body.body c.read.new.weights) c.in_ok-body.ensures.outcome.1 done

pub returns-clause-beyond : goal.returns-clause-beyond
returns-clause-beyond g c =
    let memory = c.args.memory.now in
    let a = 640 * c.from-at.result in
    let long : 10240 ≤ length memory = c.in_ok-place.ensures.enough in
    let low = number_below c.in_ok-place.place in
    let at : c.from-at.result ≡ number c.in_ok-place.place = c.from-at.ensures in
    drop-put_mid a (a + 640 - a) memory c.read.new.weights 10240 (omega arith) (omega arith) (c.read.auto.weights ∙ length-between memory a (a + 640) (omega arith))

pub returns-clause-back : goal.returns-clause-back
returns-clause-back g c =
    let memory = c.args.memory.now in
    back_again g.W.Weight.kind g.W.Written.writing (body_of c.args.self.now.table memory) (length memory) c.args.place c.args.words.now _ _ (returns-clause-outcome g c)
