use Rattle.std.proofs.Common.{◌≡◌, ◌≤◌, length, ◌∙◌, arith, rules}
use Rattle.std.proofs.lemmas.Result.{err_from_is_err_and}
use Rattle.table.specs.Tables.{body_of}
use Rattle.table.proofs.Bodies.{front_bodies, front_taken}
use Rattle.rack.proofs.Outcomes.{is_printed, is_not_printed, past_scratch}
use Rattle.rack.proofs.rack.Rack.print.Goals as goal

pub returns-in_err-print_tile-clause-outcome : goal.returns-in_err-print_tile-clause-outcome
returns-in_err-print_tile-clause-outcome g c =
    let t = c.args.self.now.table in
    let p = c.in_ok-place.place in
    let memory = c.args.memory.now in
    let bays = c.split_at_mut-bays.result.0.now in
    let long : 10240 ≤ length memory = c.in_ok-place.ensures.enough in
    let front : body_of t bays ≡ body_of t memory = front_taken t memory bays c.split_at_mut-bays.ensures.front (omega arith) in
    let e = err_from_is_err_and c.from_residual-in_err-print_tile.result c.from_residual-in_err-print_tile.ensures.1 in
    rw (e.1, e.2) (is_not_printed g.W.Weight.kind g.W.Written.writing (body_of t memory) p (length memory) c.args.place (body_of t bays p) c.args.tile.depth c.args.tile.digits c.args.tile.prefix c.args.cells.now c.print_tile.new.cells _ c.in_ok-place.ensures.found (λ i. front i p) (front_bodies t bays _ (omega arith) ∙ front) c.in_err-print_tile.field-0.0 c.in_err-print_tile.ensures)

pub returns-in_err-print_tile-clause-beyond : goal.returns-in_err-print_tile-clause-beyond
returns-in_err-print_tile-clause-beyond g c = past_scratch c.args.memory.now c.split_at_mut-bays.result.0.now c.split_at_mut-bays.result.1.now c.print_tile.new.scratch c.split_at_mut-bays.ensures.value (omega arith) (search rules)

pub returns-clause-outcome : goal.returns-clause-outcome
returns-clause-outcome g c =
    let t = c.args.self.now.table in
    let p = c.in_ok-place.place in
    let memory = c.args.memory.now in
    let bays = c.split_at_mut-bays.result.0.now in
    let long : 10240 ≤ length memory = c.in_ok-place.ensures.enough in
    let front : body_of t bays ≡ body_of t memory = front_taken t memory bays c.split_at_mut-bays.ensures.front (omega arith) in
    is_printed g.W.Weight.kind g.W.Written.writing (body_of t memory) p (length memory) c.args.place (body_of t bays p) c.args.tile.depth c.args.tile.digits c.args.tile.prefix c.args.cells.now c.print_tile.new.cells _ c.in_ok-place.ensures.found (λ i. front i p) (front_bodies t bays _ (omega arith) ∙ front) c.in_ok-print_tile.field-0 c.print_tile.auto.cells c.in_ok-print_tile.ensures

pub returns-clause-beyond : goal.returns-clause-beyond
returns-clause-beyond g c = past_scratch c.args.memory.now c.split_at_mut-bays.result.0.now c.split_at_mut-bays.result.1.now c.print_tile.new.scratch c.split_at_mut-bays.ensures.value (omega arith) (search rules)
