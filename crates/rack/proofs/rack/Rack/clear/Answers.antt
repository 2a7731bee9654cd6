use Rattle.table.specs.Tables.{body_of}
use Rattle.table.proofs.Bodies.{bodies_kept}
use Rattle.rack.proofs.Outcomes.{cleared}
use Rattle.rack.proofs.rack.Rack.clear.Goals as goal

pub returns-clause-outcome : goal.returns-clause-outcome
returns-clause-outcome g c =
    let t = c.args.self.now.table in
    let p = c.in_ok-place.place in
    let memory = c.args.memory.now in
    cleared g.W.Weight.kind g.W.Written.writing (body_of t memory) p _ c.args.place _ c.in_ok-place.ensures.found (bodies_kept t c.put.new.self p _ c.put.ensures.places memory)
