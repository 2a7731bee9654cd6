-- A body whose record and weights are lent together.
use Rattle.std.specs.Prelude.{List}
use Rattle.std.specs.List.{between}
use Rattle.picture.specs.Bodies.{Body}
use Rattle.picture.specs.Stored.{stored}
use Rattle.picture.specs.declared.body.Arc.{Arc}
use Rattle.picture.specs.declared.stored.Stored.{Stored}

-- the body
abbrev pub lent : {W : Type 0} → Stored W → Body W
lent s = stored s.record.now s.weights.now

-- its arcs, without their weights
abbrev pub arcs_of : {W : Type 0} → Stored W → List Arc
arcs_of s = between 0 s.record.now.count s.record.now.arcs
