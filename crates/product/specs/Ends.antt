-- The ends of a pair of arcs.
use Rattle.std.specs.Prelude.{ℕ, ◌+◌, ◌*◌}
use Rattle.picture.specs.BodyOperations.{arc_from}
use Rattle.picture.specs.declared.body.Arc.{Arc}

-- between pairs of states, where pair (p, q) is state p·n + q
abbrev pub pair_ends : ℕ → Arc → Arc → Arc
pair_ends n a b = arc_from (a.from * n + b.from) (a.to * n + b.to) a.quadrant
