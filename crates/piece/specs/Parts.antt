-- The parts of a piecing.
use Rattle.std.specs.Prelude.{ℕ, ◌+◌, List, ◌++◌, map, length}
use Rattle.weight.specs.Kinds.{Kind}
use Rattle.picture.specs.Bodies.{Body, Edge}
use Rattle.picture.specs.BodyOperations.{arc_from, raised, entries}
use Rattle.picture.specs.Lent.{lent}
use Rattle.picture.specs.Operations.{four}
use Rattle.picture.specs.declared.body.Arc.{Arc}
use Rattle.picture.specs.declared.quadrant.Quadrant.{Quadrant}
use Rattle.picture.specs.declared.stored.Stored.{Stored}
use Rattle.piece.specs.declared.parts.Part.{Part}

-- a part's quadrant and its body
abbrev pub filled : {W : Type 0} → Part W → Quadrant × Body W
filled p = (p.quadrant, lent p.body)

-- the arc from state 0 to state q of a part whose states begin at s
abbrev pub entry_arc : ℕ → Quadrant → ℕ → Arc
entry_arc s d q = arc_from 0 (s + q) d

-- the arcs that enter a part whose states begin at s, then its own
abbrev pub part_arcs : {W : Type 0} → Kind W → ℕ → Quadrant → Body W → List (Edge W)
part_arcs k s d b = entries k s (d, b) ++ map (raised s) b.arcs

-- how many they are
abbrev pub part_size : {W : Type 0} → Body W → ℕ
part_size b = b.states + length b.arcs

-- four bodies in memory by their quadrants
abbrev pub four_stored : {W : Type 0} → Stored W → Stored W → Stored W → Stored W → Quadrant → Body W
four_stored a b c d = four (lent a) (lent b) (lent c) (lent d)
