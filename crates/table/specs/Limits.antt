-- The limits of every record of a table, place by place and arc by arc.
use Rattle.std.specs.Prelude.{ℕ, ◌<◌, ◌≤◌, get_or, slice_index_or}
use Rattle.picture.specs.Bodies.{Within}
use Rattle.picture.specs.BodyOperations.{arc_from}
use Rattle.picture.specs.declared.body.Arc.{Arc}
use Rattle.picture.specs.declared.quadrant.Quadrant.TheVariants.{UpperLeft}
use Rattle.stack.specs.Waiting.{no_record}
use Rattle.table.specs.declared.table.Table.{Table}

-- what an array of arcs has past its end
abbrev pub no_arc : Arc
no_arc = arc_from 0 0 UpperLeft

-- each place has at most 64 states
abbrev pub FewStates : Table → Type 0
FewStates t = (p : ℕ) → (get_or t.records p no_record).states ≤ 64

-- and at most 512 arcs
abbrev pub FewArcs : Table → Type 0
FewArcs t = (p : ℕ) → (get_or t.records p no_record).count ≤ 512

-- both ends of each arc are states
abbrev pub EndsAreStates : Table → Type 0
EndsAreStates t =
    (p i : ℕ) → i < (get_or t.records p no_record).count → Within (get_or t.records p no_record).states (slice_index_or (get_or t.records p no_record).arcs i no_arc)

-- every record is within the limits
pub record AllKept (t : Table) : Type 0 where
  pub few_states : FewStates t
  pub few_arcs : FewArcs t
  pub ends : EndsAreStates t
