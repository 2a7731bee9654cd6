-- The table of place records, and the bodies of the places.
use Rattle.std.specs.Prelude.{◌≡◌, ℕ, List, get_or, slice_index_or}
use Rattle.picture.specs.Bodies.{Body}
use Rattle.picture.specs.Stored.{stored}
use Rattle.picture.specs.declared.body.Record.{Record}
use Rattle.recipe.specs.Places.{number}
use Rattle.recipe.specs.declared.place.Place.{Place}
use Rattle.stack.specs.Waiting.{bay, no_record}
use Rattle.table.specs.declared.table.Table.{Table}

-- the record of a place
abbrev pub record_of : Table → Place → Record
record_of t p = slice_index_or t.records (number p) no_record

-- the body of a place: its weights lie in the bay of its number
abbrev pub body_of : {W : Type 0} → Table → List W → Place → Body W
body_of t memory p = stored (record_of t p) (bay (number p) memory)

-- no place has states or arcs
pub record Blank (t : Table) : Type 0 where
  pub states : (p : ℕ) → (get_or t.records p no_record).states ≡ 0
  pub arcs : (p : ℕ) → (get_or t.records p no_record).count ≡ 0
