-- The bodies that a table holds in its memory are within the limits.
use Rattle.std.proofs.Common.{◌+◌, ◌-◌, ◌≤◌, List, length, arith, length-take}
use Rattle.std.specs.List.{between}
use Rattle.std.proofs.lemmas.Slice.Zip.{length-zip}
use Rattle.picture.proofs.Storing.{stored_sound}
use Rattle.recipe.specs.Places.{number}
use Rattle.stack.specs.Waiting.{bay}
use Rattle.book.specs.Statements.{AllLimited}
use Rattle.table.specs.Limits.{FewStates, FewArcs, EndsAreStates, AllKept}
use Rattle.table.specs.Tables.{record_of, body_of}
use Rattle.table.specs.declared.table.Table.{Table}
use Rattle.rack.specs.declared.rack.Rack.{Rack}
use Rattle.recipe.proofs.Numbers.{number_below}
use Rattle.table.proofs.Bodies.{length_bay}
use Rattle.table.proofs.Keeping.{kept_at}

pub bodies_limited : {W : Type 0} (t : Table) (memory : List W) → AllKept t → 5120 ≤ length memory → AllLimited (body_of t memory)
bodies_limited t memory kept long p =
    let r = record_of t p in
    let weights = bay (number p) memory in
    let k = kept_at t kept p in
    let low = number_below p in
    let some = length-zip (between 0 r.count r.arcs) (between 128 (128 + r.count) weights) in
    record {
      few_states = k.few_states;
      few_arcs = omega (arith, some, length-take (r.count - 0) r.arcs, k.few_arcs);
      sound = stored_sound r weights k (length_bay (number p) memory (omega arith));
    }

-- the records of a rack are within the limits
pub rack_kept : {W : Type 0} (r : Rack W) → AllKept r.table
rack_kept r = record { few_states = r.few_states; few_arcs = r.few_arcs; ends = r.ends }

-- a table within the limits, as a rack's invariant asks for it
pub as_rack : {t : Table} → AllKept t → record { few_states : FewStates t; few_arcs : FewArcs t; ends : EndsAreStates t }
as_rack all = record { few_states = all.few_states; few_arcs = all.few_arcs; ends = all.ends }
