-- Each record of a table is within the limits, also once one is replaced.
use Rattle.std.proofs.Common.{◌≡◌, ℕ, zero, suc, ◌-◌, ◌<◌, ◌≤◌, List, [], ◌∷◌, length, get_or, take, set, sym, subst, arith, get_or-take}
use native.Mathlib.Nat.{sub-zero}
use Rattle.std.specs.List.{between, AllByRecursion}
use Rattle.std.proofs.lemmas.List.Edits.{length-between}
use Rattle.std.proofs.ByRecursion.{All-get_or}
use Rattle.picture.specs.Bodies.{Within}
use Rattle.picture.specs.Stored.{Kept}
use Rattle.picture.specs.declared.body.Record.{Record}
use Rattle.recipe.specs.Places.{number}
use Rattle.recipe.specs.declared.place.Place.{Place}
use Rattle.stack.specs.Waiting.{no_record}
use Rattle.table.specs.Limits.{no_arc, AllKept}
use Rattle.table.specs.Tables.{record_of}
use Rattle.table.specs.declared.table.Table.{Table}

-- what holds of the first n by their index holds of all of them
all_taken : {X : Type 0} (P : X → Type 0) (xs : List X) (n : ℕ) (d : X) → ((i : ℕ) → i < n → P (get_or xs i d)) → AllByRecursion P (take n xs)
all_taken P xs zero d h = tt
all_taken P [] (suc n) d h = tt
all_taken P (x ∷ xs) (suc n) d h = (h zero (omega arith), all_taken P xs n d (λ i l. h (suc i) (omega arith)))

-- the record at each index is within the limits
kept_index : (t : Table) → AllKept t → (n : ℕ) → Kept (get_or t.records n no_record)
kept_index t all n = record {
  few_states = all.few_states n;
  few_arcs = all.few_arcs n;
  ends = rw sub-zero (all_taken _ _ _ no_arc (all.ends n));
}

-- the record of a place is within the limits
pub kept_at : (t : Table) → AllKept t → (p : Place) → Kept (record_of t p)
kept_at t all p = kept_index t all (number p)

-- also a record that is read from the table
pub read_kept : (t : Table) (n : ℕ) (r : Record) → r ≡ get_or t.records n no_record → AllKept t → Kept r
read_kept t n r is all = subst Kept (sym is) (kept_index t all n)

-- what holds of each element and of y holds of each once y is written
set_holds : {X : Type 0} (P : X → Type 0) (xs : List X) (n : ℕ) (y d : X) → ((i : ℕ) → P (get_or xs i d)) → P y → (i : ℕ) → P (get_or (set xs n y) i d)
set_holds P [] n y d all here i = all i
set_holds P (x ∷ xs) zero y d all here zero = here
set_holds P (x ∷ xs) zero y d all here (suc i) = all (suc i)
set_holds P (x ∷ xs) (suc n) y d all here zero = all zero
set_holds P (x ∷ xs) (suc n) y d all here (suc i) = set_holds P xs n y d (λ j. all (suc j)) here i

-- the ends of a record's arcs, arc by arc
abbrev Ends : Record → Type 0
Ends r = (i : ℕ) → i < r.count → Within r.states (get_or r.arcs i no_arc)

ends_by_index : (r : Record) → Kept r → length r.arcs ≡ 512 → Ends r
ends_by_index r k full i low =
    let long = length-between r.arcs 0 r.count (omega (arith, k.few_arcs)) in
    let within = All-get_or (Within r.states) (between 0 r.count r.arcs) i no_arc (omega arith) k.ends in
    subst (Within r.states) (get_or-take (r.count - 0) r.arcs i no_arc (omega arith)) within

-- a record within the limits takes the place of another
module _ (t u : Table) (n : ℕ) (r : Record) (is : u.records ≡ set t.records n r) where
  put_holds : (P : Record → Type 0) → ((i : ℕ) → P (get_or t.records i no_record)) → P r → (i : ℕ) → P (get_or u.records i no_record)
  put_holds P all here i = subst (λ rs. P (get_or rs i no_record)) (sym is) (set_holds P t.records n r no_record all here i)

  pub put_kept : AllKept t → Kept r → length r.arcs ≡ 512 → AllKept u
  put_kept all k full = record {
    few_states = put_holds (λ s. s.states ≤ 64) all.few_states k.few_states;
    few_arcs = put_holds (λ s. s.count ≤ 512) all.few_arcs k.few_arcs;
    ends = put_holds Ends all.ends (ends_by_index r k full);
  }
