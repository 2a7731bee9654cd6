-- The bodies on a rack, and what a call came to.
use Rattle.std.specs.Prelude.{◌≡◌, ℕ, cond, List, take, Some, None, Ok, Err, Option, Result, ◌≢◌, nat_lt}
use Rattle.book.specs.Calls.{Places, Output, Nothing, Words, Cells, Outcome}
use Rattle.book.specs.Refusals.{coded}
use Rattle.book.specs.declared.refusal.Refusal.{Refusal}
use Rattle.book.specs.declared.refusal.RunFault.{RunFault}
use Rattle.book.specs.declared.refusal.Refusal.TheVariants.{ShortMemory, NoPlace, NotRun}
use Rattle.recipe.specs.Places.{place}
use Rattle.recipe.specs.declared.place.Place.{Place}
use Rattle.table.specs.Tables.{record_of, body_of}
use Rattle.rack.specs.declared.rack.Rack.{Rack}

-- the bodies of the places, with their weights in this memory
abbrev pub places : {W : Type 0} → Rack W → List W → Places W
places r memory = body_of r.table memory

-- an answer, an output, and the bodies after
abbrev pub came_to : {W : Type 0} → Result ℕ Refusal → Output W → Places W → Outcome W
came_to r out after = record { answer = r; output = out; after = after }

-- how much of its output buffer a call wrote: as much as it answers, and nothing if it is refused
abbrev pub amount : Result ℕ Refusal → ℕ
amount (Ok n) = n
amount (Err r) = 0

-- the words that a call left in its buffer
abbrev pub words_out : {W : Type 0} → Result ℕ Refusal → List ℕ → Output W
words_out (Ok n) out = Words (take n out)
words_out (Err r) out = Nothing

-- the cells that a call left in its buffer
abbrev pub cells_out : {W : Type 0} → Result ℕ Refusal → List W → Output W
cells_out (Ok n) out = Cells (take n out)
cells_out (Err r) out = Nothing

-- a place, or that there is none
abbrev pub or_none : Option Place → Result Place Refusal
or_none (Some p) = Ok p
or_none None = Err NoPlace

-- the place that a call names, first of all with enough weights in its memory
abbrev pub named : (weights n : ℕ) → Result Place Refusal
named weights n = cond (nat_lt weights 10240) (Err ShortMemory) (or_none (place n))

-- only the record of the place with the number n may differ, and on a refusal none does
abbrev pub OnlyAt : {W : Type 0} → (n : ℕ) (before after : Rack W) → Result ℕ Refusal → Type 0
OnlyAt n before after (Ok i) = (q : Place) → (place n ≢ Some q) → record_of after.table q ≡ record_of before.table q
OnlyAt n before after (Err r) = after.table ≡ before.table

-- the answer of a run, whose fault the refusal holds
abbrev pub run_answer : Result ℕ RunFault → Result ℕ Refusal
run_answer (Ok n) = Ok n
run_answer (Err f) = Err (NotRun f)

-- a refusal that carries no line leaves all records
abbrev pub KeptUnread : {W : Type 0} → (before after : Rack W) → Result ℕ Refusal → Type 0
KeptUnread before after (Ok n) = Unit {0}
KeptUnread before after (Err r) = (coded r).line ≡ None → after.table ≡ before.table
