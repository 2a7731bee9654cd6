-- A list of calls with their answers and outputs, which lie one behind the other in two buffers.
use Rattle.std.specs.Prelude.{ℕ, ◌+◌, min, List, [], ◌∷◌, length, drop, Result}
use Rattle.weight.specs.Kinds.{Kind}
use Rattle.weight.specs.Words.{Writing}
use Rattle.book.specs.Calls as book
use Rattle.book.specs.Calls.{Output, Nothing, Places}
use Rattle.book.specs.Faith.{Event, fresh, first_book, Faithful, ByRules}
use Rattle.book.specs.declared.refusal.Refusal.{Refusal}
use Rattle.rack.specs.Racks.{amount, words_out, cells_out}
use Rattle.rack.specs.declared.call.Call.{Call}
use Rattle.rack.specs.declared.call.Call.TheVariants.{Enter, Run, Clear, Write, Print}

-- the call that is made where so many words and cells are left in the buffers
abbrev pub asked : Call → (words cells : ℕ) → book.Call
asked (Enter n given) words cells = book.Enter n given.now
asked (Run given) words cells = book.Run given.now
asked (Clear n) words cells = book.Clear n
asked (Write n room) words cells = book.Write n (min room words)
asked (Print n t room) words cells = book.Print n t.depth t.digits t.prefix (min room cells)

-- how many words it wrote
abbrev pub words_used : Call → Result ℕ Refusal → ℕ
words_used (Enter n given) r = 0
words_used (Run given) r = 0
words_used (Clear n) r = 0
words_used (Write n room) r = amount r
words_used (Print n t room) r = 0

-- how many cells it wrote
abbrev pub cells_used : Call → Result ℕ Refusal → ℕ
cells_used (Enter n given) r = 0
cells_used (Run given) r = 0
cells_used (Clear n) r = 0
cells_used (Write n room) r = 0
cells_used (Print n t room) r = amount r

-- what it left at the front of the buffers
abbrev pub output_of : {W : Type 0} → Call → Result ℕ Refusal → (words : List ℕ) (cells : List W) → Output W
output_of (Enter n given) r words cells = Nothing
output_of (Run given) r words cells = Nothing
output_of (Clear n) r words cells = Nothing
output_of (Write n room) r words cells = words_out r words
output_of (Print n t room) r words cells = cells_out r cells

-- the calls with their answers, as far as there are both, and with the outputs that the buffers hold
abbrev pub events : {W : Type 0} → List Call → List (Result ℕ Refusal) → (words : List ℕ) (cells : List W) → List (Event W)
events [] rs words cells = []
events (c ∷ cs) [] words cells = []
events (c ∷ cs) (r ∷ rs) words cells =
    record { call = asked c (length words) (length cells); answer = r; output = output_of c r words cells }
    ∷ events cs rs (drop (words_used c r) words) (drop (cells_used c r) cells)

-- how many words, and how many cells, all these calls wrote
abbrev pub all_words : List Call → List (Result ℕ Refusal) → ℕ
all_words [] rs = 0
all_words (c ∷ cs) [] = 0
all_words (c ∷ cs) (r ∷ rs) = words_used c r + all_words cs rs

abbrev pub all_cells : List Call → List (Result ℕ Refusal) → ℕ
all_cells [] rs = 0
all_cells (c ∷ cs) [] = 0
all_cells (c ∷ cs) (r ∷ rs) = cells_used c r + all_cells cs rs

-- On a fresh rack with a memory of so many weights each event is the one that the rules name for the rack as it then stands,
-- and prints and writes agree with the book.
pub record Replayed {W : Type 0} (k : Kind W) (v : Writing W) (memory : ℕ) (es : List (Event W)) : Type 0 where
  pub after : Places W
  pub by_rules : ByRules k v memory fresh es after
  pub faithful : Faithful k v (first_book k v) es
