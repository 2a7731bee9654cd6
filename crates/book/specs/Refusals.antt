-- The number of each refusal, and what it carries.
use Rattle.std.specs.Prelude.{ℕ, Some, None, Option}
use Rattle.words.specs.Faults.{number_and_index, write_number}
use Rattle.recipe.specs.Faults as recipe
use Rattle.compose.specs.Faults as compose
use Rattle.tile.specs.Faults as tile
use Rattle.book.specs.declared.refusal.Refusal.{Refusal}
use Rattle.book.specs.declared.refusal.Refusal.TheVariants.{ShortMemory, NoPlace, NotEntered, NotRun, NotWritten, NotPrinted}
use Rattle.book.specs.declared.refusal.RunFault.TheVariants.{Unread, Stopped}

-- a number, and the line and the index (of a word, a byte or a mark) that are carried with it
pub record Code : Type 0 where
  pub number : ℕ
  pub line : Option ℕ
  pub index : Option ℕ

-- a number that carries nothing
abbrev pub bare : ℕ → Code
bare n = record { number = n; line = None; index = None }

-- a number that carries an index, or not
abbrev pub with_index : ℕ × Option ℕ → Code
with_index p = record { number = p.0; line = None; index = p.1 }

abbrev pub coded : Refusal → Code
coded ShortMemory = bare 1
coded NoPlace = bare 2
coded (NotEntered f) = with_index (number_and_index f)
coded (NotRun (Unread f)) = with_index (recipe.coded f)
coded (NotRun (Stopped f)) = record { number = compose.number f.step.fault; line = Some f.line; index = Some f.step.mark }
coded (NotWritten f) = bare (write_number f)
coded (NotPrinted f) = bare (tile.number f)
