-- The five calls on eight bodies: the answer or refusal, the output and the bodies after that the rules name.
use Rattle.std.specs.Prelude.{◌≡◌, ℕ, ◌-◌, ◌^◌, ◌<◌, ◌≤◌, cond, List, map, length, Some, None, Ok, Err, Option, Result, MatchOption, nat_lt}
use Rattle.weight.specs.Kinds.{Kind}
use Rattle.weight.specs.Words.{Writing}
use Rattle.picture.specs.Bodies.{Body}
use Rattle.picture.specs.Cells.{tile, Printable}
use Rattle.picture.specs.Pictures.{picture}
use Rattle.words.specs.declared.fault.Fault.{Fault}
use Rattle.words.specs.declared.fault.WriteFault.TheVariants.{TooWide, TooShort}
use Rattle.words.specs.Faults.{Refused}
use Rattle.words.specs.Format.{words_of, SpellsBody}
use Rattle.tile.specs.declared.printing.Fault.TheVariants.{NoTile, ShortOutput}
use Rattle.recipe.specs.declared.place.Place.{Place}
use Rattle.recipe.specs.Evaluations.{put, Ran, run_lines}
use Rattle.recipe.specs.Expressions.{lines}
use Rattle.recipe.specs.Limits.{max_bytes}
use Rattle.recipe.specs.Outcomes as script
use Rattle.recipe.specs.Places.{place}
use Rattle.recipe.specs.Trees as trees
use Rattle.recipe.specs.declared.fault.Fault as recipe
use Rattle.stack.specs.Drawing.{blank, drawing}
use Rattle.stack.specs.declared.fault.StepFault.{StepFault}
use Rattle.book.specs.declared.refusal.Refusal.{Refusal}
use Rattle.book.specs.declared.refusal.Refusal.TheVariants.{ShortMemory, NoPlace, NotEntered, NotRun, NotWritten, NotPrinted}
use Rattle.book.specs.declared.refusal.RunFault.TheVariants.{Unread, Stopped}

-- A call. A print names its tile by a depth and a prefix of so many digits; `room` is how many words or weights the output buffer takes.
pub data Call : Type 0 where
  Enter : (place : ℕ) (words : List ℕ) → Call
  Run : (script : List ℕ) → Call
  Clear : (place : ℕ) → Call
  Write : (place room : ℕ) → Call
  Print : (place depth digits prefix room : ℕ) → Call

-- what a call writes
pub data Output (W : Type 0) : Type 0 where
  Nothing : Output W
  Words : List ℕ → Output W
  Cells : List W → Output W

-- the body of each place
abbrev pub Places : Type 0 → Type 0
Places W = Place → Body W

-- what a call comes to
pub record Outcome (W : Type 0) : Type 0 where
  pub answer : Result ℕ Refusal
  pub output : Output W
  pub after : Places W

-- an answer with an output, and the bodies after
abbrev pub answers : {W : Type 0} → Places W → ℕ → Output W → Outcome W
answers after n out = record { answer = Ok n; output = out; after = after }

-- a refusal, which writes nothing and changes no place
abbrev pub refused : {W : Type 0} → Places W → Refusal → Outcome W
refused at r = record { answer = Err r; output = Nothing; after = at }

-- the number of lines, or the line that was refused
abbrev pub run_answer : ℕ → Option StepFault → Result ℕ Refusal
run_answer n None = Ok n
run_answer n (Some f) = Err (NotRun (Stopped (record { line = n; step = f })))

-- the outcome of a script of which some lines were done
abbrev pub ran : {W : Type 0} → Ran (Body W) StepFault → Outcome W
ran r = record { answer = run_answer r.done r.stop; output = Nothing; after = r.after }

module _ {W : Type 0} (k : Kind W) (v : Writing W) (at : Places W) where
  -- the words are refused with their fault, or their body stands at the place
  pub data Enters (p : Place) (given : List ℕ) : Outcome W → Type 0 where
    not_entered : {f : Fault} → Refused v given f → Enters p given (refused at (NotEntered f))
    entered : {b : Body W} → SpellsBody v b given → Enters p given (answers (put p b at) 0 Nothing)

  -- the script is refused with its fault, or its lines are carried out up to one that is refused
  pub data Runs (given : List ℕ) : Outcome W → Type 0 where
    unread : {f : recipe.Fault} → script.Refused given f → Runs given (refused at (NotRun (Unread f)))
    performed : (t : trees.Tree trees.script) → length given ≤ max_bytes → script.Spells t given → Runs given (ran (run_lines (drawing k) (lines t) at))

  -- the kind is too wide, the room too short, or the words of the place's body are written
  pub data Writes (p : Place) (room : ℕ) : Outcome W → Type 0 where
    too_wide : v.width ≡ 9 → Writes p room (refused at (NotWritten TooWide))
    too_short : v.width < 9 → room < length (words_of v (at p)) → Writes p room (refused at (NotWritten TooShort))
    written : v.width < 9 → length (words_of v (at p)) ≤ room → Writes p room (answers at (length (words_of v (at p))) (Words (words_of v (at p))))

  -- the numbers name no tile, the room is too short, or the cells of the tile are printed
  pub data Prints (p : Place) (depth digits prefix room : ℕ) : Outcome W → Type 0 where
    no_tile : (Printable depth digits prefix → ⊥) → Prints p depth digits prefix room (refused at (NotPrinted NoTile))
    no_room : Printable depth digits prefix → room < 4 ^ (depth - digits) → Prints p depth digits prefix room (refused at (NotPrinted ShortOutput))
    printed : Printable depth digits prefix → 4 ^ (depth - digits) ≤ room
        → Prints p depth digits prefix room (answers at (4 ^ (depth - digits)) (Cells (map (picture k (at p)) (tile depth digits prefix))))

  -- refused if the memory has too few weights, else as T says
  abbrev pub with_memory : ℕ → Outcome W → Type 0 → Type 0
  with_memory memory o T = cond (nat_lt memory 10240) (o ≡ refused at ShortMemory) T

  -- refused if no place has the number, else as T says of the place that has it
  abbrev pub at_place : ℕ → Outcome W → (Place → Type 0) → Type 0
  at_place n o T = MatchOption (place n) (o ≡ refused at NoPlace) T

  -- the outcome that the rules name for a call, with a memory of so many weights
  abbrev pub Rules : (memory : ℕ) → Call → Outcome W → Type 0
  Rules memory (Enter n given) o = with_memory memory o (at_place n o (λ p. Enters p given o))
  Rules memory (Run given) o = with_memory memory o (Runs given o)
  Rules memory (Clear n) o = with_memory memory o (at_place n o (λ p. o ≡ answers (put p blank at) 0 Nothing))
  Rules memory (Write n room) o = with_memory memory o (at_place n o (λ p. Writes p room o))
  Rules memory (Print n depth digits prefix room) o = with_memory memory o (at_place n o (λ p. Prints p depth digits prefix room o))
