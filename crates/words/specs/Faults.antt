-- Why words are refused, and why a body is not written.
use Rattle.std.specs.Prelude.{◌≡◌, ℕ, ◌<◌, ◌≤◌, List, ◌∷◌, ◌++◌, length, Some, None, Option, codes}
use Rattle.weight.specs.Words.{Writing}
use Rattle.words.specs.Format.{head_word, size}
use Rattle.words.specs.Wrong.{state_pieces, arc_pieces, FirstWrong}
use Rattle.words.specs.declared.fault.Fault.{Fault}
use Rattle.words.specs.declared.fault.Fault.TheVariants.{Width, Head, Count, Piece}
use Rattle.words.specs.declared.fault.PieceFault.TheVariants.{WrongArc, WrongWeight}
use Rattle.words.specs.declared.fault.WriteFault.{WriteFault}
use Rattle.words.specs.declared.fault.WriteFault.TheVariants.{TooWide, TooShort}

-- of each fault the number, and the index that it carries
abbrev pub number_and_index : Fault → ℕ × Option ℕ
number_and_index Width = (3, None)
number_and_index Head = (4, None)
number_and_index Count = (5, None)
number_and_index (Piece (WrongArc f)) = (6, Some f.word.index)
number_and_index (Piece (WrongWeight f)) = (7, Some f.word.index)

-- the text of each fault
abbrev pub text : Fault → List ℕ
text Width = codes "the kind is too wide to be written"
text Head = codes "no word, or a head with a wrong tag, code, width, zero bit or count"
text Count = codes "another number of words than the head calls for"
text (Piece f) = codes "a wrong arc word, or a weight that no value has"

-- a head within the limits, and what stands behind it
pub record Headed {W : Type 0} (s : Writing W) (given : List ℕ) : Type 0 where
  pub states : ℕ
  pub arcs : ℕ
  pub behind : List ℕ
  pub few_states : states ≤ 64
  pub few_arcs : arcs ≤ 512
  pub splits : given ≡ head_word s states arcs ∷ behind

-- the number of words is the one that the head names
abbrev pub Counted : {W : Type 0} {s : Writing W} {given : List ℕ} → Headed s given → Type 0
Counted {s = s} h = length h.behind ≡ size s h.states h.arcs

-- the fault of words that are not those of a body
abbrev pub Refused : {W : Type 0} → Writing W → List ℕ → Fault → Type 0
Refused s given Width = s.width ≡ 9
Refused s given Head = (s.width < 9) × (Headed s given → ⊥)
Refused s given Count = (s.width < 9) × ((h : Headed s given) × (Counted h → ⊥))
Refused s given (Piece f) =
    (s.width < 9) × ((h : Headed s given) × Counted h × FirstWrong s h.states (state_pieces h.states ++ arc_pieces h.arcs) h.behind 1 f)

-- of each fault of writing the number
abbrev pub write_number : WriteFault → ℕ
write_number TooWide = 3
write_number TooShort = 16

-- the text of each fault of writing
abbrev pub write_text : WriteFault → List ℕ
write_text TooWide = codes "the body is not written"
write_text TooShort = codes "the body is not written"

-- the fault of writing so many words into so many
abbrev pub Unwritten : {W : Type 0} → Writing W → (words room : ℕ) → WriteFault → Type 0
Unwritten s words room TooWide = s.width ≡ 9
Unwritten s words room TooShort = (s.width < 9) × (room < words)
