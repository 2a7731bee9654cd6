-- What follows from the rules, on every written kind that keeps the laws.
use Rattle.std.specs.Prelude.{◌≡◌, ℕ, ◌≤◌, List, length, Some, Ok}
use Rattle.weight.specs.Kinds.{Kind}
use Rattle.weight.specs.Words.{Writing}
use Rattle.words.specs.Format.{Limited}
use Rattle.recipe.specs.declared.place.Place.{Place}
use Rattle.recipe.specs.Evaluations.{put}
use Rattle.recipe.specs.Expressions.{lines}
use Rattle.recipe.specs.Places.{place}
use Rattle.recipe.specs.Trees as trees
use Rattle.book.specs.Calls.{Call, Enter, Run, Write, Print, Nothing, Words, Places, Outcome, answers, Rules}
use Rattle.book.specs.Uses.{Compared}

-- every body may stand at a place
abbrev pub AllLimited : {W : Type 0} → Places W → Type 0
AllLimited at = (p : Place) → Limited (at p)

-- both outcomes have the same answer and the same output
abbrev pub SameShown : {W : Type 0} → Outcome W → Outcome W → Type 0
SameShown x y = (x.answer ≡ y.answer) × (x.output ≡ y.output)

module _ {W : Type 0} (k : Kind W) (v : Writing W) where
  -- the rules name one outcome at most
  abbrev pub OneOutcome : Type 0
  OneOutcome = (at : Places W) (memory : ℕ) (c : Call) (x y : Outcome W) → Rules k v at memory c x → Rules k v at memory c y → x ≡ y

  -- what an accepted run answers is the number of its lines
  abbrev pub AnswersLines : Type 0
  AnswersLines = (at : Places W) (memory i : ℕ) (t : trees.Tree trees.script) (x : Outcome W) → Rules k v at memory (Run (trees.text t)) x → x.answer ≡ Ok i → i ≡ length (lines t)

  -- As long as the place has the body that these words made, a write of it gives the same words, if there is room.
  abbrev pub WritesBack : (after : Places W) (n : ℕ) (given : List ℕ) → Type 0
  WritesBack after n given =
      (p : Place) (now : Places W) (memory room : ℕ) → place n ≡ Some p → now p ≡ after p → 10240 ≤ memory → length given ≤ room
      → Rules k v now memory (Write n room) (answers now (length given) (Words given))

  -- words that were entered are written back
  abbrev pub EnteredBack : Type 0
  EnteredBack =
      (at : Places W) (memory n i : ℕ) (given : List ℕ) (x : Outcome W) → Rules k v at memory (Enter n given) x → x.answer ≡ Ok i → WritesBack x.after n given

  -- at any place of any rack, these words enter as the body of place n
  abbrev pub EntersAs : (at : Places W) (n : ℕ) (given : List ℕ) → Type 0
  EntersAs at n given =
      (p q : Place) (now : Places W) (memory m : ℕ) → place n ≡ Some p → place m ≡ Some q → 10240 ≤ memory
      → Rules k v now memory (Enter m given) (answers (put q (at p) now) 0 Nothing)

  -- words that are written enter as the same body
  abbrev pub WrittenBack : Type 0
  WrittenBack =
      (at : Places W) → AllLimited at → (memory n room i : ℕ) (given : List ℕ) (x : Outcome W)
      → Rules k v at memory (Write n room) x → x.answer ≡ Ok i → x.output ≡ Words given → EntersAs at n given

  -- From the bodies `at` this script leads to the bodies `after`. Run another that differs from it by uses of the laws: if it is
  -- accepted, a print at any place, of any tile at a depth that is compared, gives the same answer and the same cells after either.
  abbrev pub PrintsAlike : (at after : Places W) (memory : ℕ) → trees.Tree trees.script → Type 0
  PrintsAlike at after memory t =
      (u : trees.Tree trees.script) (other : Outcome W) (j : ℕ) → Rules k v at memory (Run (trees.text u)) other → other.answer ≡ Ok j
      → (n depth digits prefix room : ℕ) (p : Place) → place n ≡ Some p → Compared k.exchanges (lines t) (lines u) p depth
      → (x y : Outcome W)
      → Rules k v after memory (Print n depth digits prefix room) x
      → Rules k v other.after memory (Print n depth digits prefix room) y
      → SameShown x y

  -- accepted scripts that differ by uses of the laws print alike
  abbrev pub LawEqual : Type 0
  LawEqual =
      (at : Places W) → AllLimited at → (memory i : ℕ) (t : trees.Tree trees.script) (x : Outcome W)
      → Rules k v at memory (Run (trees.text t)) x → x.answer ≡ Ok i → PrintsAlike at x.after memory t
