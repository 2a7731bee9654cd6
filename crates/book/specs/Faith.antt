-- The book over a list of calls, and what it is to agree with it.
use Rattle.std.specs.Prelude.{◌≡◌, ℕ, List, [], ◌∷◌, map, take, Some, Ok, Err, Result, MatchOption}
use Rattle.weight.specs.Kinds.{Kind}
use Rattle.weight.specs.Words.{Writing}
use Rattle.picture.specs.Bodies.{Body}
use Rattle.picture.specs.Cells.{tile}
use Rattle.picture.specs.OperationStatements.{Shows}
use Rattle.picture.specs.Pictures.{picture}
use Rattle.words.specs.Format.{SpellsBody}
use Rattle.recipe.specs.declared.place.Place.{Place}
use Rattle.recipe.specs.Evaluations.{put}
use Rattle.recipe.specs.Expressions.{lines}
use Rattle.recipe.specs.Places.{place}
use Rattle.recipe.specs.Trees as trees
use Rattle.stack.specs.Drawing.{blank}
use Rattle.book.specs.declared.refusal.Refusal.{Refusal}
use Rattle.book.specs.Calls.{Call, Enter, Run, Clear, Write, Print, Output, Words, Cells, Outcome, Places, Rules}
use Rattle.book.specs.Meanings.{Book, noted}
use Rattle.book.specs.Refusals.{coded}

-- a call with its answer and its output
pub record Event (W : Type 0) : Type 0 where
  pub call : Call
  pub answer : Result ℕ Refusal
  pub output : Output W

-- an event with the bodies after it
abbrev pub leaving : {W : Type 0} → Event W → Places W → Outcome W
leaving e after = record { answer = e.answer; output = e.output; after = after }

-- on a fresh rack every place is blank
abbrev pub fresh : {W : Type 0} → Places W
fresh p = blank

module _ {W : Type 0} (k : Kind W) (v : Writing W) where
  -- at first every picture is zero everywhere
  abbrev pub first_book : Book W
  first_book p w = k.zero

  -- Told a call and its answer, the book is `next` then. An accepted enter makes the place's picture that of the body in the
  -- words, an accepted clear makes it zero, an accepted run changes it line by line; a refusal that carries a line counts
  -- the lines before it. All else changes nothing.
  abbrev pub Told : Book W → Call → Result ℕ Refusal → Book W → Type 0
  Told book (Enter n given) (Ok _) next = (p : Place) × (b : Body W) × (place n ≡ Some p) × SpellsBody v b given × (next ≡ put p (picture k b) book)
  Told book (Enter n given) (Err r) next = next ≡ book
  Told book (Run given) (Ok _) next = (t : trees.Tree trees.script) × (trees.text t ≡ given) × (next ≡ noted k (lines t) book)
  Told book (Run given) (Err r) next =
      MatchOption (coded r).line (next ≡ book) (λ l. (t : trees.Tree trees.script) × (trees.text t ≡ given) × (next ≡ noted k (take l (lines t)) book))
  Told book (Clear n) (Ok _) next = (p : Place) × (place n ≡ Some p) × (next ≡ put p (λ w. k.zero) book)
  Told book (Clear n) (Err r) next = next ≡ book
  Told book (Write n room) r next = next ≡ book
  Told book (Print n depth digits prefix room) r next = next ≡ book

  -- an accepted write gives the words of a body with the book's picture, an accepted print the cells that the book has for the tile
  abbrev pub Agrees : Book W → Call → Result ℕ Refusal → Output W → Type 0
  Agrees book (Enter n given) r out = Unit {0}
  Agrees book (Run given) r out = Unit {0}
  Agrees book (Clear n) r out = Unit {0}
  Agrees book (Write n room) (Ok _) out = (p : Place) × (b : Body W) × (given : List ℕ) × (place n ≡ Some p) × SpellsBody v b given × (out ≡ Words given) × Shows k b (book p)
  Agrees book (Write n room) (Err r) out = Unit {0}
  Agrees book (Print n depth digits prefix room) (Ok _) out = (p : Place) × (place n ≡ Some p) × (out ≡ Cells (map (book p) (tile depth digits prefix)))
  Agrees book (Print n depth digits prefix room) (Err r) out = Unit {0}

  -- prints and writes agree with the book as it then is, which goes on in one way only
  abbrev pub Faithful : Book W → List (Event W) → Type 0
  Faithful book [] = Unit {0}
  Faithful book (e ∷ es) =
      Agrees book e.call e.answer e.output
      × ((next : Book W) × Told book e.call e.answer next × ((other : Book W) → Told book e.call e.answer other → other ≡ next) × Faithful next es)

  -- from the bodies `at` to the bodies `now`, each answer and output is the one that the rules name for the bodies as they then stand
  abbrev pub ByRules : (memory : ℕ) → Places W → List (Event W) → Places W → Type 0
  ByRules memory at [] now = at ≡ now
  ByRules memory at (e ∷ es) now = (after : Places W) × Rules k v at memory e.call (leaving e after) × ByRules memory after es now

  -- on a fresh rack, with a memory of any size, every list of calls that goes by the rules is faithful to the book
  abbrev pub ListsFaithful : Type 0
  ListsFaithful = (memory : ℕ) (es : List (Event W)) (now : Places W) → ByRules memory fresh es now → Faithful first_book es
