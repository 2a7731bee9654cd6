-- A device of the proofs, which no public contract cites: what each private reader does to a `Reader`.
use Rattle.std.specs.Prelude.{◌≡◌, ℕ, ◌+◌, ◌<◌, ◌≤◌, Bool, true, false, List, [], ◌∷◌, ◌++◌, length, map, drop, slice_get, Some, None, Ok, Err, Option, Result, ◌≢◌}
use Rattle.picture.specs.declared.quadrant.Quadrant.{Quadrant}
use Rattle.picture.specs.Quadrants.{digit}
use Rattle.recipe.specs.declared.fault.Fault.{Fault}
use Rattle.recipe.specs.declared.fault.Fault.TheVariants.{TooLong, Grammar, Level, Waiting}
use Rattle.recipe.specs.declared.place.Place.{Place}
use Rattle.recipe.specs.declared.reader.grammar.Opening.{Opening}
use Rattle.recipe.specs.declared.reader.grammar.Opening.TheVariants.{At, Bar, Caret, Round, Square}
use Rattle.recipe.specs.declared.reader.grammar.Start.{Start}
use Rattle.recipe.specs.declared.reader.grammar.Start.TheVariants.{Ahead, Bracket, Pieces}
use Rattle.recipe.specs.declared.reader.Reader.{Reader}
use Rattle.recipe.specs.declared.step.Step.{Step}
use Rattle.recipe.specs.Trees.{Prefix, spelled, Cat, sum, product, part, closed, line, script, Tree, text}
use Rattle.recipe.specs.Steps.{step_of, steps, listed}
use Rattle.recipe.specs.Limits.{max_level, max_waiting, Byte, counted, Within}
use Rattle.recipe.specs.Devices.Machine.{Around, zooming, State, run, Blocked, Opens, name_of, digit_of}

-- the first byte of a list, if it has one
abbrev pub first : List ℕ → Option ℕ
first bs = slice_get bs 0

-- the place that it names, and the quadrant whose digit it is
abbrev pub name_at : List ℕ → Option Place
name_at [] = None
name_at (b ∷ bs) = name_of b

abbrev pub digit_at : List ℕ → Option Quadrant
digit_at [] = None
digit_at (b ∷ bs) = digit_of b

-- the bytes that are still to be read, and the steps so far
abbrev pub left : Reader → List ℕ
left a = drop a.pos a.src.now

abbrev pub made : Reader → List Step
made a = listed a.recipe

-- from a to b the bytes xs were read, and the steps ss were added
pub record Did (xs : List ℕ) (ss : List Step) (a b : Reader) : Type 0 where
  pub same : b.src.now ≡ a.src.now
  pub split : left a ≡ xs ++ left b
  pub on : b.pos ≡ a.pos + length xs
  pub count : b.recipe.count ≡ a.recipe.count + length ss
  pub adds : made b ≡ made a ++ ss

pub record Took (xs : List ℕ) (a b : Reader) : Type 0 where
  pub did : Did xs [] a b
  pub waits : b.waiting ≡ a.waiting

-- one step more, and w pictures wait
pub record Pushed (s : Step) (w : ℕ) (a b : Reader) : Type 0 where
  pub did : Did [] (s ∷ []) a b
  pub waits : b.waiting ≡ w

abbrev pub Taken : ℕ → Reader → Reader → Bool → Type 0
Taken x a b true = Took (x ∷ []) a b
Taken x a b false = (b ≡ a) × (first (left a) ≢ Some x)

abbrev pub Expected : ℕ → Reader → Reader → Result (Unit {0}) Fault → Type 0
Expected x a b (Ok v) = Took (x ∷ []) a b
Expected x a b (Err f) = (f ≡ Grammar a.pos) × (first (left a) ≢ Some x)

abbrev pub Digits : Reader → Reader → Result Quadrant Fault → Type 0
Digits a b (Ok d) = Took ((48 + digit d) ∷ []) a b
Digits a b (Err f) = (f ≡ Grammar a.pos) × ((o : List Prefix) (m : Option (Tree product)) (s : Option (Tree sum)) (c : Around) → Blocked (zooming o m s c) (left a))

abbrev pub opener : Opening → ℕ
opener At = 64
opener Bar = 124
opener Caret = 94
opener Round = 40
opener Square = 91

-- the opening whose byte stands first, if one does
abbrev pub OpeningAt : List ℕ → Option Opening → Type 0
OpeningAt bs None = (o : Opening) → first bs ≢ Some (opener o)
OpeningAt bs (Some o) = first bs ≡ Some (opener o)

abbrev pub gain : Cat → ℕ
gain sum = 1
gain product = 1
gain part = 1
gain (closed b) = 1
gain line = 0
gain script = 0

-- a tree was read, from a to b, with l parts around it that are not plain places
pub record Got (c : Cat) (l : ℕ) (a b : Reader) : Type 0 where
  pub tree : Tree c
  pub did : Did (text tree) (steps tree a.pos) a b
  pub waits : b.waiting ≡ a.waiting + gain c
  pub fine : Within (counted tree l a.waiting)

-- what cannot follow a tree that was read whole
abbrev pub Ends : Cat → Option ℕ → Type 0
Ends sum o = (o ≢ Some 42) × (o ≢ Some 43)
Ends product o = o ≡ Some 42 → ⊥
Ends part o = Unit {0}
Ends (closed b) o = Unit {0}
Ends line o = Unit {0}
Ends script o = Unit {0}

-- the codes of bytes
abbrev pub codes : List Byte → List ℕ
codes ms = map (λ m. m.code) ms

-- why reading a tree of category c ends before `rest`: xs was read of it, and the byte m could follow
abbrev pub Because : Cat → List ℕ → Byte → List ℕ → Fault → Type 0
Because c xs m rest TooLong = ⊥
Because c xs m rest (Grammar i) = (σ : State) → Opens c σ → Blocked (run σ xs) rest
Because c xs m rest (Level i) = (first rest ≡ Some m.code) × (m.level ≡ max_level + 1)
Because c xs m rest (Waiting i) = (first rest ≡ Some m.code) × (m.waiting ≡ max_waiting + 1)

abbrev pub byte_of : Fault → ℕ
byte_of TooLong = 0
byte_of (Grammar i) = i
byte_of (Level i) = i
byte_of (Waiting i) = i

-- reading a tree was refused: some tree begins with the bytes read so far, none of which exceeds a limit
pub record Lost (c : Cat) (l : ℕ) (a : Reader) (f : Fault) : Type 0 where
  pub tree : Tree c
  pub before : List Byte
  pub here : Byte
  pub after : List Byte
  pub is : counted tree l a.waiting ≡ before ++ here ∷ after
  pub split : left a ≡ codes before ++ drop (byte_of f) a.src.now
  pub at : byte_of f ≡ a.pos + length before
  pub inside : byte_of f ≤ length a.src.now
  pub fine : Within before
  pub why : Because c (codes before) here (drop (byte_of f) a.src.now) f

abbrev pub Reads : Cat → ℕ → Reader → Reader → Result (Unit {0}) Fault → Type 0
Reads c l a b (Ok x) = Got c l a b × Ends c (first (left b))
Reads c l a b (Err f) = Lost c l a f

-- the byte that opens a part that is not a plain place
abbrev pub Opened : ℕ → Reader → Reader → Result Opening Fault → Type 0
Opened l a b (Ok o) = Took (opener o ∷ []) a b × (l < max_level)
Opened l a b (Err f) = Lost part l a f

abbrev pub Begun : Reader → Reader → Start → Type 0
Begun a b (Ahead s) = (x : Prefix) × (step_of x ≡ s) × Took (spelled x) a b
Begun a b Bracket = Took (40 ∷ []) a b
Begun a b Pieces = Took (91 ∷ []) a b

abbrev pub Starts : ℕ → Reader → Reader → Result Start Fault → Type 0
Starts l a b (Ok o) = Begun a b o × (l < max_level)
Starts l a b (Err f) = Lost part l a f

-- the whole script was read
abbrev pub Whole : Reader → Reader → Result (Unit {0}) Fault → Type 0
Whole a b (Ok x) = Got script 0 a b × (left b ≡ [])
Whole a b (Err f) = Lost script 0 a f
