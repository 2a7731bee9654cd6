-- What reading a script answers, in terms of the trees of the grammar alone.
use Rattle.std.specs.Prelude.{◌≡◌, ℕ, ◌+◌, ◌<◌, ◌≤◌, List, ◌++◌, length, take, Ok, Err, Result, ◌≢◌, slice_index_or}
use Rattle.recipe.specs.declared.fault.Fault.{Fault}
use Rattle.recipe.specs.declared.fault.Fault.TheVariants.{TooLong, Grammar, Level, Waiting}
use Rattle.recipe.specs.declared.step.Recipe.{Recipe}
use Rattle.recipe.specs.Trees.{script, Tree, text}
use Rattle.recipe.specs.Steps.{steps, listed}
use Rattle.recipe.specs.Limits.{max_bytes, max_level, max_waiting, Byte, plain, counted, Within}

-- the text of t begins with the first i bytes of src
abbrev pub Begins : Tree script → List ℕ → ℕ → Type 0
Begins t src i = (rest : List ℕ) × (text t ≡ take i src ++ rest)

-- no limit is exceeded at the first i bytes of t
abbrev pub WithinTo : Tree script → ℕ → Type 0
WithinTo t i = Within (take i (counted t 0 0))

-- byte i of t
abbrev pub byte_at : Tree script → ℕ → Byte
byte_at t i = slice_index_or (counted t 0 0) i (plain 0)

-- src is the text of t, and within both limits
pub record Spells (t : Tree script) (src : List ℕ) : Type 0 where
  pub is : text t ≡ src
  pub within : Within (counted t 0 0)

-- Some script begins with the first i bytes of src, within the limits, and none goes on with byte i, or ends there if
-- i is the length.
pub record Ungrammatical (src : List ℕ) (i : ℕ) : Type 0 where
  pub inside : i ≤ length src
  pub tree : Tree script
  pub begins : Begins tree src i
  pub within : WithinTo tree i
  pub no_byte : i < length src → (t : Tree script) → Begins t src (i + 1) → ⊥
  pub no_end : i ≡ length src → (t : Tree script) → text t ≢ src

-- In some script that begins with the bytes of src up to byte i, a part begins at i whose level is one too high, and no
-- limit is exceeded before.
pub record TooDeep (src : List ℕ) (i : ℕ) : Type 0 where
  pub inside : i < length src
  pub tree : Tree script
  pub begins : Begins tree src (i + 1)
  pub within : WithinTo tree i
  pub level : (byte_at tree i).level ≡ max_level + 1

-- In some script that begins with the bytes of src up to byte i, the place at i is one waiting picture too many, and no
-- limit is exceeded before.
pub record TooMany (src : List ℕ) (i : ℕ) : Type 0 where
  pub inside : i < length src
  pub tree : Tree script
  pub begins : Begins tree src (i + 1)
  pub within : WithinTo tree i
  pub waiting : (byte_at tree i).waiting ≡ max_waiting + 1

-- src is refused with this fault
abbrev pub Refused : List ℕ → Fault → Type 0
Refused src TooLong = max_bytes < length src
Refused src (Grammar i) = (length src ≤ max_bytes) × Ungrammatical src i
Refused src (Level i) = (length src ≤ max_bytes) × TooDeep src i
Refused src (Waiting i) = (length src ≤ max_bytes) × TooMany src i

-- src is the text of a script within the limits, and r has its steps
pub record Accepted (src : List ℕ) (r : Recipe) : Type 0 where
  pub short : length src ≤ max_bytes
  pub tree : Tree script
  pub spells : Spells tree src
  pub are : listed r ≡ steps tree 0

-- the answer for src: its steps, or the fault
abbrev pub Outcome : List ℕ → Result Recipe Fault → Type 0
Outcome src (Ok r) = Accepted src r
Outcome src (Err f) = Refused src f
