-- The bits of head words and arc words.
use Rattle.std.specs.Prelude.{◌≡◌, ℕ, ◌/◌, ◌%◌, ◌^◌, ◌<◌, ◌≤◌}
use Rattle.weight.specs.Words.{Writing}
use Rattle.picture.specs.Bodies.{Within}
use Rattle.picture.specs.Quadrants.{digit}
use Rattle.picture.specs.declared.body.Arc.{Arc}
use Rattle.words.specs.Format.{head_word, arc_word}

-- the `count` bits of a word from bit `low` on
abbrev pub bits : ℕ → ℕ → ℕ → ℕ
bits low count w = w / 2 ^ low % 2 ^ count

-- the fields of a head word
pub record HeadBits {W : Type 0} (s : Writing W) (n m w : ℕ) : Type 0 where
  pub tag : bits 28 4 w ≡ 1
  pub code : bits 24 4 w ≡ s.code
  pub width : bits 20 4 w ≡ s.width
  pub spare : bits 19 1 w ≡ 0
  pub states : bits 12 7 w ≡ n
  pub arcs : bits 0 12 w ≡ m

-- the fields of an arc word
pub record ArcBits (a : Arc) (w : ℕ) : Type 0 where
  pub tag : bits 28 4 w ≡ 2
  pub quadrant : bits 26 2 w ≡ digit a.quadrant
  pub spare : bits 16 10 w ≡ 0
  pub from : bits 8 8 w ≡ a.from
  pub to : bits 0 8 w ≡ a.to

-- a word of 32 bits is the head word of counts within the limits exactly if its fields are theirs
abbrev pub HeadLayout : {W : Type 0} → Writing W → Type 0
HeadLayout s = (n m w : ℕ) → n ≤ 64 → m ≤ 512 → w < 2 ^ 32 → (w ≡ head_word s n m → HeadBits s n m w) × (HeadBits s n m w → w ≡ head_word s n m)

-- a word of 32 bits is the word of an arc between states exactly if its fields are the arc's
abbrev pub ArcLayout : Type 0
ArcLayout = (n : ℕ) (a : Arc) (w : ℕ) → n ≤ 64 → Within n a → w < 2 ^ 32 → (w ≡ arc_word a → ArcBits a w) × (ArcBits a w → w ≡ arc_word a)
