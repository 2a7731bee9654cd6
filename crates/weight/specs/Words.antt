-- Weights as words of 32 bits.
use Rattle.std.specs.Prelude.{◌≡◌, ◌≢◌, ℕ, ◌+◌, ◌/◌, ◌%◌, ◌^◌, ◌<◌, ◌≤◌, List, [], ◌∷◌, length, Option, MatchOption}
use Rattle.std.specs.List.{AllByRecursion}

-- how a kind is written: its code, how many words a value has, and the words of a value
pub record Writing (W : Type 0) : Type 0 where
  pub code : ℕ
  pub width : ℕ
  pub words : W → List ℕ

-- tag 3 in bits 31 to 28, zero in bits 27 to 24, a payload in bits 23 to 0
abbrev pub WeightWord : ℕ → Type 0
WeightWord w = (w / 2 ^ 28 ≡ 3) × (w / 2 ^ 24 % 2 ^ 4 ≡ 0)

-- the weight word with a payload below 2^24
abbrev pub weight_word : ℕ → ℕ
weight_word payload = 0x3000_0000 + payload

-- each value in one word, by its payload
abbrev pub single_word : {W : Type 0} → ℕ → (W → ℕ) → Writing W
single_word code payload = record { code = code; width = 1; words = λ v. weight_word (payload v) ∷ [] }

-- What every written kind owes. Width 9 says that a value is too wide to be written.
pub record WordLaws {W : Type 0} (s : Writing W) : Type 0 where
  pub code_from : 1 ≤ s.code
  pub code_to : s.code ≤ 15
  pub width_from : 1 ≤ s.width
  pub width_to : s.width ≤ 9
  pub count : s.width < 9 → (v : W) → length (s.words v) ≡ s.width
  pub unique : s.width < 9 → (v w : W) → s.words v ≡ s.words w → v ≡ w
  pub tagged : s.width < 9 → (v : W) → AllByRecursion WeightWord (s.words v)

-- these are the words of v, in a kind that is not too wide
abbrev pub Spells : {W : Type 0} → Writing W → W → List ℕ → Type 0
Spells s v given = (s.width < 9) × (s.words v ≡ given)

-- reading gives the value that has the words, and nothing exactly if no value has them
abbrev pub ReadFrom : {W : Type 0} → Writing W → List ℕ → Option W → Type 0
ReadFrom {W} s given r = MatchOption r ((v : W) → Spells s v given → ⊥) (λ v. Spells s v given)

-- what a kind owes whose values have one word each
pub record PayloadLaws {W : Type 0} (code : ℕ) (payload : W → ℕ) : Type 0 where
  pub code_from : 1 ≤ code
  pub code_to : code ≤ 15
  pub fits : (v : W) → payload v < 2 ^ 24
  pub same : (v w : W) → payload v ≡ payload w → v ≡ w

-- the value with a payload, and nothing exactly if no value has it
abbrev pub WithPayload : {W : Type 0} → (W → ℕ) → ℕ → Option W → Type 0
WithPayload {W} payload n r = MatchOption r ((v : W) → payload v ≢ n) (λ v. payload v ≡ n)
