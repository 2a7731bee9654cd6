-- A body as words of 32 bits.
use Rattle.std.specs.Prelude.{◌≡◌, ℕ, ◌+◌, ◌*◌, ◌<◌, ◌≤◌, List, ◌∷◌, ◌++◌, length}
use Rattle.std.specs.List.{zip, flat_map}
use Rattle.weight.specs.Words.{Writing}
use Rattle.picture.specs.Bodies.{Body, Edge, Sound}
use Rattle.picture.specs.Quadrants.{digit}
use Rattle.picture.specs.declared.body.Arc.{Arc}

-- the head word of n states and m arcs: tag 1, the kind's code and width, and both counts, at the bits that Layout names
abbrev pub head_word : {W : Type 0} → Writing W → ℕ → ℕ → ℕ
head_word s n m = 0x1000_0000 + s.code * 0x100_0000 + s.width * 0x10_0000 + n * 0x1000 + m

-- an arc word: tag 2, the digit, and both ends
abbrev pub arc_word : Arc → ℕ
arc_word a = 0x2000_0000 + digit a.quadrant * 0x400_0000 + a.from * 0x100 + a.to

-- of a state the words of its first weight, then those of its last weight
abbrev pub state_words : {W : Type 0} → Writing W → W × W → List ℕ
state_words s p = s.words p.0 ++ s.words p.1

-- of an arc its arc word, then the words of its weight
abbrev pub edge_words : {W : Type 0} → Writing W → Edge W → List ℕ
edge_words s e = arc_word e.0 ∷ s.words e.1

-- of a body the head word, then the states in order, then the arcs in order
abbrev pub words_of : {W : Type 0} → Writing W → Body W → List ℕ
words_of s b = head_word s b.states (length b.arcs) ∷ (flat_map (state_words s) (zip b.first b.last) ++ flat_map (edge_words s) b.arcs)

-- how many words stand behind a head word
abbrev pub size : {W : Type 0} → Writing W → ℕ → ℕ → ℕ
size s n m = n * (2 * s.width) + m * (1 + s.width)

-- at most 64 states and 512 arcs, and all arcs between states
pub record Limited {W : Type 0} (b : Body W) : Type 0 where
  pub few_states : b.states ≤ 64
  pub few_arcs : length b.arcs ≤ 512
  pub sound : Sound b

-- these are the words of a body within the limits, in a kind that is not too wide
pub record SpellsBody {W : Type 0} (s : Writing W) (b : Body W) (given : List ℕ) : Type 0 where
  pub narrow : s.width < 9
  pub limited : Limited b
  pub spelled : words_of s b ≡ given
