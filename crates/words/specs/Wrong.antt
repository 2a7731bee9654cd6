-- The first wrong word behind a head.
use Rattle.std.specs.Prelude.{◌≡◌, ℕ, zero, suc, ◌+◌, ◌⊎◌, List, [], ◌∷◌, ◌++◌, ◌≢◌}
use Rattle.weight.specs.Words.{Writing}
use Rattle.picture.specs.Bodies.{Within}
use Rattle.picture.specs.declared.body.Arc.{Arc}
use Rattle.words.specs.Format.{arc_word}
use Rattle.words.specs.declared.fault.PieceFault.{PieceFault}
use Rattle.words.specs.declared.fault.PieceFault.TheVariants.{WrongArc, WrongWeight}

-- what stands behind a head: weights, and arcs without their weights
pub data Piece : Type 0 where
  a_weight : Piece
  an_arc : Piece

-- the pieces that n states have
abbrev pub state_pieces : ℕ → List Piece
state_pieces zero = []
state_pieces (suc n) = a_weight ∷ a_weight ∷ state_pieces n

-- the pieces that m arcs have
abbrev pub arc_pieces : ℕ → List Piece
arc_pieces zero = []
arc_pieces (suc m) = an_arc ∷ a_weight ∷ arc_pieces m

-- the fault of an arc word, or of a weight, at an index
abbrev pub arc_fault : ℕ → PieceFault
arc_fault i = WrongArc (record { word = record { index = i } })

abbrev pub weight_fault : ℕ → PieceFault
weight_fault i = WrongWeight (record { word = record { index = i } })

-- the words of no weight begin these words
abbrev pub NoWeight : {W : Type 0} → Writing W → List ℕ → Type 0
NoWeight {W} s given = (v : W) (rest : List ℕ) → given ≢ s.words v ++ rest

-- the word of no arc between states below n begins these words
abbrev pub NoArc : ℕ → List ℕ → Type 0
NoArc n given = (a : Arc) (rest : List ℕ) → Within n a → given ≢ arc_word a ∷ rest

-- Of words from index i on, in which these pieces are due in a body of n states, the first wrong piece is where the fault says:
-- the first piece is wrong, or it is right and the first wrong piece is behind it.
abbrev pub FirstWrong : {W : Type 0} → Writing W → ℕ → List Piece → List ℕ → ℕ → PieceFault → Type 0
FirstWrong s n [] given i f = ⊥
FirstWrong {W} s n (a_weight ∷ due) given i f =
    ((f ≡ weight_fault i) × NoWeight s given)
    ⊎ ((v : W) × (rest : List ℕ) × (given ≡ s.words v ++ rest) × FirstWrong s n due rest (i + s.width) f)
FirstWrong s n (an_arc ∷ due) given i f =
    ((f ≡ arc_fault i) × NoArc n given)
    ⊎ ((a : Arc) × (rest : List ℕ) × Within n a × (given ≡ arc_word a ∷ rest) × FirstWrong s n due rest (i + 1) f)
