-- What holds of every body over a kind.
use Rattle.std.specs.Prelude.{◌≡◌, ℕ, ◌++◌}
use Rattle.std.specs.List.{range_with_len}
use Rattle.weight.specs.Kinds.{Kind}
use Rattle.weight.specs.Sums.{total}
use Rattle.picture.specs.Bodies.{Body, Sound}
use Rattle.picture.specs.Pictures.{entry, step, along, picture}
use Rattle.picture.specs.Quadrants.{Address}
use Rattle.picture.specs.Steps.{gathered, spread, back, at_state}
use Rattle.picture.specs.declared.quadrant.Quadrant.{Quadrant}

module _ {W : Type 0} (k : Kind W) where
  -- a row times the digit's matrix goes by the arcs
  abbrev pub RowsByArcs : Type 0
  RowsByArcs = (b : Body W) → Sound b → (row : ℕ → W) (d : Quadrant) (q : ℕ) → step k b row d q ≡ gathered k b.arcs row d q

  -- and so does the digit's matrix times a column
  abbrev pub ColumnsByArcs : Type 0
  ColumnsByArcs =
      (b : Body W) → Sound b → (column : ℕ → W) (d : Quadrant) (p : ℕ)
      → total k (range_with_len 0 b.states) (λ q. k.times (entry k b d p q) (column q)) ≡ spread k b.arcs column d p

  -- the value at u followed by v is the row that the first row becomes along u times the column that the last column becomes along v
  abbrev pub MeetInTheMiddle : Type 0
  MeetInTheMiddle =
      (b : Body W) → Sound b → (u v : Address)
      → picture k b (u ++ v) ≡ total k (range_with_len 0 b.states) (λ q. k.times (along k b (at_state k b.first) u q) (back k b.arcs (at_state k b.last) v q))
