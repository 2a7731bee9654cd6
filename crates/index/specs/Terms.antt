-- What one arc adds to a step.
use Rattle.std.specs.Prelude.{ℕ, List, slice_index_or}
use Rattle.std.specs.List.{zip}
use Rattle.weight.specs.Kinds.{Kind}
use Rattle.picture.specs.Bodies.{Edge}
use Rattle.picture.specs.declared.body.Arc.{Arc}
use Rattle.index.specs.Keys.{none}
use Rattle.index.specs.declared.arcs.Arcs.{Arcs}

-- the arcs with their weights
abbrev pub edges : {W : Type 0} → Arcs W → List (Edge W)
edges a = zip a.arcs.now a.weights.now

module _ {W : Type 0} (k : Kind W) where
  -- the arc at a place, with its weight
  abbrev pub edge_at : List Arc → List W → ℕ → Edge W
  edge_at arcs weights i = (slice_index_or arcs i none, slice_index_or weights i k.zero)

  -- the row at the source times the weight
  abbrev pub row_term : (ℕ → W) → Edge W → W
  row_term row e = k.times (row e.0.from) e.1

  -- the weight times the column at the target
  abbrev pub column_term : (ℕ → W) → Edge W → W
  column_term column e = k.times e.1 (column e.0.to)
