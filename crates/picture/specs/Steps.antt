-- Rows and columns, one arc after the other.
use Rattle.std.specs.Prelude.{ℕ, Bool, cond, ◌&&◌, List, [], ◌∷◌, map, ◌==◌, slice_index_or}
use Rattle.std.specs.List.{range_with_len}
use Rattle.weight.specs.Kinds.{Kind}
use Rattle.weight.specs.Sums.{total}
use Rattle.picture.specs.Bodies.{Edge}
use Rattle.picture.specs.Quadrants.{Address, same}
use Rattle.picture.specs.declared.quadrant.Quadrant.{Quadrant}

-- whether an arc reaches q, or leaves p, with digit d
abbrev pub reaches : {W : Type 0} → Quadrant → ℕ → Edge W → Bool
reaches d q e = q == e.0.to && same d e.0.quadrant

abbrev pub leaves : {W : Type 0} → Quadrant → ℕ → Edge W → Bool
leaves d p e = p == e.0.from && same d e.0.quadrant

module _ {W : Type 0} (k : Kind W) (arcs : List (Edge W)) where
  -- the sum, over the arcs in order, of row[p] times the weight, for arcs from p to q with digit d
  abbrev pub gathered : (ℕ → W) → Quadrant → ℕ → W
  gathered row d q = total k arcs (λ e. cond (reaches d q e) (k.times (row e.0.from) e.1) k.zero)

  -- the sum, over the arcs in order, of the weight times column[q], for arcs from p to q with digit d
  abbrev pub spread : (ℕ → W) → Quadrant → ℕ → W
  spread column d p = total k arcs (λ e. cond (leaves d p e) (k.times e.1 (column e.0.to)) k.zero)

  -- the column that the last column becomes along an address, from its end
  abbrev pub back : (ℕ → W) → Address → ℕ → W
  back column [] = column
  back column (d ∷ w) = spread (back column w) d

-- a row of weights as a function of the state
abbrev pub at_state : {W : Type 0} → Kind W → List W → ℕ → W
at_state k row q = slice_index_or row q k.zero

-- the whole row step, for n states
abbrev pub stepped : {W : Type 0} → Kind W → List (Edge W) → ℕ → List W → Quadrant → List W
stepped k arcs n row d = map (gathered k arcs (at_state k row) d) (range_with_len 0 n)

-- the whole column step, for n states
abbrev pub spreads : {W : Type 0} → Kind W → List (Edge W) → ℕ → List W → Quadrant → List W
spreads k arcs n column d = map (spread k arcs (at_state k column) d) (range_with_len 0 n)

-- a row taken along an address
abbrev pub carried : {W : Type 0} → Kind W → List (Edge W) → ℕ → Address → List W → List W
carried k arcs n [] row = row
carried k arcs n (d ∷ w) row = carried k arcs n w (stepped k arcs n row d)

-- the column that a column becomes along an address
abbrev pub backed : {W : Type 0} → Kind W → List (Edge W) → ℕ → Address → List W → List W
backed k arcs n [] column = column
backed k arcs n (d ∷ w) column = spreads k arcs n (backed k arcs n w column) d
