-- The picture of a body, after Culik and Kari.
use Rattle.std.specs.Prelude.{ℕ, Bool, cond, ◌&&◌, [], ◌∷◌, get_or, ◌==◌, slice_index_or}
use Rattle.std.specs.List.{range_with_len}
use Rattle.weight.specs.Kinds.{Kind}
use Rattle.weight.specs.Sums.{total}
use Rattle.picture.specs.Bodies.{Body, Edge}
use Rattle.picture.specs.Quadrants.{Address, same}
use Rattle.picture.specs.declared.quadrant.Quadrant.{Quadrant}

-- a picture gives one weight for each address
abbrev pub Picture : Type 0 → Type 0
Picture W = Address → W

-- whether an arc goes from p to q with digit d
abbrev pub goes : {W : Type 0} → Quadrant → ℕ → ℕ → Edge W → Bool
goes d p q e = p == e.0.from && (q == e.0.to && same d e.0.quadrant)

module _ {W : Type 0} (k : Kind W) (b : Body W) where
  -- W_d[p][q]: the sum of the weights of all arcs from p to q with digit d
  abbrev pub entry : Quadrant → ℕ → ℕ → W
  entry d p q = total k b.arcs (λ e. cond (goes d p q e) e.1 k.zero)

  -- a row times W_d
  abbrev pub step : (ℕ → W) → Quadrant → ℕ → W
  step row d q = total k (range_with_len 0 b.states) (λ p. k.times (row p) (entry d p q))

  -- a row times W_d1 · … · W_dk
  abbrev pub along : (ℕ → W) → Address → ℕ → W
  along row [] = row
  along row (d ∷ w) = along (step row d) w

  -- a row times W_d1 · … · W_dk times the last column
  abbrev pub value : (ℕ → W) → Address → W
  value row w = total k (range_with_len 0 b.states) (λ q. k.times (along row w q) (slice_index_or b.last q k.zero))

  -- the first row times W_d1 · … · W_dk times the last column
  abbrev pub picture : Picture W
  picture w = value (λ q. get_or b.first q k.zero) w
