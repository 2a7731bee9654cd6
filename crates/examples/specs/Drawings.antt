-- Two grey bodies, and the cells that a grey body shows.
use Rattle.std.specs.Prelude.{ℕ, List, [], ◌∷◌, ◌++◌, map}
use Rattle.std.specs.List.{flat_map}
use Rattle.weight.specs.Grey.{grey, grey_kind}
use Rattle.weight.specs.declared.grey.Grey.{Grey}
use Rattle.picture.specs.Bodies.{Body, Edge}
use Rattle.picture.specs.BodyOperations.{arc_from}
use Rattle.picture.specs.Cells.{tile}
use Rattle.picture.specs.Pictures.{picture}
use Rattle.picture.specs.declared.quadrant.Quadrant.{Quadrant}
use Rattle.picture.specs.declared.quadrant.Quadrant.TheVariants.{UpperLeft, UpperRight, LowerLeft, LowerRight}

-- an arc with its weight
abbrev edge : ℕ → ℕ → Quadrant → ℕ → Edge Grey
edge p q d w = (arc_from p q d, grey w)

abbrev every : List Quadrant
every = UpperLeft ∷ UpperRight ∷ LowerLeft ∷ LowerRight ∷ []

-- loops of 1 at the first state and of 2 at the second, and an arc of 1 between them for the quadrants on the right
abbrev pub ramp : Body Grey
ramp = record {
  states = 2;
  first = grey 1 ∷ grey 0 ∷ [];
  last = grey 0 ∷ grey 1 ∷ [];
  arcs = flat_map (λ d. edge 0 0 d 1 ∷ edge 1 1 d 2 ∷ []) every ++ (edge 0 1 UpperRight 1 ∷ edge 0 1 LowerRight 1 ∷ []);
}

-- 7 everywhere
abbrev pub flat : Body Grey
flat = record { states = 1; first = grey 7 ∷ []; last = grey 1 ∷ []; arcs = map (λ d. edge 0 0 d 1) every }

-- the numbers of all cells at a depth, row by row
abbrev pub cells : ℕ → Body Grey → List ℕ
cells depth b = map (λ w. (picture grey_kind b w).level) (tile depth 0 0)
