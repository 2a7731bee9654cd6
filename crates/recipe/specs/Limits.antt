-- The limits of a script, and where each byte of a tree stands with respect to them.
use Rattle.std.specs.Prelude.{ℕ, ◌+◌, ◌≤◌, List, [], ◌∷◌, ◌++◌}
use Rattle.picture.specs.Quadrants.{digit}
use Rattle.recipe.specs.Places.{letter}
use Rattle.recipe.specs.Trees.{Cat, Prefix, turn, mirror, zoom, Tree, one, plus, single, times, name, prefixed, round, pieces, closes, row, blank, next}

-- the most bytes of a script
abbrev pub max_bytes : ℕ
max_bytes = 512

-- the highest level: a part that is not a plain place has level 1 plus the number of such parts around it
abbrev pub max_level : ℕ
max_level = 16

-- the most pictures that wait at once
abbrev pub max_waiting : ℕ
max_waiting = 6

-- A byte of a tree. Where it begins a part that is not a plain place, `level` is that part's level; where it is a
-- place on a right side, `waiting` is how many pictures wait once it is read; both are 0 elsewhere.
pub record Byte : Type 0 where
  pub code : ℕ
  pub level : ℕ
  pub waiting : ℕ

-- a byte that begins no such part and is no such place
abbrev pub plain : ℕ → Byte
plain b = record { code = b; level = 0; waiting = 0 }

-- a byte that begins a part of level l
abbrev pub opens : ℕ → ℕ → Byte
opens b l = record { code = b; level = l; waiting = 0 }

-- a place on a right side, with which w pictures wait
abbrev pub waits : ℕ → ℕ → Byte
waits b w = record { code = b; level = 0; waiting = w }

-- the bytes of a prefix whose part has level l
abbrev pub ahead : Prefix → ℕ → List Byte
ahead turn l = opens 64 l ∷ []
ahead mirror l = opens 124 l ∷ []
ahead (zoom d) l = opens 94 l ∷ plain (48 + digit d) ∷ []

-- The bytes of a tree, with l parts around it that are not plain places, and w pictures waiting before it. Once read,
-- a sum, a product or a part has added one waiting picture, and a line none.
abbrev pub counted : {c : Cat} → Tree c → ℕ → ℕ → List Byte
counted (one p) l w = counted p l w
counted (plus s p) l w = counted s l w ++ plain 43 ∷ counted p l (w + 1)
counted (single p) l w = counted p l w
counted (times q p) l w = counted q l w ++ plain 42 ∷ counted p l (w + 1)
counted (name k) l w = waits (letter k) (w + 1) ∷ []
counted (prefixed o p) l w = ahead o (l + 1) ++ counted p (l + 1) w
counted (round s) l w = opens 40 (l + 1) ∷ counted s (l + 1) w
counted (pieces x y z u) l w =
    opens 91 (l + 1) ∷ counted x (l + 1) w ++ (counted y (l + 1) (w + 1) ++ (counted z (l + 1) (w + 2) ++ counted u (l + 1) (w + 3)))
counted (closes b s) l w = counted s l w ++ plain b ∷ []
counted (row k s) l w = plain (letter k) ∷ plain 61 ∷ counted s l w
counted blank l w = []
counted (next s r) l w = counted s l w ++ counted r l w

-- none of these bytes exceeds a limit
abbrev pub Within : List Byte → Type 0
Within [] = Unit {0}
Within (m ∷ ms) = (m.level ≤ max_level) × (m.waiting ≤ max_waiting) × Within ms
