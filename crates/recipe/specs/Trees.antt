-- The grammar of scripts as trees, and the text of a tree.
use Rattle.std.specs.Prelude.{ℕ, ◌+◌, List, [], ◌∷◌, ◌++◌}
use Rattle.picture.specs.declared.quadrant.Quadrant.{Quadrant}
use Rattle.picture.specs.Quadrants.{digit}
use Rattle.recipe.specs.declared.place.Place.{Place}
use Rattle.recipe.specs.Places.{letter}

-- the categories of the grammar; `closed b` is a sum with the byte b behind it
pub data Cat : Type 0 where
  sum : Cat
  product : Cat
  part : Cat
  closed : ℕ → Cat
  line : Cat
  script : Cat

-- what may stand in front of a part: '@', '|', or '^' and a digit
pub data Prefix : Type 0 where
  turn : Prefix
  mirror : Prefix
  zoom : Quadrant → Prefix

-- Sums and products lean to the left. `round` is a sum in round brackets, `pieces` four sums in square ones.
pub data Tree : Cat → Type 0 where
  one : Tree product → Tree sum
  plus : Tree sum → Tree product → Tree sum
  single : Tree part → Tree product
  times : Tree product → Tree part → Tree product
  name : Place → Tree part
  prefixed : Prefix → Tree part → Tree part
  round : Tree (closed 41) → Tree part
  pieces : Tree (closed 44) → Tree (closed 44) → Tree (closed 44) → Tree (closed 93) → Tree part
  closes : (b : ℕ) → Tree sum → Tree (closed b)
  row : Place → Tree (closed 10) → Tree line
  blank : Tree script
  next : Tree script → Tree line → Tree script

-- the bytes of a prefix: '@' is 64, '|' 124, '^' 94 and '0' 48
abbrev pub spelled : Prefix → List ℕ
spelled turn = 64 ∷ []
spelled mirror = 124 ∷ []
spelled (zoom d) = 94 ∷ (48 + digit d) ∷ []

-- the bytes of a tree: '+' is 43, '*' 42, '(' 40, ')' 41, '[' 91, ',' 44, ']' 93 and '=' 61
abbrev pub text : {c : Cat} → Tree c → List ℕ
text (one p) = text p
text (plus s p) = text s ++ 43 ∷ text p
text (single p) = text p
text (times q p) = text q ++ 42 ∷ text p
text (name k) = letter k ∷ []
text (prefixed o p) = spelled o ++ text p
text (round s) = 40 ∷ text s
text (pieces x y z u) = 91 ∷ text x ++ (text y ++ (text z ++ text u))
text (closes b s) = text s ++ b ∷ []
text (row k s) = letter k ∷ 61 ∷ text s
text blank = []
text (next s r) = text s ++ text r
