-- A script with its round brackets forgotten: lines, each a target and the expression on its right side.
use Rattle.std.specs.Prelude.{ℕ, ◌+◌, List, [], ◌∷◌, ◌++◌, length}
use Rattle.picture.specs.declared.quadrant.Quadrant.{Quadrant}
use Rattle.recipe.specs.declared.place.Place.{Place}
use Rattle.recipe.specs.Trees.{Cat, sum, product, part, closed, line, script, Prefix, turn, mirror, zoom, Tree, one, plus, single, times, name, prefixed, round, pieces, closes, row, blank, next, spelled, text}

-- A right side. A sum, a product and a piecing have the byte index of their '+', '*' and ']'.
pub data Expression : Type 0 where
  Named : Place → Expression
  Turned : Expression → Expression
  Mirrored : Expression → Expression
  Zoomed : Quadrant → Expression → Expression
  Sum : ℕ → Expression → Expression → Expression
  Product : ℕ → Expression → Expression → Expression
  Pieced : ℕ → Expression → Expression → Expression → Expression → Expression

-- a line: the place that it stores to, and its right side
pub record Line : Type 0 where
  pub target : Place
  pub right : Expression

-- the expression of a part behind a prefix
abbrev pub under : Prefix → Expression → Expression
under turn f = Turned f
under mirror f = Mirrored f
under (zoom d) f = Zoomed d f

-- what a tree of each category is without its round brackets
abbrev pub Unbracketed : Cat → Type 0
Unbracketed sum = Expression
Unbracketed product = Expression
Unbracketed part = Expression
Unbracketed (closed b) = Expression
Unbracketed line = Line
Unbracketed script = List Line

-- a tree whose first byte is byte i of the script, without its round brackets
abbrev pub unbracketed : {c : Cat} → Tree c → ℕ → Unbracketed c
unbracketed (one p) i = unbracketed p i
unbracketed (plus s p) i = Sum (i + length (text s)) (unbracketed s i) (unbracketed p (i + length (text s) + 1))
unbracketed (single p) i = unbracketed p i
unbracketed (times q p) i = Product (i + length (text q)) (unbracketed q i) (unbracketed p (i + length (text q) + 1))
unbracketed (name k) i = Named k
unbracketed (prefixed o p) i = under o (unbracketed p (i + length (spelled o)))
unbracketed (round s) i = unbracketed s (i + 1)
unbracketed (pieces x y z u) i =
    Pieced (i + length (text x) + length (text y) + length (text z) + length (text u))
    (unbracketed x (i + 1))
    (unbracketed y (i + 1 + length (text x)))
    (unbracketed z (i + 1 + length (text x) + length (text y)))
    (unbracketed u (i + 1 + length (text x) + length (text y) + length (text z)))
unbracketed (closes b s) i = unbracketed s i
unbracketed (row k s) i = record { target = k; right = unbracketed s (i + 2) }
unbracketed blank i = []
unbracketed (next s r) i = unbracketed s i ++ unbracketed r (i + length (text s)) ∷ []

-- the lines of a script
abbrev pub lines : Tree script → List Line
lines t = unbracketed t 0
