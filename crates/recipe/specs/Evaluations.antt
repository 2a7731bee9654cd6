-- The value of an expression, and steps carried out on waiting values: both over any operations.
use Rattle.std.specs.Prelude.{ℕ, suc, cond, List, [], ◌∷◌, drop, Some, None, Ok, Err, Option, Result, ◌==◌, slice_index_or}
use Rattle.picture.specs.declared.quadrant.Quadrant.{Quadrant}
use Rattle.recipe.specs.declared.place.Place.{Place}
use Rattle.recipe.specs.declared.step.Step.{Step}
use Rattle.recipe.specs.declared.step.Step.TheVariants.{Name, Turn, Mirror, Zoom, Add, Multiply, Piece, Store}
use Rattle.recipe.specs.Places.{number}
use Rattle.recipe.specs.Expressions.{Expression, Named, Turned, Mirrored, Zoomed, Sum, Product, Pieced, Line}

-- Operations on values. Those that have a byte index may be refused. `nothing` stands in for a value that does not
-- wait, which the steps of a script never take.
pub record Operations (V E : Type 0) : Type 0 where
  pub nothing : V
  pub turn : V → V
  pub mirror : V → V
  pub zoom : Quadrant → V → V
  pub add : ℕ → V → V → Result V E
  pub multiply : ℕ → V → V → Result V E
  pub piece : ℕ → V → V → V → V → Result V E

-- go on from a value, or from a refusal
abbrev pub either : {X E Y : Type 0} → Result X E → (X → Y) → (E → Y) → Y
either (Ok x) f g = f x
either (Err e) f g = g e

-- go on from a value, and keep a refusal
abbrev pub then : {X Y E : Type 0} → Result X E → (X → Result Y E) → Result Y E
then r f = either r f Err

-- what stands at each place once v stands at p
abbrev pub put : {V : Type 0} → Place → V → (Place → V) → Place → V
put p v at q = cond (number q == number p) v (at q)

-- the value of an expression, from the values of the places; operands from the left, the first refusal ends it
abbrev pub value : {V E : Type 0} → Operations V E → (Place → V) → Expression → Result V E
value o at (Named p) = Ok (at p)
value o at (Turned f) = then (value o at f) (λ x. Ok (o.turn x))
value o at (Mirrored f) = then (value o at f) (λ x. Ok (o.mirror x))
value o at (Zoomed d f) = then (value o at f) (λ x. Ok (o.zoom d x))
value o at (Sum i f g) = then (value o at f) (λ x. then (value o at g) (λ y. o.add i x y))
value o at (Product i f g) = then (value o at f) (λ x. then (value o at g) (λ y. o.multiply i x y))
value o at (Pieced i f g h k) =
    then (value o at f) (λ x. then (value o at g) (λ y. then (value o at h) (λ z. then (value o at k) (λ u. o.piece i x y z u))))

-- the values of the places after a script, how many lines were done, and why the next was refused
pub record Ran (V E : Type 0) : Type 0 where
  pub after : Place → V
  pub done : ℕ
  pub stop : Option E

-- one line more was done
abbrev pub one_more : {V E : Type 0} → Ran V E → Ran V E
one_more r = record { after = r.after; done = suc r.done; stop = r.stop }

-- the next line is refused
abbrev pub stops : {V E : Type 0} → (Place → V) → E → Ran V E
stops at e = record { after = at; done = 0; stop = Some e }

-- line by line, each from the places as it starts, up to one that is refused
abbrev pub run_lines : {V E : Type 0} → Operations V E → List Line → (Place → V) → Ran V E
run_lines o [] at = record { after = at; done = 0; stop = None }
run_lines o (l ∷ ls) at = either (value o at l.right) (λ v. one_more (run_lines o ls (put l.target v at))) (stops at)

-- the value that waits at i, the latest at 0
abbrev pub waiting : {V E : Type 0} → Operations V E → List V → ℕ → V
waiting o ws i = slice_index_or ws i o.nothing

-- step by step: a name adds a waiting value, an operation makes one of some, `Store` takes the latest
abbrev pub carry : {V E : Type 0} → Operations V E → List Step → List V → (Place → V) → Ran V E
carry o [] ws at = record { after = at; done = 0; stop = None }
carry o (Name p ∷ ss) ws at = carry o ss (at p ∷ ws) at
carry o (Turn ∷ ss) ws at = carry o ss (o.turn (waiting o ws 0) ∷ drop 1 ws) at
carry o (Mirror ∷ ss) ws at = carry o ss (o.mirror (waiting o ws 0) ∷ drop 1 ws) at
carry o (Zoom d ∷ ss) ws at = carry o ss (o.zoom d (waiting o ws 0) ∷ drop 1 ws) at
carry o (Add i ∷ ss) ws at = either (o.add i (waiting o ws 1) (waiting o ws 0)) (λ v. carry o ss (v ∷ drop 2 ws) at) (stops at)
carry o (Multiply i ∷ ss) ws at =
    either (o.multiply i (waiting o ws 1) (waiting o ws 0)) (λ v. carry o ss (v ∷ drop 2 ws) at) (stops at)
carry o (Piece i ∷ ss) ws at =
    either (o.piece i (waiting o ws 3) (waiting o ws 2) (waiting o ws 1) (waiting o ws 0)) (λ v. carry o ss (v ∷ drop 4 ws) at) (stops at)
carry o (Store p ∷ ss) ws at = one_more (carry o ss (drop 1 ws) (put p (waiting o ws 0) at))
