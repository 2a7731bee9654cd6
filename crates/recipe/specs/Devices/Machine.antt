-- A device of the proofs, which no public contract cites: a state for each text that some script begins with.
use Rattle.std.specs.Prelude.{◌≡◌, ℕ, ◌-◌, cond, List, [], ◌∷◌, Some, None, Option, ◌==◌, ◌≢◌, nat_le}
use Rattle.picture.specs.declared.quadrant.Quadrant.{Quadrant}
use Rattle.picture.specs.Quadrants.{quadrant}
use Rattle.recipe.specs.declared.place.Place.{Place}
use Rattle.recipe.specs.Places.{place}
use Rattle.recipe.specs.Trees.{Cat, sum, product, part, closed, line, script, Prefix, turn, mirror, zoom, Tree, one, plus, single, times, name, prefixed, round, pieces, closes, row, blank, next}

-- the place that a byte names, and the quadrant whose digit it is
abbrev pub name_of : ℕ → Option Place
name_of b = cond (nat_le 65 b) (place (b - 65)) None

abbrev pub digit_of : ℕ → Option Quadrant
digit_of b = cond (nat_le 48 b) (quadrant (b - 48)) None

abbrev pub whether : {X Y : Type 0} → Option X → (X → Y) → Y → Y
whether (Some x) f y = f x
whether None f y = y

-- what stands around a sum that is being read
pub data Around : Type 0 where
  in_line : Tree script → Place → Around
  in_round : List Prefix → Option (Tree product) → Option (Tree sum) → Around → Around
  in_first : List Prefix → Option (Tree product) → Option (Tree sum) → Around → Around
  in_second : Tree (closed 44) → List Prefix → Option (Tree product) → Option (Tree sum) → Around → Around
  in_third : Tree (closed 44) → Tree (closed 44) → List Prefix → Option (Tree product) → Option (Tree sum) → Around → Around
  in_fourth : Tree (closed 44) → Tree (closed 44) → Tree (closed 44) → List Prefix → Option (Tree product) → Option (Tree sum) → Around → Around

pub data State : Type 0 where
  begin : Tree script → State
  named : Tree script → Place → State
  want : List Prefix → Option (Tree product) → Option (Tree sum) → Around → State
  zooming : List Prefix → Option (Tree product) → Option (Tree sum) → Around → State
  done : Tree product → Option (Tree sum) → Around → State
  dead : State

abbrev pub join : Option (Tree sum) → Tree product → Tree sum
join None p = one p
join (Some s) p = plus s p

abbrev pub mul : Option (Tree product) → Tree part → Tree product
mul None p = single p
mul (Some q) p = times q p

abbrev pub wrap : List Prefix → Tree part → Tree part
wrap [] p = p
wrap (o ∷ os) p = wrap os (prefixed o p)

abbrev pub closer : Around → ℕ
closer (in_line s k) = 10
closer (in_round o m s c) = 41
closer (in_first o m s c) = 44
closer (in_second x o m s c) = 44
closer (in_third x y o m s c) = 44
closer (in_fourth x y z o m s c) = 93

-- the state once the sum inside is closed
abbrev pub shut : Around → Tree sum → State
shut (in_line s k) t = begin (next s (row k (closes 10 t)))
shut (in_round o m s c) t = done (mul m (wrap o (round (closes 41 t)))) s c
shut (in_first o m s c) t = want [] None None (in_second (closes 44 t) o m s c)
shut (in_second x o m s c) t = want [] None None (in_third x (closes 44 t) o m s c)
shut (in_third x y o m s c) t = want [] None None (in_fourth x y (closes 44 t) o m s c)
shut (in_fourth x y z o m s c) t = done (mul m (wrap o (pieces x y z (closes 93 t)))) s c

abbrev pub delta : State → ℕ → State
delta (begin s) b = whether (name_of b) (named s) dead
delta (named s k) b = cond (b == 61) (want [] None None (in_line s k)) dead
delta (want o m s c) b =
    whether (name_of b) (λ k. done (mul m (wrap o (name k))) s c)
    (cond (b == 64) (want (turn ∷ o) m s c)
    (cond (b == 124) (want (mirror ∷ o) m s c)
    (cond (b == 94) (zooming o m s c)
    (cond (b == 40) (want [] None None (in_round o m s c))
    (cond (b == 91) (want [] None None (in_first o m s c)) dead)))))
delta (zooming o m s c) b = whether (digit_of b) (λ d. want (zoom d ∷ o) m s c) dead
delta (done p s c) b =
    cond (b == 42) (want [] (Some p) s c)
    (cond (b == 43) (want [] None (Some (join s p)) c)
    (cond (b == closer c) (shut c (join s p)) dead))
delta dead b = dead

abbrev pub run : State → List ℕ → State
run σ [] = σ
run σ (b ∷ bs) = run (delta σ b) bs

-- no text goes on from σ as `rest` does: neither its first byte nor, where it has none, the end
abbrev pub Blocked : State → List ℕ → Type 0
Blocked σ [] = (s : Tree script) → σ ≢ begin s
Blocked σ (b ∷ bs) = delta σ b ≡ dead

-- the states in which a text of category c can begin
pub data Opens : Cat → State → Type 0 where
  o_part : {o : List Prefix} {m : Option (Tree product)} {s : Option (Tree sum)} {c : Around} → Opens part (want o m s c)
  o_product : {s : Option (Tree sum)} {c : Around} → Opens product (want [] None s c)
  o_sum : {c : Around} → Opens sum (want [] None None c)
  o_closed : {c : Around} → Opens (closed (closer c)) (want [] None None c)
  o_line : {s : Tree script} → Opens line (begin s)
  o_script : Opens script (begin blank)
