-- The operations on bodies, with the order of states, arcs and factors.
use Rattle.std.specs.Prelude.{ℕ, ◌+◌, ◌*◌, cond, List, [], ◌∷◌, ◌++◌, map, replicate, slice_index_or}
use Rattle.std.specs.List.{range_with_len, flat_map}
use Rattle.weight.specs.Kinds.{Kind}
use Rattle.picture.specs.Bodies.{Body, Edge}
use Rattle.picture.specs.Operations.{mirrored, whole_value}
use Rattle.picture.specs.Quadrants.{same}
use Rattle.picture.specs.Steps.{stepped}
use Rattle.picture.specs.declared.body.Arc.{Arc}
use Rattle.picture.specs.declared.quadrant.Quadrant.{Quadrant}
use Rattle.picture.specs.declared.quadrant.Quadrant.TheVariants.{UpperLeft, UpperRight, LowerLeft, LowerRight}

-- the arc from p to q with digit d
abbrev pub arc_from : ℕ → ℕ → Quadrant → Arc
arc_from p q d = record { from = p; to = q; quadrant = d }

-- both ends raised by n
abbrev pub raised_arc : ℕ → Arc → Arc
raised_arc n a = arc_from (n + a.from) (n + a.to) a.quadrant

-- the same, with its weight
abbrev pub raised : {W : Type 0} → ℕ → Edge W → Edge W
raised n e = (raised_arc n e.0, e.1)

-- a's states, then b's; a's arcs, then b's
abbrev pub sum_body : {W : Type 0} → Body W → Body W → Body W
sum_body a b = record {
  states = a.states + b.states;
  first = a.first ++ b.first;
  last = a.last ++ b.last;
  arcs = a.arcs ++ map (raised a.states) b.arcs;
}

-- each of xs with each of ys
abbrev pub paired : {A B C : Type 0} → (A → B → C) → List A → List B → List C
paired f xs ys = flat_map (λ x. map (f x) ys) xs

-- the arc of two arcs with one digit, where pair (p, q) is state p·n + q; none of two arcs with different digits
abbrev pub arc_pair : {W : Type 0} → Kind W → ℕ → Edge W → Edge W → List (Edge W)
arc_pair k n e f =
    cond (same e.0.quadrant f.0.quadrant)
    ((arc_from (e.0.from * n + f.0.from) (e.0.to * n + f.0.to) e.0.quadrant, k.times e.1 f.1) ∷ [])
    []

-- for each of xs in order, and for it each of ys in order, the arc of the two
abbrev pub arc_pairs : {W : Type 0} → Kind W → ℕ → List (Edge W) → List (Edge W) → List (Edge W)
arc_pairs k n xs ys = flat_map (λ e. flat_map (arc_pair k n e) ys) xs

-- pair (p, q) is state p·n_b + q, a's factor first in every product
abbrev pub product_body : {W : Type 0} → Kind W → Body W → Body W → Body W
product_body k a b = record {
  states = a.states * b.states;
  first = paired k.times a.first b.first;
  last = paired k.times a.last b.last;
  arcs = arc_pairs k b.states a.arcs b.arcs;
}

-- the digit that a clockwise quarter turn replaces by this one
abbrev pub unturned : Quadrant → Quadrant
unturned UpperLeft = UpperRight
unturned UpperRight = LowerRight
unturned LowerLeft = UpperLeft
unturned LowerRight = LowerLeft

-- an arc's digit by g
abbrev pub redirected : (Quadrant → Quadrant) → Arc → Arc
redirected g a = arc_from a.from a.to (g a.quadrant)

-- every arc's digit by g
abbrev pub redirected_body : {W : Type 0} → (Quadrant → Quadrant) → Body W → Body W
redirected_body g a = record {
  states = a.states;
  first = a.first;
  last = a.last;
  arcs = map (λ e. (redirected g e.0, e.1)) a.arcs;
}

-- a clockwise quarter turn
abbrev pub turned_body : {W : Type 0} → Body W → Body W
turned_body a = redirected_body unturned a

-- left and right exchanged
abbrev pub mirrored_body : {W : Type 0} → Body W → Body W
mirrored_body a = redirected_body mirrored a

-- the first row times W_d, by the arcs in order
abbrev pub zoomed_body : {W : Type 0} → Kind W → Quadrant → Body W → Body W
zoomed_body k d a = record {
  states = a.states;
  first = stepped k a.arcs a.states a.first d;
  last = a.last;
  arcs = a.arcs;
}

-- a body with the digit of its quadrant
abbrev pub Part : Type 0 → Type 0
Part W = Quadrant × Body W

-- the four parts of a piecing, from digit 0 to 3
abbrev pub parts : {W : Type 0} → (Quadrant → Body W) → List (Part W)
parts f = (UpperLeft, f UpperLeft) ∷ (UpperRight, f UpperRight) ∷ (LowerLeft, f LowerLeft) ∷ (LowerRight, f LowerRight) ∷ []

-- how many states parts have
abbrev pub states_of : {W : Type 0} → List (Part W) → ℕ
states_of [] = 0
states_of (p ∷ ps) = p.1.states + states_of ps

-- arcs with the part's digit from state 0 to each of its states, which begin at s, carrying the old first weights
abbrev pub entries : {W : Type 0} → Kind W → ℕ → Part W → List (Edge W)
entries k s p = map (λ q. (arc_from 0 (s + q) p.0, slice_index_or p.1.first q k.zero)) (range_with_len 0 p.1.states)

-- for each part the arcs that enter it, then its own; the states of the first part begin at s
abbrev pub pieced_arcs : {W : Type 0} → Kind W → ℕ → List (Part W) → List (Edge W)
pieced_arcs k s [] = []
pieced_arcs k s (p ∷ ps) = entries k s p ++ (map (raised s) p.1.arcs ++ pieced_arcs k (s + p.1.states) ps)

-- a new state 0, then the states of the parts
abbrev pub pieced_body : {W : Type 0} → Kind W → (Quadrant → Body W) → Body W
pieced_body k f = record {
  states = 1 + states_of (parts f);
  first = k.one ∷ replicate (states_of (parts f)) k.zero;
  last = whole_value k ∷ flat_map (λ p. p.1.last) (parts f);
  arcs = pieced_arcs k 1 (parts f);
}
