-- The picture of a body by its arcs, from either end of an address.
use Rattle.std.proofs.Common.{◌≡◌, ℕ, ◌<◌, Bool, true, false, cond, ◌&&◌, eqb, List, [], ◌∷◌, ◌++◌, sym, refl, ap, ◌∙◌, ap₂}
use mathlib.Core.Path.{fun_ext}
use Rattle.std.specs.List.{range_with_len}
use Rattle.weight.specs.Kinds.{Kind, Laws}
use Rattle.weight.specs.Sums.{total}
use Rattle.weight.proofs.Totals.{total_all, total_swap, times_total, total_times}
use Rattle.picture.specs.Bodies.{Body, Sound}
use Rattle.picture.specs.Pictures.{goes, entry, step, along, value, picture}
use Rattle.picture.specs.Quadrants.{Address, same}
use Rattle.picture.specs.Steps.{reaches, gathered, spread, back, at_state}
use Rattle.picture.specs.declared.quadrant.Quadrant.{Quadrant}
use Rattle.picture.proofs.States.{total_below, times_cond, cond_times, pick}

cond_and : {W : Type 0} (t s : Bool) (x y : W) → cond (t && s) x y ≡ cond t (cond s x y) y
cond_and true s x y = refl
cond_and false s x y = refl

cond_mid : {W : Type 0} (t a s : Bool) (x y : W) → cond (t && (a && s)) x y ≡ cond a (cond (t && s) x y) y
cond_mid true true s x y = refl
cond_mid true false s x y = refl
cond_mid false true s x y = refl
cond_mid false false s x y = refl

module _ {W : Type 0} {k : Kind W} (laws : Laws k) where
  one_left : (n j : ℕ) (u : Bool) (row : ℕ → W) (x : W) → j < n
      → total k (range_with_len 0 n) (λ p. k.times (row p) (cond (eqb p j && u) x k.zero)) ≡ cond u (k.times (row j) x) k.zero
  one_left n j u row x h =
      ap (total k (range_with_len 0 n)) (fun_ext (λ p. ap (k.times (row p)) (cond_and (eqb p j) u x k.zero) ∙ times_cond laws (row p) (cond u x k.zero) (eqb p j)))
      ∙ pick laws n j (λ p. k.times (row p) (cond u x k.zero)) h
      ∙ times_cond laws (row j) x u

  one_right : (n j : ℕ) (t s : Bool) (column : ℕ → W) (x : W) → j < n
      → total k (range_with_len 0 n) (λ q. k.times (cond (t && (eqb q j && s)) x k.zero) (column q)) ≡ cond (t && s) (k.times x (column j)) k.zero
  one_right n j t s column x h =
      ap (total k (range_with_len 0 n)) (fun_ext (λ q. ap (λ y. k.times y (column q)) (cond_mid t (eqb q j) s x k.zero) ∙ cond_times laws (column q) (cond (t && s) x k.zero) (eqb q j)))
      ∙ pick laws n j (λ q. k.times (cond (t && s) x k.zero) (column q)) h
      ∙ cond_times laws (column j) x (t && s)

  module _ (b : Body W) (sound : Sound b) where
    -- a row times W_d goes by the arcs that reach a state
    pub step_gathered : (row : ℕ → W) (d : Quadrant) (q : ℕ) → step k b row d q ≡ gathered k b.arcs row d q
    step_gathered row d q =
        ap (total k (range_with_len 0 b.states)) (fun_ext (λ p. times_total laws (row p) b.arcs _))
        ∙ total_swap laws (range_with_len 0 b.states) b.arcs (λ p e. k.times (row p) (cond (goes d p q e) e.1 k.zero))
        ∙ total_all laws _ b.arcs _ _ sound.ends (λ e ends. one_left b.states e.0.from (reaches d q e) row e.1 ends.0)

    -- W_d times a column goes by the arcs that leave a state
    pub entry_spread : (column : ℕ → W) (d : Quadrant) (p : ℕ) → total k (range_with_len 0 b.states) (λ q. k.times (entry k b d p q) (column q)) ≡ spread k b.arcs column d p
    entry_spread column d p =
        ap (total k (range_with_len 0 b.states)) (fun_ext (λ q. total_times laws (column q) b.arcs _))
        ∙ total_swap laws (range_with_len 0 b.states) b.arcs (λ q e. k.times (cond (goes d p q e) e.1 k.zero) (column q))
        ∙ total_all laws _ b.arcs _ _ sound.ends (λ e ends. one_right b.states e.0.to (eqb p e.0.from) (same d e.0.quadrant) column e.1 ends.1)

    -- a row times a column
    abbrev pub meeting : (row column : ℕ → W) → W
    meeting row column = total k (range_with_len 0 b.states) (λ q. k.times (row q) (column q))

    -- a digit may go to the row or to the column
    pub meeting_step : (row column : ℕ → W) (d : Quadrant) → meeting (step k b row d) column ≡ meeting row (spread k b.arcs column d)
    meeting_step row column d =
        ap (total k ns) (fun_ext (λ q. total_times laws (column q) ns _ ∙ ap (total k ns) (fun_ext (λ p. laws.times_assoc (row p) (entry k b d p q) (column q)))))
        ∙ total_swap laws ns ns (λ q p. k.times (row p) (k.times (entry k b d p q) (column q)))
        ∙ ap (total k ns) (fun_ext (λ p. sym (times_total laws (row p) ns _) ∙ ap (k.times (row p)) (entry_spread column d p)))
      where
        ns : List ℕ
        ns = range_with_len 0 b.states

    pub meeting_along : (row column : ℕ → W) (w : Address) → meeting (along k b row w) column ≡ meeting row (back k b.arcs column w)
    meeting_along row column [] = refl
    meeting_along row column (d ∷ w) = meeting_along (step k b row d) column w ∙ meeting_step row (back k b.arcs column w) d

    pub value_back : (row : ℕ → W) (w : Address) → value k b row w ≡ meeting row (back k b.arcs (at_state k b.last) w)
    value_back row w = meeting_along row (at_state k b.last) w

    along_append : (row : ℕ → W) (u v : Address) → along k b row (u ++ v) ≡ along k b (along k b row u) v
    along_append row [] v = refl
    along_append row (d ∷ u) v = along_append (step k b row d) u v

    -- the value at u followed by v goes by the row along u
    pub value_append : (row : ℕ → W) (u v : Address) → value k b row (u ++ v) ≡ value k b (along k b row u) v
    value_append row u v = ap (λ r. meeting r (at_state k b.last)) (along_append row u v)

    pub picture_meets : (u v : Address) → picture k b (u ++ v) ≡ meeting (along k b (at_state k b.first) u) (back k b.arcs (at_state k b.last) v)
    picture_meets u v = value_append (at_state k b.first) u v ∙ value_back (along k b (at_state k b.first) u) v

    -- a value depends only on the row's weights at states
    pub value_below : (r s : ℕ → W) → ((q : ℕ) → q < b.states → r q ≡ s q) → (w : Address) → value k b r w ≡ value k b s w
    value_below r s e w =
        value_back r w ∙ total_below laws b.states _ _ (λ q h. ap₂ k.times (e q h) refl) ∙ sym (value_back s w)
