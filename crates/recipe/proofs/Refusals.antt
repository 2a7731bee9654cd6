-- A refusal inside a tree is a refusal of the tree.
use Rattle.std.proofs.Common.{◌≡◌, ℕ, zero, suc, ◌+◌, ◌-◌, ◌<◌, ◌≤◌, Bool, true, false, cond, eqb, leb, List, [], ◌∷◌, ◌++◌, length, get_or, drop, Some, None, Option, sym, refl, ap, ◌∙◌, subst, append_assoc, append-nil, add-zero, arith, length-append, ne_eqb}
use Rattle.std.specs.List.{slice_get}
use Rattle.std.proofs.lemmas.Bool.Decides.{nat_tests}
use Rattle.std.proofs.lemmas.List.{drop_more, map-append, length-map}
use Rattle.recipe.specs.Steps.{listed}
use Rattle.std.proofs.lemmas.Option.{slice_get_within, get_or_from_slice_get}
use Rattle.recipe.specs.declared.reader.Reader.{Reader}
use Rattle.recipe.specs.declared.fault.Fault.{Fault}
use Rattle.recipe.specs.declared.fault.Fault.TheVariants.{TooLong, Grammar, Level, Waiting}
use Rattle.recipe.specs.declared.place.Place.{Place}
use Rattle.recipe.specs.declared.place.Place.TheVariants.{A, B, C, D, E, F, G, H}
use Rattle.picture.specs.declared.quadrant.Quadrant.{Quadrant}
use Rattle.picture.specs.declared.quadrant.Quadrant.TheVariants.{UpperLeft, UpperRight, LowerLeft, LowerRight}
use Rattle.picture.specs.Quadrants.{digit, quadrant}
use Rattle.recipe.specs.declared.step.Step.{Step}
use Rattle.recipe.specs.Places.{number, place, letter}
use Rattle.recipe.specs.Trees.{Cat, sum, product, part, closed, Prefix, turn, mirror, zoom, Tree, one, plus, single, times, name, prefixed, round, pieces, closes, row, blank, next, spelled, text}
use Rattle.recipe.specs.Limits.{Byte, plain, opens, waits, ahead, counted, Within}
use Rattle.recipe.specs.Devices.Reading.{codes}
use Rattle.recipe.specs.Devices.Machine.{name_of, whether, Around, State, want, zooming, done, closer, run, Blocked, Opens, o_part}
use Rattle.recipe.specs.declared.reader.grammar.Opening.{Opening}
use Rattle.recipe.specs.declared.reader.grammar.Opening.TheVariants.{At, Bar, Caret, Round, Square}
use Rattle.recipe.specs.Devices.Reading.{Did, made, Took, opener, OpeningAt, left, first, name_at, digit_at, Lost, Because, byte_of}
use Rattle.recipe.proofs.Walks.{run_++}
use Rattle.recipe.proofs.Moves.{fine_++}

pub spells_prefix : (o : Prefix) (l : ℕ) → codes (ahead o l) ≡ spelled o
spells_prefix turn l = refl
spells_prefix mirror l = refl
spells_prefix (zoom d) l = refl

-- the codes of a tree's counted are its text
pub spells : {c : Cat} (t : Tree c) (l w : ℕ) → codes (counted t l w) ≡ text t
spells (one p) l w = spells p l w
spells (plus s p) l w = map-append _ (counted s l w) _ ∙ (λ i. spells s l w i ++ 43 ∷ spells p l (w + 1) i)
spells (single p) l w = spells p l w
spells (times q p) l w = map-append _ (counted q l w) _ ∙ (λ i. spells q l w i ++ 42 ∷ spells p l (w + 1) i)
spells (name k) l w = refl
spells (prefixed o p) l w = map-append _ (ahead o (l + 1)) _ ∙ (λ i. spells_prefix o (l + 1) i ++ spells p (l + 1) w i)
spells (round s) l w = ap (λ v. 40 ∷ v) (spells s (l + 1) w)
spells (pieces x y z u) l w =
    ap (λ v. 91 ∷ v)
    (map-append _ (counted x (l + 1) w) _ ∙ (λ i. spells x (l + 1) w i ++
    (map-append _ (counted y (l + 1) (w + 1)) _ ∙ (λ i. spells y (l + 1) (w + 1) i ++
    (map-append _ (counted z (l + 1) (w + 2)) _ ∙ (λ i. spells z (l + 1) (w + 2) i ++ spells u (l + 1) (w + 3) i)) i)) i))
spells (closes b s) l w = map-append _ (counted s l w) _ ∙ ap (λ v. v ++ b ∷ []) (spells s l w)
spells (row k s) l w = ap (λ v. letter k ∷ 61 ∷ v) (spells s l w)
spells blank l w = refl
spells (next s r) l w = map-append _ (counted s l w) _ ∙ (λ i. spells s l w i ++ spells r l w i)

because_inside : {c d : Cat} (xs ys : List ℕ) (m : Byte) (rest : List ℕ) (f : Fault) → ((σ : State) → Opens c σ → Opens d (run σ xs)) → Because d ys m rest f → Because c (xs ++ ys) m rest f
because_inside xs ys m rest TooLong g h = h
because_inside xs ys m rest (Grammar i) g h = λ σ o. subst (λ v. Blocked v rest) (sym (run_++ σ xs ys)) (h (run σ xs) (g σ o))
because_inside xs ys m rest (Level i) g h = h
because_inside xs ys m rest (Waiting i) g h = h

-- between a and b the bytes `pre` of the tree were read
pub inside : {c d : Cat} {l m : ℕ} {a b : Reader} {f : Fault} {xs : List ℕ} {ss : List Step} (pre post : List Byte) (up : Tree d → Tree c) → ((t : Tree d) → counted (up t) l a.waiting ≡ pre ++ (counted t m b.waiting ++ post)) → codes pre ≡ xs → Did xs ss a b → Within pre → ((σ : State) → Opens c σ → Opens d (run σ xs)) → Lost d m b f → Lost c l a f
inside {c} {d} {l} {m} {a} {b} {f} {xs} pre post up whole spell did fine go h =
    let word : codes (pre ++ h.before) ≡ xs ++ codes h.before = map-append _ pre h.before ∙ ap (λ v. v ++ codes h.before) spell in
    record {
      tree = up h.tree;
      before = pre ++ h.before;
      here = h.here;
      after = h.after ++ post;
      is = whole h.tree ∙ ap (λ v. pre ++ (v ++ post)) h.is ∙ ap (λ v. pre ++ v) (append_assoc h.before (h.here ∷ h.after) post) ∙ sym (append_assoc pre h.before (h.here ∷ h.after ++ post));
      split = did.split ∙ ap (λ v. xs ++ v) h.split ∙ sym (append_assoc xs (codes h.before) _) ∙ (λ i. sym word i ++ drop (byte_of f) (did.same i));
      at = simp length-append (omega (arith, h.at, did.on, simp length-map at (ap length spell)));
      inside = subst (λ v. byte_of f ≤ length v) did.same h.inside;
      fine = fine_++ pre h.before fine h.fine;
      why = subst (λ v. Because c v h.here (drop (byte_of f) a.src.now) f) (sym word) (because_inside xs (codes h.before) h.here _ f go (subst (λ v. Because d (codes h.before) h.here (drop (byte_of f) v) f) did.same h.why));
    }

pub first-drop : (xs : List ℕ) (i : ℕ) → first (drop i xs) ≡ slice_get xs i
first-drop [] zero = refl
first-drop [] (suc i) = refl
first-drop (x ∷ xs) zero = refl
first-drop (x ∷ xs) (suc i) = first-drop xs i

-- what stands at the front of what is left
pub first_at : (xs : List ℕ) (i x : ℕ) → first (drop i xs) ≡ Some x → (i < length xs) × (get_or xs i 0 ≡ x)
first_at xs i x e = let s : slice_get xs i ≡ Some x = sym (first-drop xs i) ∙ e in (slice_get_within xs i x s, get_or_from_slice_get xs i x 0 s)

place_number : (n : ℕ) (k : Place) → place n ≡ Some k → n ≡ number k
place_number zero k e = let p : A ≡ k = cc in ap number p
place_number (suc zero) k e = let p : B ≡ k = cc in ap number p
place_number (suc (suc zero)) k e = let p : C ≡ k = cc in ap number p
place_number (suc (suc (suc zero))) k e = let p : D ≡ k = cc in ap number p
place_number (suc (suc (suc (suc zero)))) k e = let p : E ≡ k = cc in ap number p
place_number (suc (suc (suc (suc (suc zero))))) k e = let p : F ≡ k = cc in ap number p
place_number (suc (suc (suc (suc (suc (suc zero)))))) k e = let p : G ≡ k = cc in ap number p
place_number (suc (suc (suc (suc (suc (suc (suc zero))))))) k e = let p : H ≡ k = cc in ap number p
place_number (suc (suc (suc (suc (suc (suc (suc (suc n)))))))) k e = cc

quadrant_digit : (n : ℕ) (d : Quadrant) → quadrant n ≡ Some d → n ≡ digit d
quadrant_digit zero d e = let p : UpperLeft ≡ d = cc in ap digit p
quadrant_digit (suc zero) d e = let p : UpperRight ≡ d = cc in ap digit p
quadrant_digit (suc (suc zero)) d e = let p : LowerLeft ≡ d = cc in ap digit p
quadrant_digit (suc (suc (suc zero))) d e = let p : LowerRight ≡ d = cc in ap digit p
quadrant_digit (suc (suc (suc (suc n)))) d e = cc

-- a byte from x on that has a value has the value of the number that it is above x
above : {X : Type 0} (x b : ℕ) (f : ℕ → Option X) (v : X) (t : Bool) → leb x b ≡ t → cond t (f (b - x)) None ≡ Some v → (x ≤ b) × (f (b - x) ≡ Some v)
above x b f v true p e = (grind (arith, nat_tests), e)
above x b f v false p e = cc

pub named_is : (xs : List ℕ) (k : Place) → name_at xs ≡ Some k → first xs ≡ Some (letter k)
named_is [] k e = cc
named_is (b ∷ bs) k e =
    let h = above 65 b place k (leb 65 b) refl e in
    let n : b - 65 ≡ number k = place_number (b - 65) k h.1 in
    let m : b ≡ 65 + number k = omega (arith, h.0, n) in
    ap Some m

digit_is : (xs : List ℕ) (d : Quadrant) → digit_at xs ≡ Some d → first xs ≡ Some (48 + digit d)
digit_is [] d e = cc
digit_is (b ∷ bs) d e =
    let h = above 48 b quadrant d (leb 48 b) refl e in
    let n : b - 48 ≡ digit d = quadrant_digit (b - 48) d h.1 in
    let m : b ≡ 48 + digit d = omega (arith, h.0, n) in
    ap Some m

pub other : (b x : ℕ) (σ τ : State) → (Some b ≡ Some x → ⊥) → cond (eqb b x) σ τ ≡ τ
other b x σ τ h = ap (λ v. cond v σ τ) (ne_eqb b x (λ e. h (ap Some e)))

pub neither : {X : Type 0} (o : Option X) (f : X → State) (τ : State) → o ≡ None → whether o f τ ≡ τ
neither o f τ e = ap (λ v. whether v f τ) e

pub blocked_want : (xs : List ℕ) → name_at xs ≡ None → OpeningAt xs None → (o : List Prefix) (m : Option (Tree product)) (s : Option (Tree sum)) (c : Around) → Blocked (want o m s c) xs
blocked_want [] n h o m s c = λ t e. cc
blocked_want (b ∷ bs) n h o m s c =
    neither (name_of b) _ _ n ∙ other b 64 _ _ (h At) ∙ other b 124 _ _ (h Bar) ∙ other b 94 _ _ (h Caret) ∙ other b 40 _ _ (h Round) ∙ other b 91 _ _ (h Square)

pub blocked_done : (xs : List ℕ) (p : Tree product) (s : Option (Tree sum)) (c : Around) → (first xs ≡ Some 42 → ⊥) → (first xs ≡ Some 43 → ⊥) → (first xs ≡ Some (closer c) → ⊥) → Blocked (done p s c) xs
blocked_done [] p s c a1 a2 a3 = λ t e. cc
blocked_done (b ∷ bs) p s c a1 a2 a3 = other b 42 _ _ a1 ∙ other b 43 _ _ a2 ∙ other b (closer c) _ _ a3

at_want : {σ : State} (xs : List ℕ) → Opens part σ → ((o : List Prefix) (m : Option (Tree product)) (s : Option (Tree sum)) (c : Around) → Blocked (want o m s c) xs) → Blocked σ xs
at_want xs (o_part {o} {m} {s} {c}) h = h o m s c

-- a part was to start here, and no byte that starts one stands here
pub lost_want : (a : Reader) (l : ℕ) → name_at (left a) ≡ None → OpeningAt (left a) None → Lost part l a (Grammar a.pos)
lost_want a l n h = record {
  tree = name A;
  before = [];
  here = waits 65 (a.waiting + 1);
  after = [];
  is = refl;
  split = refl;
  at = sym (add-zero a.pos);
  inside = a.inside;
  fine = tt;
  why = λ σ o. at_want (left a) o (blocked_want (left a) n h);
}

abbrev pub filler : (b : ℕ) → Tree (closed b)
filler b = closes b (one (single (name A)))

-- a tree that starts with the byte that opens it
opened : Opening → Tree part
opened At = prefixed turn (name A)
opened Bar = prefixed mirror (name A)
opened Caret = prefixed (zoom UpperLeft) (name A)
opened Round = round (filler 41)
opened Square = pieces (filler 44) (filler 44) (filler 44) (filler 93)

opened_is : (o : Opening) (l w : ℕ) → (ms : List Byte) × (counted (opened o) l w ≡ opens (opener o) (l + 1) ∷ ms)
unfolding opened
opened_is At l w = (_, refl)
opened_is Bar l w = (_, refl)
opened_is Caret l w = (_, refl)
opened_is Round l w = (_, refl)
opened_is Square l w = (_, refl)

-- a part that is not a plain place starts here, inside sixteen others
pub lost_level : {l : ℕ} {a : Reader} (o : Opening) → 16 ≤ l → l ≤ 16 → first (left a) ≡ Some (opener o) → Lost part l a (Level a.pos)
lost_level {l} {a} o lo hi at =
    let h = opened_is o l a.waiting in
    record {
      tree = opened o;
      before = [];
      here = opens (opener o) (l + 1);
      after = h.0;
      is = h.1;
      split = refl;
      at = sym (add-zero a.pos);
      inside = a.inside;
      fine = tt;
      why = (at, omega arith);
    }

-- a name stands here, and six pictures wait
pub lost_waiting : (a : Reader) (l : ℕ) (k : Place) → name_at (left a) ≡ Some k → 6 ≤ a.waiting → Lost part l a (Waiting a.pos)
lost_waiting a l k n lo = record {
  tree = name k;
  before = [];
  here = waits (letter k) (a.waiting + 1);
  after = [];
  is = refl;
  split = refl;
  at = sym (add-zero a.pos);
  inside = a.inside;
  fine = tt;
  why = (named_is (left a) k n, omega (arith, a.few));
}

at_zoom : {σ : State} (xs : List ℕ) → Opens part σ → ((o : List Prefix) (m : Option (Tree product)) (s : Option (Tree sum)) (c : Around) → Blocked (zooming o m s c) xs) → Blocked (run σ (94 ∷ [])) xs
at_zoom xs (o_part {o} {m} {s} {c}) h = h o m s c

-- the digit behind '^' is missing
pub lost_zoom : {l : ℕ} {a b : Reader} → l < 16 → Took (94 ∷ []) a b → ((o : List Prefix) (m : Option (Tree product)) (s : Option (Tree sum)) (c : Around) → Blocked (zooming o m s c) (left b)) → {g : Fault} → g ≡ Grammar b.pos → Lost part l a g
lost_zoom {l} {a} {b} lt t h {g} is = subst (Lost part l a) (sym is)
    (record {
      tree = prefixed (zoom UpperLeft) (name A);
      before = opens 94 (l + 1) ∷ [];
      here = plain 48;
      after = counted (name A) (l + 1) a.waiting;
      is = refl;
      split = t.did.split ∙ ap (λ v. 94 ∷ drop b.pos v) t.did.same;
      at = t.did.on;
      inside = subst (λ v. b.pos ≤ length v) t.did.same b.inside;
      fine = (omega arith, omega arith, tt);
      why = λ σ o. subst (λ v. Blocked (run σ (94 ∷ [])) (drop b.pos v)) t.did.same (at_zoom (left b) o h);
    })

-- the next byte was read
pub took_next : (a b : Reader) (x : ℕ) → first (left a) ≡ Some x → b.src.now ≡ a.src.now → b.pos ≡ a.pos + 1 → b.recipe ≡ a.recipe → b.waiting ≡ a.waiting → Took (x ∷ []) a b
took_next a b x n src pos same w =
    let g = first_at a.src.now a.pos x n in
    record {
      did = record {
        same = src;
        split = drop_more a.src.now a.pos 0 g.0 ∙ (λ i. g.1 i ∷ drop (sym pos i) (sym src i));
        on = pos;
        count = ap (λ v. v.count) same ∙ sym (add-zero a.recipe.count);
        adds = ap listed same ∙ sym (append-nil (made a));
      };
      waits = w;
    }

pub took_name : (a b : Reader) (k : Place) → name_at (left a) ≡ Some k → b.src.now ≡ a.src.now → b.pos ≡ a.pos + 1 → b.recipe ≡ a.recipe → b.waiting ≡ a.waiting → Took (letter k ∷ []) a b
took_name a b k n = took_next a b (letter k) (named_is (left a) k n)

pub took_digit : (a b : Reader) (d : Quadrant) → digit_at (left a) ≡ Some d → b.src.now ≡ a.src.now → b.pos ≡ a.pos + 1 → b.recipe ≡ a.recipe → b.waiting ≡ a.waiting → Took ((48 + digit d) ∷ []) a b
took_digit a b d n = took_next a b (48 + digit d) (digit_is (left a) d n)
