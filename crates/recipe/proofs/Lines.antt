-- Lines and scripts.
use Rattle.std.proofs.Common.{◌≡◌, ℕ, ◌+◌, ◌-◌, ◌<◌, ◌≤◌, false, is_some, List, [], ◌∷◌, ◌++◌, length, drop, Some, None, sym, refl, ap, ◌∙◌, subst, append-nil, add-zero, arith}
use Rattle.std.proofs.lemmas.List.{drop_more}
use Rattle.recipe.specs.declared.reader.Reader.{Reader}
use Rattle.recipe.specs.declared.fault.Fault.{Fault}
use Rattle.recipe.specs.declared.fault.Fault.TheVariants.{Grammar}
use Rattle.recipe.specs.declared.step.Step.TheVariants.{Store}
use Rattle.recipe.specs.declared.place.Place.{Place}
use Rattle.recipe.specs.declared.place.Place.TheVariants.{A}
use Rattle.recipe.specs.Places.{letter}
use Rattle.recipe.specs.Trees.{closed, line, script, Tree, row, blank, next, text}
use Rattle.recipe.specs.Steps.{steps}
use Rattle.recipe.specs.Limits.{plain, counted, Within}
use Rattle.recipe.specs.Devices.Machine.{name_of, in_line, State, begin, named, run, Blocked, Opens, o_line, o_script, o_closed}
use Rattle.recipe.specs.Devices.Reading.{left, first, name_at, Took, Pushed, Got, Lost}
use Rattle.recipe.proofs.Walks.{delta_target, walk}
use Rattle.recipe.proofs.Moves.{stay, both, same_did, fine_++}
use Rattle.recipe.proofs.Refusals.{first_at, named_is, other, neither, inside, spells, filler}

blocked_begin : (xs : List ℕ) → 0 < length xs → name_at xs ≡ None → (s : Tree script) → Blocked (begin s) xs
blocked_begin [] h n s = absurd (omega arith)
blocked_begin (b ∷ bs) h n s = neither (name_of b) _ _ n

blocked_named : (xs : List ℕ) → (first xs ≡ Some 61 → ⊥) → (s : Tree script) (k : Place) → Blocked (named s k) xs
blocked_named [] n s k = λ t e. cc
blocked_named (b ∷ bs) n s k = other b 61 _ _ n

at_begin : {σ : State} (xs : List ℕ) → Opens line σ → ((s : Tree script) → Blocked (begin s) xs) → Blocked σ xs
at_begin xs (o_line {s}) h = h s

at_named : {σ : State} (xs : List ℕ) (k : Place) → Opens line σ → ((s : Tree script) → Blocked (named s k) xs) → Blocked (run σ (letter k ∷ [])) xs
at_named xs k (o_line {s}) h = subst (λ v. Blocked v xs) (sym (delta_target k s)) (h s)

pub lost_target : (a : Reader) → 0 < length (left a) → name_at (left a) ≡ None → Lost line 0 a (Grammar a.pos)
lost_target a h n = record {
  tree = row A (filler 10);
  before = [];
  here = plain 65;
  after = plain 61 ∷ counted (filler 10) 0 a.waiting;
  is = refl;
  split = refl;
  at = sym (add-zero a.pos);
  inside = a.inside;
  fine = tt;
  why = λ σ o. at_begin (left a) o (blocked_begin (left a) h n);
}

pub lost_equals : (a : Reader) (k : Place) → name_at (left a) ≡ Some k → (first (drop (a.pos + 1) a.src.now) ≡ Some 61 → ⊥) → {g : Fault} → g ≡ Grammar (a.pos + 1) → Lost line 0 a g
lost_equals a k e n {g} is =
    let p = first_at a.src.now a.pos (letter k) (named_is (left a) k e) in
    subst (Lost line 0 a) (sym is) (record {
      tree = row k (filler 10);
      before = plain (letter k) ∷ [];
      here = plain 61;
      after = counted (filler 10) 0 a.waiting;
      is = refl;
      split = drop_more a.src.now a.pos 0 p.0 ∙ ap (λ v. v ∷ drop (a.pos + 1) a.src.now) p.1;
      at = refl;
      inside = omega arith;
      fine = (omega arith, omega arith, tt);
      why = λ σ o. at_named (drop (a.pos + 1) a.src.now) k o (λ s. blocked_named (drop (a.pos + 1) a.src.now) n s k);
    })

go_row : (k : Place) (σ : State) → Opens line σ → Opens (closed 10) (run σ (letter k ∷ 61 ∷ []))
go_row k σ (o_line {s}) = subst (λ v. Opens (closed 10) (run v (61 ∷ []))) (sym (delta_target k s)) (o_closed {c = in_line s k})

pub lost_row : {a b : Reader} {f : Fault} (k : Place) → Took (letter k ∷ 61 ∷ []) a b → Lost (closed 10) 0 b f → Lost line 0 a f
lost_row {a} {b} {f} k t h =
    inside (plain (letter k) ∷ plain 61 ∷ []) [] (row k)
    (λ p. ap (λ v. plain (letter k) ∷ plain 61 ∷ v) (ap (counted p 0) (sym t.waits) ∙ sym (append-nil _)))
    refl
    t.did
    (omega arith, omega arith, (omega arith, omega arith, tt))
    (go_row k) h

pub got_row : {a b c d : Reader} (k : Place) → Took (letter k ∷ 61 ∷ []) a b → Got (closed 10) 0 b c → Pushed (Store k) (c.waiting - 1) c d → Got line 0 a d
got_row {a} {b} {c} {d} k t g p = record {
  tree = row k g.tree;
  did = same_did (ap (λ v. letter k ∷ 61 ∷ v) (append-nil (text g.tree))) (λ i. steps g.tree (t.did.on i) ++ Store k ∷ []) (both t.did (both g.did p.did));
  waits = omega (arith, p.waits, g.waits, t.waits);
  fine = (omega arith, omega arith, (omega arith, omega arith, subst (λ v. Within (counted g.tree 0 v)) t.waits g.fine));
}

pub got_blank : {a : Reader} → Got script 0 a a
got_blank {a} = record {
  tree = blank;
  did = stay a;
  waits = sym (add-zero a.waiting);
  fine = tt;
}

pub got_next : {a b c : Reader} → Got script 0 a b → Got line 0 b c → Got script 0 a c
got_next {a} {b} {c} s r =
    let w : b.waiting ≡ a.waiting = s.waits ∙ add-zero a.waiting in
    record {
      tree = next s.tree r.tree;
      did = same_did refl (ap (λ v. steps s.tree a.pos ++ steps r.tree v) s.did.on) (both s.did r.did);
      waits = omega (arith, r.waits, s.waits);
      fine = fine_++ (counted s.tree 0 a.waiting) _ s.fine (subst (λ v. Within (counted r.tree 0 v)) w r.fine);
    }

go_next : (s : Tree script) (σ : State) → Opens script σ → Opens line (run σ (text s))
go_next s σ o_script = subst (Opens line) (sym (walk s)) o_line

pub lost_next : {a b : Reader} {f : Fault} → Got script 0 a b → Lost line 0 b f → Lost script 0 a f
lost_next {a} {b} {f} g h =
    let w : b.waiting ≡ a.waiting = g.waits ∙ add-zero a.waiting in
    inside (counted g.tree 0 a.waiting) [] (next g.tree)
    (λ p. ap (λ v. counted g.tree 0 a.waiting ++ v) (ap (counted p 0) (sym w) ∙ sym (append-nil _)))
    (spells g.tree 0 a.waiting)
    g.did g.fine
    (go_next g.tree) h

pub none_left : (xs : List ℕ) → is_some (first xs) ≡ false → xs ≡ []
none_left [] e = refl
none_left (x ∷ xs) e = cc

long_line : (t : Tree line) → 1 ≤ length (text t)
long_line (row k s) = omega arith

-- behind a line that was read there is less left
pub smaller : {a b c : Reader} → Got script 0 a b → Got line 0 b c → length a.src.now - c.pos < length a.src.now - b.pos
smaller {a} {b} {c} s r = omega (arith, r.did.on, long_line r.tree, c.inside, ap length r.did.same, ap length s.did.same)
