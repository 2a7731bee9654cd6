-- A refusal in each part of a tree.
use Rattle.std.proofs.Common.{◌≡◌, ℕ, ◌+◌, ◌≤◌, List, [], ◌∷◌, ◌++◌, length, drop, Some, None, Ok, Err, Result, sym, refl, ap, ◌∙◌, subst, append_assoc, append-nil, arith}
use Rattle.std.proofs.lemmas.List.{map-append, length-map}
use Rattle.std.specs.Result.{IsErrAnd}
use Rattle.recipe.specs.declared.reader.Reader.{Reader}
use Rattle.recipe.specs.declared.fault.Fault.{Fault}
use Rattle.recipe.specs.Trees.{Cat, sum, product, part, closed, Prefix, Tree, one, plus, single, times, prefixed, round, pieces, closes, spelled, text}
use Rattle.recipe.specs.Limits.{plain, opens, ahead, counted, Within}
use Rattle.recipe.specs.Devices.Reading.{codes}
use Rattle.recipe.specs.Devices.Machine.{in_round, in_first, in_second, in_third, in_fourth, State, want, run, Blocked, Opens, o_part, o_product, o_sum, o_closed}
use Rattle.recipe.specs.declared.reader.grammar.Start.{Start}
use Rattle.recipe.specs.declared.reader.grammar.Start.TheVariants.{Ahead, Bracket, Pieces}
use Rattle.recipe.specs.declared.step.Step.{Step}
use Rattle.recipe.specs.Devices.Reading.{Starts, left, first, Took, Got, Ends, Expected, Reads, Lost}
use Rattle.recipe.proofs.Walks.{run_prefix, through, walk}
use Rattle.recipe.proofs.Moves.{stay, both, fine_++, fine_ahead, got_closed, got_round}
use Rattle.recipe.proofs.Refusals.{inside, spells, spells_prefix, blocked_done, filler}

-- a refusal that a `?` passes on
pub passed : {c : Cat} {l : ℕ} {a : Reader} {f : Fault} (b : Reader) (r : Result (Unit {0}) Fault) → IsErrAnd r (λ y. y ≡ f) → Lost c l a f → Reads c l a b r
passed b (Ok x) q h = absurd q
passed {c} {l} {a} b (Err y) q h = subst (Lost c l a) (sym q) h

-- the first part of a product, the first product of a sum
go_single : (σ : State) → Opens product σ → Opens part (run σ [])
go_single σ (o_product {s} {c}) = o_part

pub lost_single : {l : ℕ} {a : Reader} {f : Fault} → Lost part l a f → Lost product l a f
lost_single {l} {a} {f} h = inside [] [] single (λ t. sym (append-nil (counted t l a.waiting))) refl (stay a) tt go_single h

go_one : (σ : State) → Opens sum σ → Opens product (run σ [])
go_one σ (o_sum {c}) = o_product

pub lost_one : {l : ℕ} {a : Reader} {f : Fault} → Lost product l a f → Lost sum l a f
lost_one {l} {a} {f} h = inside [] [] one (λ t. sym (append-nil (counted t l a.waiting))) refl (stay a) tt go_one h

-- a later part, a later product
go_times : (q : Tree product) (σ : State) → Opens product σ → Opens part (run σ (text q ++ 42 ∷ []))
go_times q σ (o_product {s} {c}) = subst (Opens part) (sym (through (want [] None s c) (text q) (42 ∷ []) (walk q s c) refl)) o_part

pub lost_times : {l : ℕ} {a b c : Reader} {f : Fault} → Got product l a b → Took (42 ∷ []) b c → Lost part l c f → Lost product l a f
lost_times {l} {a} {b} {c} {f} g t h =
    let q = g.tree in
    inside (counted q l a.waiting ++ plain 42 ∷ []) [] (times q)
    (λ p. ap (λ v. counted q l a.waiting ++ plain 42 ∷ v) (ap (counted p l) (sym (t.waits ∙ g.waits)) ∙ sym (append-nil _)) ∙ sym (append_assoc (counted q l a.waiting) (plain 42 ∷ []) _))
    (map-append _ (counted q l a.waiting) _ ∙ ap (λ v. v ++ 42 ∷ []) (spells q l a.waiting))
    (both g.did t.did)
    (fine_++ (counted q l a.waiting) _ g.fine (omega arith, omega arith, tt))
    (go_times q) h

go_plus : (q : Tree sum) (σ : State) → Opens sum σ → Opens product (run σ (text q ++ 43 ∷ []))
go_plus q σ (o_sum {c}) = subst (Opens product) (sym (through (want [] None None c) (text q) (43 ∷ []) (walk q c) refl)) o_product

pub lost_plus : {l : ℕ} {a b c : Reader} {f : Fault} → Got sum l a b → Took (43 ∷ []) b c → Lost product l c f → Lost sum l a f
lost_plus {l} {a} {b} {c} {f} g t h =
    let q = g.tree in
    inside (counted q l a.waiting ++ plain 43 ∷ []) [] (plus q)
    (λ p. ap (λ v. counted q l a.waiting ++ plain 43 ∷ v) (ap (counted p l) (sym (t.waits ∙ g.waits)) ∙ sym (append-nil _)) ∙ sym (append_assoc (counted q l a.waiting) (plain 43 ∷ []) _))
    (map-append _ (counted q l a.waiting) _ ∙ ap (λ v. v ++ 43 ∷ []) (spells q l a.waiting))
    (both g.did t.did)
    (fine_++ (counted q l a.waiting) _ g.fine (omega arith, omega arith, tt))
    (go_plus q) h

-- the part behind a prefix
go_prefixed : (x : Prefix) (σ : State) → Opens part σ → Opens part (run σ (spelled x))
go_prefixed x σ (o_part {o} {m} {s} {c}) = subst (Opens part) (sym (run_prefix x o m s c)) o_part

pub lost_prefixed : {l : ℕ} {a b : Reader} {f : Fault} {o : Step} → Starts l a b (Ok (Ahead o)) → Lost part (l + 1) b f → Lost part l a f
lost_prefixed {l} {a} {b} {f} s h =
    let x = s.0.0 in
    let t = s.0.2 in
    inside (ahead x (l + 1)) [] (prefixed x)
    (λ p. ap (λ v. ahead x (l + 1) ++ v) (ap (counted p (l + 1)) (sym t.waits) ∙ sym (append-nil _)))
    (spells_prefix x (l + 1))
    t.did
    (fine_ahead x (l + 1) (omega arith))
    (go_prefixed x) h

-- the sum inside round brackets
go_round : (σ : State) → Opens part σ → Opens (closed 41) (run σ (40 ∷ []))
go_round σ (o_part {o} {m} {s} {c}) = o_closed {c = in_round o m s c}

pub lost_round : {l : ℕ} {a b : Reader} {f : Fault} → Starts l a b (Ok Bracket) → Lost (closed 41) (l + 1) b f → Lost part l a f
lost_round {l} {a} {b} {f} s h =
    inside (opens 40 (l + 1) ∷ []) [] round
    (λ p. ap (λ v. opens 40 (l + 1) ∷ v) (ap (counted p (l + 1)) (sym s.0.waits) ∙ sym (append-nil _)))
    refl
    s.0.did
    (omega arith, omega arith, tt)
    go_round h

-- the sum before its closing byte, and that byte
go_closed : (e : ℕ) (σ : State) → Opens (closed e) σ → Opens sum (run σ [])
go_closed e σ (o_closed {c}) = o_sum

pub lost_closed : {l : ℕ} {a : Reader} {f : Fault} (e : ℕ) → Lost sum l a f → Lost (closed e) l a f
lost_closed {l} {a} {f} e h = inside [] (plain e ∷ []) (closes e) (λ t. refl) refl (stay a) tt (go_closed e) h

at_close : (e : ℕ) (t : Tree sum) (xs : List ℕ) (σ : State) → Opens (closed e) σ → (first xs ≡ Some 42 → ⊥) → (first xs ≡ Some 43 → ⊥) → (first xs ≡ Some e → ⊥) → Blocked (run σ (text t)) xs
at_close e t xs σ (o_closed {c}) a1 a2 a3 = subst (λ v. Blocked v xs) (sym (walk t c)) (blocked_done xs _ _ c a1 a2 a3)

pub closed_reads : {l : ℕ} {a b : Reader} (c : Reader) (e : ℕ) (r : Result (Unit {0}) Fault) → Got sum l a b → Ends sum (first (left b)) → Expected e b c r → Reads (closed e) l a c r
closed_reads c e (Ok v) g s x = (got_closed e g x, tt)
closed_reads {l} {a} {b} c e (Err f) g s x =
    let before = counted g.tree l a.waiting in
    let word : codes before ≡ text g.tree = spells g.tree l a.waiting in
    subst (Lost (closed e) l a) (sym x.0)
    (record {
      tree = closes e g.tree;
      before = before;
      here = plain e;
      after = [];
      is = refl;
      split = g.did.split ∙ (λ i. sym word i ++ drop b.pos (g.did.same i));
      at = omega (arith, g.did.on, simp length-map at (ap length word));
      inside = subst (λ v. b.pos ≤ length v) g.did.same b.inside;
      fine = g.fine;
      why = λ σ o. subst (λ v. Blocked (run σ v) (drop b.pos a.src.now)) (sym word) (subst (λ v. Blocked (run σ (text g.tree)) (drop b.pos v)) g.did.same (at_close e g.tree (left b) σ o s.0 s.1 x.1));
    })

pub round_reads : {l : ℕ} {a b : Reader} (c : Reader) (r : Result (Unit {0}) Fault) → Starts l a b (Ok Bracket) → Reads (closed 41) (l + 1) b c r → Reads part l a c r
round_reads c (Ok v) s x = (got_round s x.0, tt)
round_reads c (Err f) s x = lost_round s x

pub started : {o p : Start} (l : ℕ) (a b : Reader) → o ≡ p → Starts l a b (Ok o) → Starts l a b (Ok p)
started l a b e h = subst (λ v. Starts l a b (Ok v)) e h

-- the four corners
go_first : (σ : State) → Opens part σ → Opens (closed 44) (run σ (91 ∷ []))
go_first σ (o_part {o} {m} {s} {c}) = o_closed {c = in_first o m s c}

pub lost_first : {l : ℕ} {a b : Reader} {f : Fault} → Starts l a b (Ok Pieces) → Lost (closed 44) (l + 1) b f → Lost part l a f
lost_first {l} {a} {b} {f} s h =
    inside (opens 91 (l + 1) ∷ []) (counted (filler 44) (l + 1) (a.waiting + 1) ++ (counted (filler 44) (l + 1) (a.waiting + 2) ++ counted (filler 93) (l + 1) (a.waiting + 3))) (λ p. pieces p (filler 44) (filler 44) (filler 93))
    (λ p. ap (λ v. opens 91 (l + 1) ∷ counted p (l + 1) v ++ (counted (filler 44) (l + 1) (a.waiting + 1) ++ (counted (filler 44) (l + 1) (a.waiting + 2) ++ counted (filler 93) (l + 1) (a.waiting + 3)))) (sym s.0.waits))
    refl
    s.0.did
    (omega arith, omega arith, tt)
    go_first h

go_second : (x : Tree (closed 44)) (σ : State) → Opens part σ → Opens (closed 44) (run σ (91 ∷ text x))
go_second x σ (o_part {o} {m} {s} {c}) = subst (Opens (closed 44)) (sym (walk x (in_first o m s c) refl)) (o_closed {c = in_second _ o m s c})

pub lost_second : {l : ℕ} {a b c : Reader} {f : Fault} → Starts l a b (Ok Pieces) → Got (closed 44) (l + 1) b c → Lost (closed 44) (l + 1) c f → Lost part l a f
lost_second {l} {a} {b} {c} {f} s x h =
    let w : c.waiting ≡ a.waiting + 1 = omega (arith, x.waits, s.0.waits) in
    inside (opens 91 (l + 1) ∷ counted x.tree (l + 1) a.waiting) (counted (filler 44) (l + 1) (a.waiting + 2) ++ counted (filler 93) (l + 1) (a.waiting + 3)) (λ p. pieces x.tree p (filler 44) (filler 93))
    (λ p. ap (λ v. opens 91 (l + 1) ∷ counted x.tree (l + 1) a.waiting ++ (counted p (l + 1) v ++ (counted (filler 44) (l + 1) (a.waiting + 2) ++ counted (filler 93) (l + 1) (a.waiting + 3)))) (sym w))
    (ap (λ v. 91 ∷ v) (spells x.tree (l + 1) a.waiting))
    (both s.0.did x.did)
    (omega arith, omega arith, subst (λ v. Within (counted x.tree (l + 1) v)) s.0.waits x.fine)
    (go_second x.tree) h

go_third : (x y : Tree (closed 44)) (σ : State) → Opens part σ → Opens (closed 44) (run σ (91 ∷ text x ++ text y))
go_third x y σ (o_part {o} {m} {s} {c}) = subst (Opens (closed 44)) (sym (through (want [] None None (in_first o m s c)) (text x) (text y) (walk x (in_first o m s c) refl) (walk y (in_second _ o m s c) refl))) (o_closed {c = in_third _ _ o m s c})

pub lost_third : {l : ℕ} {a b c d : Reader} {f : Fault} → Starts l a b (Ok Pieces) → Got (closed 44) (l + 1) b c → Got (closed 44) (l + 1) c d → Lost (closed 44) (l + 1) d f → Lost part l a f
lost_third {l} {a} {b} {c} {d} {f} s x y h =
    let w : c.waiting ≡ a.waiting + 1 = omega (arith, x.waits, s.0.waits) in
    let w₃ : d.waiting ≡ a.waiting + 2 = omega (arith, y.waits) in
    let X = counted x.tree (l + 1) a.waiting in
    let Y = counted y.tree (l + 1) (a.waiting + 1) in
    inside (opens 91 (l + 1) ∷ X ++ Y) (counted (filler 93) (l + 1) (a.waiting + 3)) (λ p. pieces x.tree y.tree p (filler 93))
    (λ p. ap (λ v. opens 91 (l + 1) ∷ X ++ (Y ++ (counted p (l + 1) v ++ counted (filler 93) (l + 1) (a.waiting + 3)))) (sym w₃) ∙ ap (λ v. opens 91 (l + 1) ∷ v) (sym (append_assoc X Y _)))
    (ap (λ v. 91 ∷ v) (map-append _ X Y ∙ (λ i. spells x.tree (l + 1) a.waiting i ++ spells y.tree (l + 1) (a.waiting + 1) i)))
    (both s.0.did (both x.did y.did))
    (omega arith, omega arith, fine_++ X Y (subst (λ v. Within (counted x.tree (l + 1) v)) s.0.waits x.fine) (subst (λ v. Within (counted y.tree (l + 1) v)) w y.fine))
    (go_third x.tree y.tree) h

go_fourth : (x y z : Tree (closed 44)) (σ : State) → Opens part σ → Opens (closed 93) (run σ (91 ∷ text x ++ (text y ++ text z)))
go_fourth x y z σ (o_part {o} {m} {s} {c}) =
    subst (Opens (closed 93))
    (sym (through (want [] None None (in_first o m s c)) (text x) (text y ++ text z) (walk x (in_first o m s c) refl)
    (through _ (text y) (text z) (walk y (in_second _ o m s c) refl) (walk z (in_third _ _ o m s c) refl))))
    (o_closed {c = in_fourth _ _ _ o m s c})

pub lost_fourth : {l : ℕ} {a b c d e : Reader} {f : Fault} → Starts l a b (Ok Pieces) → Got (closed 44) (l + 1) b c → Got (closed 44) (l + 1) c d → Got (closed 44) (l + 1) d e → Lost (closed 93) (l + 1) e f → Lost part l a f
lost_fourth {l} {a} {b} {c} {d} {e} {f} s x y z h =
    let w : c.waiting ≡ a.waiting + 1 = omega (arith, x.waits, s.0.waits) in
    let w₃ : d.waiting ≡ a.waiting + 2 = omega (arith, y.waits) in
    let w₄ : e.waiting ≡ a.waiting + 3 = omega (arith, z.waits) in
    let X = counted x.tree (l + 1) a.waiting in
    let Y = counted y.tree (l + 1) (a.waiting + 1) in
    let Z = counted z.tree (l + 1) (a.waiting + 2) in
    inside (opens 91 (l + 1) ∷ X ++ (Y ++ Z)) [] (λ p. pieces x.tree y.tree z.tree p)
    (λ p. ap (λ v. opens 91 (l + 1) ∷ X ++ (Y ++ (Z ++ v))) (ap (counted p (l + 1)) (sym w₄) ∙ sym (append-nil _)) ∙ ap (λ v. opens 91 (l + 1) ∷ v) (ap (λ v. X ++ v) (sym (append_assoc Y Z _)) ∙ sym (append_assoc X (Y ++ Z) _)))
    (ap (λ v. 91 ∷ v) (map-append _ X (Y ++ Z) ∙ (λ i. spells x.tree (l + 1) a.waiting i ++ (map-append _ Y Z ∙ (λ j. spells y.tree (l + 1) (a.waiting + 1) j ++ spells z.tree (l + 1) (a.waiting + 2) j)) i)))
    (both s.0.did (both x.did (both y.did z.did)))
    (omega arith, omega arith, fine_++ X (Y ++ Z) (subst (λ v. Within (counted x.tree (l + 1) v)) s.0.waits x.fine) (fine_++ Y Z (subst (λ v. Within (counted y.tree (l + 1) v)) w y.fine) (subst (λ v. Within (counted z.tree (l + 1) v)) w₃ z.fine)))
    (go_fourth x.tree y.tree z.tree) h
