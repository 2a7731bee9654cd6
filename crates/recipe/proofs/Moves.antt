-- What reading a tree does, put together from its parts.
use Rattle.std.proofs.Common.{◌≡◌, ℕ, ◌+◌, ◌-◌, ◌<◌, ◌≤◌, Ok, List, [], ◌∷◌, ◌++◌, length, sym, refl, ap, ◌∙◌, subst, append_assoc, append-nil, add-zero, arith, length-append}
use Rattle.recipe.specs.declared.reader.Reader.{Reader}
use Rattle.recipe.specs.declared.step.Step.{Step}
use Rattle.recipe.specs.declared.step.Step.TheVariants.{Name, Add, Multiply, Piece}
use Rattle.recipe.specs.declared.place.Place.{Place}
use Rattle.recipe.specs.Places.{letter}
use Rattle.recipe.specs.Trees.{Cat, sum, product, part, closed, Prefix, turn, mirror, zoom, Tree, one, plus, single, times, name, prefixed, round, pieces, closes, row, blank, next, spelled, text}
use Rattle.recipe.specs.Steps.{steps}
use Rattle.recipe.specs.Limits.{Byte, ahead, counted, Within}
use Rattle.recipe.specs.declared.reader.grammar.Opening.{Opening}
use Rattle.recipe.specs.declared.reader.grammar.Start.TheVariants.{Ahead, Bracket, Pieces}
use Rattle.recipe.specs.Devices.Reading.{opener, left, made, Did, Took, Pushed, Got, Starts}

-- nothing was read
pub stay : (a : Reader) → Did [] [] a a
stay a = record { same = refl; split = refl; on = sym (add-zero a.pos); count = sym (add-zero a.recipe.count); adds = sym (append-nil (made a)) }

-- one after the other
pub both : {xs ys : List ℕ} {ss ts : List Step} {a b c : Reader} → Did xs ss a b → Did ys ts b c → Did (xs ++ ys) (ss ++ ts) a c
both {xs} {ys} {ss} {ts} {a} {b} {c} p q = record {
  same = q.same ∙ p.same;
  split = p.split ∙ ap (λ v. xs ++ v) q.split ∙ sym (append_assoc xs ys (left c));
  on = simp length-append (omega (arith, p.on, q.on));
  count = simp length-append (omega (arith, p.count, q.count));
  adds = q.adds ∙ ap (λ v. v ++ ts) p.adds ∙ append_assoc (made a) ss ts;
}

pub took_both : {xs ys : List ℕ} {a b c : Reader} → Took xs a b → Took ys b c → Took (xs ++ ys) a c
took_both p q = record { did = both p.did q.did; waits = q.waits ∙ p.waits }

pub took_is : {o p : Opening} {a b : Reader} → o ≡ p → Took (opener o ∷ []) a b → Took (opener p ∷ []) a b
took_is {a = a} {b = b} e t = subst (λ v. Took (opener v ∷ []) a b) e t

-- the same codes and steps, written otherwise
pub same_did : {xs ys : List ℕ} {ss ts : List Step} {a b : Reader} → xs ≡ ys → ss ≡ ts → Did xs ss a b → Did ys ts a b
same_did {xs} {ys} {ss} {ts} {a} {b} e g d = subst (λ v. Did v ts a b) e (subst (λ v. Did xs v a b) g d)

pub fine_++ : (xs ys : List Byte) → Within xs → Within ys → Within (xs ++ ys)
fine_++ [] ys p q = q
fine_++ (x ∷ xs) ys p q = (p.0, p.1, fine_++ xs ys p.2 q)

pub fewer : {c : Cat} (t : Tree c) (i : ℕ) → length (steps t i) ≤ length (text t)
fewer (one p) i = fewer p i
fewer (plus s p) i = simp length-append (omega (arith, fewer s i, fewer p (i + length (text s) + 1)))
fewer (single p) i = fewer p i
fewer (times q p) i = simp length-append (omega (arith, fewer q i, fewer p (i + length (text q) + 1)))
fewer (name k) i = omega arith
fewer (prefixed turn p) i = simp length-append (omega (arith, fewer p (i + 1)))
fewer (prefixed mirror p) i = simp length-append (omega (arith, fewer p (i + 1)))
fewer (prefixed (zoom d) p) i = simp length-append (omega (arith, fewer p (i + 2)))
fewer (round s) i = omega (arith, fewer s (i + 1))
fewer (pieces x y z u) i =
    simp length-append (omega (arith, fewer x (i + 1), fewer y (i + 1 + length (text x)), fewer z (i + 1 + length (text x) + length (text y)), fewer u (i + 1 + length (text x) + length (text y) + length (text z))))
fewer (closes b s) i = simp length-append (omega (arith, fewer s i))
fewer (row k s) i = simp length-append (omega (arith, fewer s (i + 2)))
fewer blank i = omega arith
fewer (next s r) i = simp length-append (omega (arith, fewer s i, fewer r (i + length (text s))))

-- a name
pub got_name : {l : ℕ} {k : Place} {a b c : Reader} → a.waiting < 6 → Took (letter k ∷ []) a b → Pushed (Name k) (b.waiting + 1) b c → Got part l a c
got_name {l} {k} {a} {b} {c} lt t p = record {
  tree = name k;
  did = both t.did p.did;
  waits = p.waits ∙ ap (λ v. v + 1) t.waits;
  fine = (omega arith, omega arith, tt);
}

pub fine_ahead : (x : Prefix) (l : ℕ) → l ≤ 16 → Within (ahead x l)
fine_ahead turn l h = (h, omega arith, tt)
fine_ahead mirror l h = (h, omega arith, tt)
fine_ahead (zoom d) l h = (h, omega arith, (omega arith, omega arith, tt))

-- a part behind '@', '|' or '^' and a digit
pub got_prefixed : {l : ℕ} {a b c d : Reader} {s : Step} → Starts l a b (Ok (Ahead s)) → Got part (l + 1) b c → Pushed s c.waiting c d → Got part l a d
got_prefixed {l} {a} {b} {c} {d} {s} h g p =
    let x = h.0.0 in
    let is = h.0.1 in
    let t = h.0.2 in
    record {
      tree = prefixed x g.tree;
      did = same_did (ap (λ v. spelled x ++ v) (append-nil (text g.tree))) (λ i. steps g.tree (t.did.on i) ++ sym is i ∷ []) (both t.did (both g.did p.did));
      waits = p.waits ∙ g.waits ∙ ap (λ v. v + 1) t.waits;
      fine = fine_++ (ahead x (l + 1)) _ (fine_ahead x (l + 1) (omega arith)) (subst (λ v. Within (counted g.tree (l + 1) v)) t.waits g.fine);
    }

-- a sum and the byte behind it
pub got_closed : {l : ℕ} {a b c : Reader} (e : ℕ) → Got sum l a b → Took (e ∷ []) b c → Got (closed e) l a c
got_closed {l} {a} {b} {c} e g t = record {
  tree = closes e g.tree;
  did = same_did refl (append-nil (steps g.tree a.pos)) (both g.did t.did);
  waits = t.waits ∙ g.waits;
  fine = fine_++ (counted g.tree l a.waiting) _ g.fine (omega arith, omega arith, tt);
}

pub got_round : {l : ℕ} {a b c : Reader} → Starts l a b (Ok Bracket) → Got (closed 41) (l + 1) b c → Got part l a c
got_round {l} {a} {b} {c} s g = record {
  tree = round g.tree;
  did = same_did refl (ap (steps g.tree) s.0.did.on) (both s.0.did g.did);
  waits = g.waits ∙ ap (λ v. v + 1) s.0.waits;
  fine = (omega arith, omega arith, subst (λ v. Within (counted g.tree (l + 1) v)) s.0.waits g.fine);
}

pub got_single : {l : ℕ} {a b : Reader} → Got part l a b → Got product l a b
got_single g = record { tree = single g.tree; did = g.did; waits = g.waits; fine = g.fine }

pub got_one : {l : ℕ} {a b : Reader} → Got product l a b → Got sum l a b
got_one g = record { tree = one g.tree; did = g.did; waits = g.waits; fine = g.fine }

pub got_times : {l : ℕ} {a b c d e : Reader} → Got product l a b → Took (42 ∷ []) b c → Got part l c d → Pushed (Multiply (c.pos - 1)) (d.waiting - 1) d e → Got product l a e
got_times {l} {a} {b} {c} {d} {e} q t g p =
    let n : c.pos ≡ a.pos + length (text q.tree) + 1 = omega (arith, t.did.on, q.did.on) in
    let m : c.pos - 1 ≡ a.pos + length (text q.tree) = omega arith in
    record {
      tree = times q.tree g.tree;
      did = same_did (ap (λ v. text q.tree ++ 42 ∷ v) (append-nil (text g.tree))) (λ i. steps q.tree a.pos ++ (steps g.tree (n i) ++ Multiply (m i) ∷ [])) (both q.did (both t.did (both g.did p.did)));
      waits = omega (arith, p.waits, g.waits, t.waits, q.waits);
      fine = fine_++ (counted q.tree l a.waiting) _ q.fine (omega arith, omega arith, subst (λ v. Within (counted g.tree l v)) (t.waits ∙ q.waits) g.fine);
    }

pub got_plus : {l : ℕ} {a b c d e : Reader} → Got sum l a b → Took (43 ∷ []) b c → Got product l c d → Pushed (Add (c.pos - 1)) (d.waiting - 1) d e → Got sum l a e
got_plus {l} {a} {b} {c} {d} {e} q t g p =
    let n : c.pos ≡ a.pos + length (text q.tree) + 1 = omega (arith, t.did.on, q.did.on) in
    let m : c.pos - 1 ≡ a.pos + length (text q.tree) = omega arith in
    record {
      tree = plus q.tree g.tree;
      did = same_did (ap (λ v. text q.tree ++ 43 ∷ v) (append-nil (text g.tree))) (λ i. steps q.tree a.pos ++ (steps g.tree (n i) ++ Add (m i) ∷ [])) (both q.did (both t.did (both g.did p.did)));
      waits = omega (arith, p.waits, g.waits, t.waits, q.waits);
      fine = fine_++ (counted q.tree l a.waiting) _ q.fine (omega arith, omega arith, subst (λ v. Within (counted g.tree l v)) (t.waits ∙ q.waits) g.fine);
    }

pub got_pieces : {l : ℕ} {a b c d e f g : Reader} → Starts l a b (Ok Pieces) → Got (closed 44) (l + 1) b c → Got (closed 44) (l + 1) c d → Got (closed 44) (l + 1) d e → Got (closed 93) (l + 1) e f → Pushed (Piece (f.pos - 1)) (f.waiting - 3) f g → Got part l a g
got_pieces {l} {a} {b} {c} {d} {e} {f} {g} s x y z u p =
    let n₁ : b.pos ≡ a.pos + 1 = s.0.did.on in
    let n₂ : c.pos ≡ a.pos + 1 + length (text x.tree) = omega (arith, x.did.on) in
    let n₃ : d.pos ≡ a.pos + 1 + length (text x.tree) + length (text y.tree) = omega (arith, y.did.on) in
    let n₄ : e.pos ≡ a.pos + 1 + length (text x.tree) + length (text y.tree) + length (text z.tree) = omega (arith, z.did.on) in
    let n₅ : f.pos - 1 ≡ a.pos + length (text x.tree) + length (text y.tree) + length (text z.tree) + length (text u.tree) = omega (arith, u.did.on) in
    let w₁ : b.waiting ≡ a.waiting = s.0.waits in
    let w₂ : c.waiting ≡ a.waiting + 1 = omega (arith, x.waits) in
    let w₃ : d.waiting ≡ a.waiting + 2 = omega (arith, y.waits) in
    let w₄ : e.waiting ≡ a.waiting + 3 = omega (arith, z.waits) in
    record {
      tree = pieces x.tree y.tree z.tree u.tree;
      did =
          same_did
          (ap (λ v. 91 ∷ text x.tree ++ (text y.tree ++ (text z.tree ++ v))) (append-nil (text u.tree)))
          (λ i. steps x.tree (n₁ i) ++ (steps y.tree (n₂ i) ++ (steps z.tree (n₃ i) ++ (steps u.tree (n₄ i) ++ Piece (n₅ i) ∷ []))))
          (both s.0.did (both x.did (both y.did (both z.did (both u.did p.did)))));
      waits = omega (arith, p.waits, u.waits);
      fine = (
        omega arith,
        omega arith,
        fine_++ (counted x.tree (l + 1) a.waiting) _ (subst (λ v. Within (counted x.tree (l + 1) v)) w₁ x.fine)
            (fine_++ (counted y.tree (l + 1) (a.waiting + 1)) _ (subst (λ v. Within (counted y.tree (l + 1) v)) w₂ y.fine)
            (fine_++ (counted z.tree (l + 1) (a.waiting + 2)) _ (subst (λ v. Within (counted z.tree (l + 1) v)) w₃ z.fine)
            (subst (λ v. Within (counted u.tree (l + 1) v)) w₄ u.fine))),
      );
    }

pub long_prefix : (x : Prefix) → 1 ≤ length (spelled x)
long_prefix turn = omega arith
long_prefix mirror = omega arith
long_prefix (zoom d) = omega arith

pub room_after : {xs : List ℕ} {c : Cat} {l : ℕ} {a b d : Reader} → 1 ≤ length xs → Took xs a b → Got c l b d → d.recipe.count < d.pos
room_after {xs} {a = a} {b = b} n t g = omega (arith, g.did.count, g.did.on, t.did.count, t.did.on, a.room, fewer g.tree b.pos)

pub room_more : {c : Cat} {l : ℕ} {a b : Reader} → a.recipe.count < a.pos → Got c l a b → b.recipe.count < b.pos
room_more {a = a} h g = omega (arith, g.did.count, g.did.on, fewer g.tree a.pos)
