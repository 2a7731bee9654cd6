-- What a writer put.
use Rattle.std.proofs.Common.{◌≡◌, ℕ, ◌+◌, ◌*◌, ◌<◌, ◌≤◌, List, [], ◌∷◌, ◌++◌, length, get_or, take, drop, sym, ap, ◌∙◌, subst, ap₂, arith}
use Rattle.std.specs.declared.iter.Zip.{Zip}
use Rattle.std.specs.declared.slice.Iter.{Iter}
use Rattle.std.specs.Prelude.{Some, Option}
use Rattle.std.specs.Borrow.{Bor}
use Rattle.std.specs.Iterator.{Yields}
use Rattle.std.specs.Iterator.Adapters.{zip_first, zip_second}
use Rattle.std.specs.Slice.Iter.{iter_rest}
use Rattle.std.proofs.iter.Yields.{fronts}
use Rattle.std.proofs.lemmas.Iterator.{zips}
use Rattle.std.proofs.lemmas.Slice.Zip.{zip_turn}
use Rattle.std.proofs.lemmas.List.{append_assoc, length-append, drop-drop, take-append-drop}
use Rattle.std.specs.List.{zip, flat_map}
use Rattle.weight.specs.Words.{Writing}
use Rattle.weight.specs.declared.kind.Weight.{Ghosts as Weight}
use Rattle.weight.specs.declared.written.Written.{Ghosts as Written}
use Rattle.picture.specs.Bodies.{Body}
use Rattle.words.specs.Format.{head_word, state_words, edge_words, words_of}
use Rattle.words.specs.Inner.{Put}
use Rattle.words.specs.declared.writer.Writer.{Writer}
use Rattle.words.proofs.Sizes.{one_fits}
use Rattle.words.proofs.Zipping.{so_far, pair_read}

pub put_both : {W : Type 0} {w : Written W} {base : Weight W} {a b d : Writer W w base} {xs ys : List ℕ} → Put xs a b → Put ys b d → Put (xs ++ ys) a d
put_both {a = a} {b = b} {d = d} {xs = xs} {ys = ys} p q =
    let further : (zs : List ℕ) → drop d.position zs ≡ drop (length ys) (drop b.position zs) = λ zs. ap (λ n. drop n zs) q.on ∙ sym (drop-drop (length ys) b.position zs) in
    record {
      on = omega (arith, p.on, q.on, length-append xs ys);
      front = q.front ∙ ap (λ zs. zs ++ ys) p.front ∙ append_assoc (take a.position a.out.now) xs ys;
      back = q.back ∙ further b.out.now ∙ ap (drop (length ys)) p.back ∙ sym (further a.out.now);
      long = q.long ∙ p.long;
      same = q.same ∙ p.same;
    }

pub put_as : {W : Type 0} {w : Written W} {base : Weight W} {a b : Writer W w base} {xs ys : List ℕ} → xs ≡ ys → Put xs a b → Put ys a b
put_as {a = a} {b = b} e p = subst (λ zs. Put zs a b) e p

-- one pair more of two slices side by side
module _ {A B W : Type 0} {w : Written W} {base : Weight W} (f : A × B → List ℕ) {a b : Writer W w base} {xs : List A} {ys : List B} (ps : List (Bor A × Bor B)) (s t u : Zip (Iter A) (Iter B)) {r : Option (Bor A × Bor B)} {p : Bor A × Bor B}
    (put : Put (so_far f (length ps) xs ys) a b) (first : iter_rest (zip_first s) ≡ xs) (second : iter_rest (zip_second s) ≡ ys) (before : Yields (zips fronts fronts) s ps t) (some : r ≡ Some p) (step : zips fronts fronts t r u) where
  abbrev turn : (length ps < length xs) × (length ps < length ys) × ((x : A) → p.0.now ≡ get_or xs (length ps) x) × ((y : B) → p.1.now ≡ get_or ys (length ps) y)
  turn = zip_turn xs ys ps s t u r first second before p some step

  -- there is room for it
  pub pair_fits : (x : ℕ) → ((z : A × B) → length (f z) ≡ x) → a.position + length xs * x ≤ length a.out.now → b.position + x ≤ length b.out.now
  pair_fits x each room =
      let fits = one_fits f x each (length ps) xs ys a.position b.position (length a.out.now) turn.0 turn.1 room put.on in
      omega (arith, fits, put.long)

  -- it is put
  pub put_pair : {d : Writer W w base} (ws : List ℕ) → ws ≡ f (p.0.now, p.1.now) → Put ws b d → Put (so_far f (length (ps ++ (p ∷ []))) xs ys) a d
  put_pair ws e q =
      let x = p.0.now in
      let y = p.1.now in
      let more = sym (pair_read f (length ps) xs ys x y turn.0 turn.1 (turn.2 x) (turn.3 y)) ∙ ap (λ n. so_far f n xs ys) (sym (length-append ps (p ∷ []))) in
      put_as (ap (λ us. so_far f (length ps) xs ys ++ us) e ∙ more) (put_both put q)

-- a body from the start on
pub put_words : {W : Type 0} (s : Writing W) (body : Body W) {w : Written W} {base : Weight W} {a b d e : Writer W w base} (x : ℕ) (us vs : List ℕ) (end : ℕ) → x ≡ head_word s body.states (length body.arcs)
    → us ≡ flat_map (state_words s) (zip body.first body.last) → vs ≡ flat_map (edge_words s) body.arcs → end ≡ length (words_of s body)
    → a.position ≡ 0 → Put (x ∷ []) a b → Put us b d → Put vs d e → e.out.now ≡ words_of s body ++ drop end a.out.now
put_words s body {a = a} {b = b} {d = d} {e = e} x us vs end ex eu ev ee start p q r =
    let all = put_as (ap₂ ◌∷◌ ex (ap₂ ◌++◌ eu ev)) (put_both p (put_both q r)) in
    let at : e.position ≡ end = omega (arith, all.on) in
    sym (take-append-drop e.position e.out.now) ∙ ap₂ ◌++◌ (all.front ∙ ap (λ n. take n a.out.now ++ words_of s body) start) (all.back ∙ ap (λ n. drop n a.out.now) at)
