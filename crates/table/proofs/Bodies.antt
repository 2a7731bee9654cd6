-- The bodies of the places after a write to a bay.
use Rattle.std.proofs.Common.{◌≡◌, ℕ, ◌+◌, ◌*◌, ◌<◌, ◌≤◌, Bool, true, false, cond, eqb, ◌≢◌, List, ◌++◌, length, take, drop, sym, refl, ap, ◌∙◌, ap₂, ⊎_elim, arith, rules}
use mathlib.Core.Path.{fun_ext}
use borrow.Rule.Slice.PartMut.{put_mid}
use Rattle.std.specs.List.{between}
use Rattle.std.proofs.lemmas.List.Edits.{length-between, split_between}
use Rattle.std.proofs.lemmas.List.{drop-drop, length-take-le, take-append-drop, take-append-le}
use Rattle.std.proofs.lemmas.Slice.{overwrites, between_is, between-put_mid}
use Rattle.std.proofs.lemmas.Bool.{eqb-true, eqb-false, cases_lt}
use Rattle.picture.specs.Bodies.{Body}
use Rattle.picture.specs.Stored.{stored}
use Rattle.picture.specs.declared.body.Record.{Record}
use Rattle.recipe.specs.Evaluations.{put}
use Rattle.recipe.specs.Places.{number}
use Rattle.recipe.specs.declared.place.Place.{Place}
use Rattle.recipe.proofs.Numbers.{number_below}
use Rattle.stack.specs.Drawing.{blank}
use Rattle.stack.specs.Waiting.{bay}
use Rattle.stack.proofs.Slots.{bay_before}
use Rattle.table.specs.Tables.{record_of, body_of, Blank}
use Rattle.table.specs.declared.table.Table.{Table}

-- a bay within the memory has 640 weights
pub length_bay : {W : Type 0} (i : ℕ) (memory : List W) → 640 * i + 640 ≤ length memory → length (bay i memory) ≡ 640
length_bay i memory long = length-between memory (640 * i) (640 * i + 640) long ∙ omega arith

-- a place's record and the bay of its number are its body
pub body_in_bay : {W : Type 0} (t : Table) (memory : List W) (p : Place) (r : Record) (n : ℕ) → r ≡ record_of t p → n ≡ number p → stored r (bay n memory) ≡ body_of t memory p
body_in_bay t memory p r n is at = ap₂ (λ s i. stored s (bay i memory)) is at

-- a record with no states and no arcs is a blank body
pub stored_blank : {W : Type 0} (r : Record) (weights : List W) → r.states ≡ 0 → r.count ≡ 0 → stored r weights ≡ blank
stored_blank {W} r weights states arcs =
    let body : ℕ → ℕ → Body W = λ n m. stored (record { states = n; count = m; arcs = r.arcs }) weights in
    ap₂ body states arcs

-- all places of a blank table are blank
pub blank_bodies : {W : Type 0} (t : Table) (memory : List W) → Blank t → body_of t memory ≡ (λ (p : Place). blank)
blank_bodies t memory b = fun_ext (λ p. stored_blank (record_of t p) (bay (number p) memory) (b.states (number p)) (b.arcs (number p)))

-- a write before a bay leaves it
bay_after : {W : Type 0} (i a k : ℕ) (memory ys : List W) → a + k ≤ 640 * i → a ≤ length memory → length ys ≡ k → bay i (put_mid a k memory ys) ≡ bay i memory
bay_after i a k memory ys high long full = search (rules, overwrites, between_is)

-- a write to a bay leaves the others
bay_other : {W : Type 0} (i n a k : ℕ) (memory ys : List W) → i ≢ n → a ≡ 640 * n → a ≤ length memory → k ≡ 640 → length ys ≡ k → bay i (put_mid a k memory ys) ≡ bay i memory
bay_other i n a k memory ys other from long is full =
    ⊎_elim (λ (low : i < n). bay_before i a k memory ys (omega arith) long) (λ (high : n ≤ i). bay_after i a k memory ys (omega arith) long full) (cases_lt i n)

-- a part that is written as it was
pub part_again : {X : Type 0} (a k : ℕ) (xs ys : List X) (e : ℕ) → a + k ≡ e → ys ≡ between a e xs → put_mid a k xs ys ≡ xs
part_again a k xs ys e is same =
    ap (λ zs. take a xs ++ (zs ++ drop k (drop a xs))) same
    ∙ ap (λ zs. take a xs ++ (between a e xs ++ zs)) (drop-drop k a xs ∙ ap (λ n. drop n xs) is)
    ∙ sym (split_between xs a e (omega arith))

-- what lies past the bays of the places has no part in the bodies
pub front_bodies : {W : Type 0} (t : Table) (xs ys : List W) → 5120 ≤ length xs → body_of t (xs ++ ys) ≡ body_of t xs
front_bodies t xs ys long =
    fun_ext (λ p.
    let low = number_below p in
    let a = 640 * number p in
    let fits : a + 640 ≤ length xs = omega arith in
    let same : bay (number p) (xs ++ ys) ≡ bay (number p) xs = search (rules, between_is, take-append-le) in
    ap (stored (record_of t p)) same)

-- nor for a memory that is cut to them
pub front_taken : {W : Type 0} (t : Table) (memory front : List W) → front ≡ take 5120 memory → 5120 ≤ length memory → body_of t front ≡ body_of t memory
front_taken t memory front cut long =
    let e = length-take-le 5120 memory long in
    ap (body_of t) cut ∙ sym (front_bodies t (take 5120 memory) (drop 5120 memory) (omega arith)) ∙ ap (body_of t) (take-append-drop 5120 memory)

-- a record that is replaced, with the bay as it is
module _ (t u : Table) (p : Place) (r : Record) (is : record_of u ≡ put p r (record_of t)) where
  record_put : {W : Type 0} (memory : List W) (q : Place) (test : Bool) → eqb (number q) (number p) ≡ test
      → stored (cond test r (record_of t q)) (bay (number q) memory) ≡ cond test (stored r (bay (number p) memory)) (body_of t memory q)
  record_put memory q true e = ap (λ i. stored r (bay i memory)) (eqb-true (number q) (number p) e)
  record_put memory q false e = refl

  pub bodies_kept : {W : Type 0} (memory : List W) → body_of u memory ≡ put p (stored r (bay (number p) memory)) (body_of t memory)
  bodies_kept memory = fun_ext (λ q. ap (λ (records : Place → Record). stored (records q) (bay (number q) memory)) is ∙ record_put memory q (eqb (number q) (number p)) refl)

  -- and with the bay written too
  module _ {W : Type 0} (a k : ℕ) (memory ys : List W) (from : a ≡ 640 * number p) (bays : k ≡ 640) (long : a ≤ length memory) (full : length ys ≡ k) where
    bay_put : (q : Place) (test : Bool) → eqb (number q) (number p) ≡ test
        → cond test (stored r (bay (number p) (put_mid a k memory ys))) (body_of t (put_mid a k memory ys) q) ≡ cond test (stored r ys) (body_of t memory q)
    bay_put q true e =
        let here : between a (a + 640) (put_mid a k memory ys) ≡ ys = between-put_mid a k memory ys (a + 640) long (omega arith) in
        ap (stored r) (ap (λ b. between b (b + 640) (put_mid a k memory ys)) (sym from) ∙ here)
    bay_put q false e = ap (stored (record_of t q)) (bay_other (number q) (number p) a k memory ys (eqb-false (number q) (number p) e) from long bays full)

    pub bodies_put : body_of u (put_mid a k memory ys) ≡ put p (stored r ys) (body_of t memory)
    bodies_put = bodies_kept (put_mid a k memory ys) ∙ fun_ext (λ q. bay_put q (eqb (number q) (number p)) refl)
