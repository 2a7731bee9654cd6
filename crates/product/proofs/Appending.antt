-- Arcs and weights that a loop appends.
use Rattle.std.proofs.Common.{◌≡◌, ℕ, ◌+◌, ◌<◌, ◌≤◌, List, [], ◌∷◌, ◌++◌, length, take, set, sym, refl, ap, ◌∙◌, ap₂, arith}
use Rattle.std.specs.List.{zip}
use Rattle.std.proofs.lemmas.List.{take_more_set, append_assoc, append-nil, length-append, length-take-le}
use Rattle.compose.proofs.Zipped.{zipped_append}
use Rattle.picture.specs.Bodies.{Edge}
use Rattle.product.specs.Inner.{held, Appended}
use Rattle.product.specs.declared.pairs.Pairs.{Pairs}

-- one arc more and its weight
pub held_more : {A B : Type 0} (i : ℕ) (us : List A) (vs : List B) (x : A) (y : B) → length us ≡ length vs → i < length us
    → zip (take (i + 1) (set us i x)) (take (i + 1) (set vs i y)) ≡ zip (take i us) (take i vs) ++ ((x, y) ∷ [])
held_more i us vs x y long near =
    ap₂ zip (take_more_set us i x near) (take_more_set vs i y (omega arith))
    ∙ zipped_append (take i us) (x ∷ []) (take i vs) (y ∷ []) (length-take-le i us (omega arith) ∙ sym (length-take-le i vs (omega arith)))

-- from a to b the whole was appended, but for the rest
pub record Due {W : Type 0} (whole rest : List (Edge W)) (a b : Pairs W) : Type 0 where
  pub count : b.count + length rest ≡ a.count + length whole
  pub adds : held b ++ rest ≡ held a ++ whole
  pub long : length b.arcs.now ≡ length a.arcs.now
  pub arcs : b.arcs.ghost_name ≡ a.arcs.ghost_name
  pub weights : b.weights.ghost_name ≡ a.weights.ghost_name

pub due_first : {W : Type 0} {whole rest : List (Edge W)} {a : Pairs W} → rest ≡ whole → Due whole rest a a
due_first {a = a} e = record { count = ap (λ xs. a.count + length xs) e; adds = ap (λ xs. held a ++ xs) e; long = refl; arcs = refl; weights = refl }

pub due_next : {W : Type 0} {whole es : List (Edge W)} {a b d : Pairs W} (rest next : List (Edge W)) → rest ≡ es ++ next → Due whole rest a b → Appended es b d → Due whole next a d
due_next {es = es} {b = b} rest next e due more = record {
  count = omega (arith, due.count, more.count, ap length e, length-append es next);
  adds = ap (λ xs. xs ++ next) more.adds ∙ append_assoc (held b) es next ∙ ap (λ xs. held b ++ xs) (sym e) ∙ due.adds;
  long = more.long ∙ due.long;
  arcs = more.arcs ∙ due.arcs;
  weights = more.weights ∙ due.weights;
}

pub due_room : {W : Type 0} {whole : List (Edge W)} {a b : Pairs W} (rest es next : List (Edge W)) → rest ≡ es ++ next → Due whole rest a b → a.count + length whole ≤ length a.arcs.now
    → b.count + length es ≤ length b.arcs.now
due_room rest es next e due room = omega (arith, due.count, due.long, ap length e, length-append es next)

pub due_last : {W : Type 0} {whole : List (Edge W)} {a b : Pairs W} (rest : List (Edge W)) → rest ≡ [] → Due whole rest a b → Appended whole a b
due_last {b = b} rest e due = record {
  count = omega (arith, due.count, ap length e);
  adds = sym (append-nil (held b)) ∙ ap (λ xs. held b ++ xs) (sym e) ∙ due.adds;
  long = due.long;
  arcs = due.arcs;
  weights = due.weights;
}
