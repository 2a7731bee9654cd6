-- The rules name one outcome, and words come back.
use Rattle.std.proofs.Common.{◌≡◌, ℕ, ◌≤◌, Bool, true, false, cond, ltb, List, length, is_ok, Some, None, Ok, Err, Option, Result, sym, refl, ap, ◌∙◌, subst, arith, MatchOption}
use Rattle.weight.specs.Kinds.{Kind}
use Rattle.weight.specs.Words.{Writing, WordLaws}
use Rattle.picture.specs.Bodies.{Body}
use Rattle.words.proofs.Unique.{one_body, no_body, one_fault}
use Rattle.words.specs.declared.fault.Fault.{Fault}
use Rattle.recipe.specs.declared.fault.Fault as recipe
use Rattle.recipe.specs.declared.place.Place.{Place}
use Rattle.recipe.specs.declared.step.Recipe.{Recipe}
use Rattle.recipe.specs.Expressions.{lines}
use Rattle.recipe.specs.Evaluations.{put, run_lines}
use Rattle.recipe.specs.Limits.{max_bytes}
use Rattle.recipe.specs.Outcomes as script
use Rattle.recipe.specs.Places.{place}
use Rattle.recipe.specs.Trees.{script, Tree}
use Rattle.recipe.proofs.Single.{one_answer, accepted_exactly}
use Rattle.recipe.proofs.Walks.{unique}
use Rattle.stack.specs.Drawing.{blank, drawing}
use Rattle.book.specs.declared.refusal.Refusal.{Refusal}
use Rattle.book.specs.declared.refusal.Refusal.TheVariants.{ShortMemory, NoPlace, NotEntered, NotRun}
use Rattle.book.specs.declared.refusal.RunFault.TheVariants.{Unread}
use Rattle.book.specs.Calls.{Enter, Run, Clear, Write, Print, Nothing, Outcome, Places, answers, refused, ran, Enters, not_entered, entered, Runs, unread, performed, Writes, too_wide, too_short, written, Prints, no_tile, no_room, printed}
use Rattle.book.specs.Statements.{OneOutcome}

-- a refusal is no answer
pub not_both : {T : Type 0} {n : ℕ} {r : Refusal} (a : Result ℕ Refusal) → a ≡ Ok n → a ≡ Err r → T
not_both a p q = let z : ◌≡◌ {A = ℕ} 0 1 = cc in let w : ⊥ = omega arith in elim w [ ]

-- a number names one place
pub one_found : {p q : Place} (found : Option Place) → found ≡ Some p → found ≡ Some q → q ≡ p
one_found found a b = cc

module _ {W : Type 0} (k : Kind W) (v : Writing W) where
  -- a call that is answered passed the test of its memory, and found its place
  pub past_memory : {T : Type 0} (at : Places W) (o : Outcome W) (n : ℕ) → o.answer ≡ Ok n → (test : Bool) → cond test (o ≡ refused at ShortMemory) T → T
  past_memory at o n a true x = not_both o.answer a (λ i. (x i).answer)
  past_memory at o n a false x = x

  pub past_place : (T : Place → Type 0) (at : Places W) (o : Outcome W) (p : Place) (found : Option Place) → found ≡ Some p → MatchOption found (o ≡ refused at NoPlace) T → T p
  past_place T at o p found e x = subst (λ f. MatchOption f (o ≡ refused at NoPlace) T) e x

  module _ (words : WordLaws v) (at : Places W) where
    same_memory : (S : Outcome W → Type 0) (x y : Outcome W) (test : Bool) → (S x → S y → x ≡ y)
        → cond test (x ≡ refused at ShortMemory) (S x) → cond test (y ≡ refused at ShortMemory) (S y) → x ≡ y
    same_memory S x y true on p q = p ∙ sym q
    same_memory S x y false on p q = on p q

    same_place : (S : Place → Outcome W → Type 0) (x y : Outcome W) (found : Option Place) → ((p : Place) → S p x → S p y → x ≡ y)
        → MatchOption found (x ≡ refused at NoPlace) (λ p. S p x) → MatchOption found (y ≡ refused at NoPlace) (λ p. S p y) → x ≡ y
    same_place S x y None on p q = p ∙ sym q
    same_place S x y (Some r) on p q = on r p q

    enters_one : (p : Place) (given : List ℕ) (x y : Outcome W) → Enters k v at p given x → Enters k v at p given y → x ≡ y
    enters_one p given x y (not_entered {f = e} h) (not_entered {f} l) = ap (λ (g : Fault). refused at (NotEntered g)) (one_fault v words given e f h l)
    enters_one p given x y (not_entered {f = e} h) (entered {b} l) = absurd (no_body v words given e h b l)
    enters_one p given x y (entered {b} h) (not_entered {f = e} l) = absurd (no_body v words given e l b h)
    enters_one p given x y (entered {b = a} h) (entered {b} l) = ap (λ (c : Body W). answers (put p c at) 0 Nothing) (one_body v words a b given h l)

    -- bytes that are refused are the text of no tree within the limits
    no_tree : (given : List ℕ) (f : recipe.Fault) → script.Refused given f → (t : Tree script) → length given ≤ max_bytes → script.Spells t given → ⊥
    no_tree given f h t short s =
        let ok : is_ok {T = Recipe} (Err f) ≡ true = (accepted_exactly given (Err f) h).1 (short, (t, s)) in
        let z : ◌≡◌ {A = ℕ} 0 1 = cc in omega arith

    runs_one : (given : List ℕ) (x y : Outcome W) → Runs k v at given x → Runs k v at given y → x ≡ y
    runs_one given x y (unread {f = e} h) (unread {f} l) = ap (λ (g : recipe.Fault). refused at (NotRun (Unread g))) (one_answer given (Err e) (Err f) h l)
    runs_one given x y (unread {f = e} h) (performed t short l) = absurd (no_tree given e h t short l)
    runs_one given x y (performed t short h) (unread {f = e} l) = absurd (no_tree given e l t short h)
    runs_one given x y (performed t short h) (performed u long l) =
        ap (λ (s : Tree script). ran (run_lines (drawing k) (lines s) at)) (unique t u (h.is ∙ sym l.is))

    writes_one : (p : Place) (room : ℕ) (x y : Outcome W) → Writes k v at p room x → Writes k v at p room y → x ≡ y
    writes_one p room x y (too_wide a) (too_wide b) = refl
    writes_one p room x y (too_wide a) (too_short b l) = absurd (omega arith)
    writes_one p room x y (too_wide a) (written b l) = absurd (omega arith)
    writes_one p room x y (too_short a h) (too_wide b) = absurd (omega arith)
    writes_one p room x y (too_short a h) (too_short b l) = refl
    writes_one p room x y (too_short a h) (written b l) = absurd (omega arith)
    writes_one p room x y (written a h) (too_wide b) = absurd (omega arith)
    writes_one p room x y (written a h) (too_short b l) = absurd (omega arith)
    writes_one p room x y (written a h) (written b l) = refl

    prints_one : (p : Place) (depth digits prefix room : ℕ) (x y : Outcome W) → Prints k v at p depth digits prefix room x → Prints k v at p depth digits prefix room y → x ≡ y
    prints_one p depth digits prefix room x y (no_tile a) (no_tile b) = refl
    prints_one p depth digits prefix room x y (no_tile a) (no_room b l) = absurd (a b)
    prints_one p depth digits prefix room x y (no_tile a) (printed b l) = absurd (a b)
    prints_one p depth digits prefix room x y (no_room a h) (no_tile b) = absurd (b a)
    prints_one p depth digits prefix room x y (no_room a h) (no_room b l) = refl
    prints_one p depth digits prefix room x y (no_room a h) (printed b l) = absurd (omega arith)
    prints_one p depth digits prefix room x y (printed a h) (no_tile b) = absurd (b a)
    prints_one p depth digits prefix room x y (printed a h) (no_room b l) = absurd (omega arith)
    prints_one p depth digits prefix room x y (printed a h) (printed b l) = refl

  pub one_outcome : WordLaws v → OneOutcome k v
  one_outcome words at memory (Enter n given) x y p q =
      same_memory words at (λ o. MatchOption (place n) (o ≡ refused at NoPlace) (λ r. Enters k v at r given o)) x y (ltb memory 10240)
      (same_place words at (λ r o. Enters k v at r given o) x y (place n) (λ r. enters_one words at r given x y)) p q
  one_outcome words at memory (Run given) x y p q = same_memory words at (Runs k v at given) x y (ltb memory 10240) (runs_one words at given x y) p q
  one_outcome words at memory (Clear n) x y p q =
      same_memory words at (λ o. MatchOption (place n) (o ≡ refused at NoPlace) (λ r. o ≡ answers (put r blank at) 0 Nothing)) x y (ltb memory 10240)
      (same_place words at (λ r o. o ≡ answers (put r blank at) 0 Nothing) x y (place n) (λ r a b. a ∙ sym b)) p q
  one_outcome words at memory (Write n room) x y p q =
      same_memory words at (λ o. MatchOption (place n) (o ≡ refused at NoPlace) (λ r. Writes k v at r room o)) x y (ltb memory 10240)
      (same_place words at (λ r o. Writes k v at r room o) x y (place n) (λ r. writes_one words at r room x y)) p q
  one_outcome words at memory (Print n depth digits prefix room) x y p q =
      same_memory words at (λ o. MatchOption (place n) (o ≡ refused at NoPlace) (λ r. Prints k v at r depth digits prefix room o)) x y (ltb memory 10240)
      (same_place words at (λ r o. Prints k v at r depth digits prefix room o) x y (place n) (λ r. prints_one words at r depth digits prefix room x y)) p q
