-- Words that were entered are written back, and words that are written enter as the same body.
use Rattle.std.proofs.Common.{◌≡◌, ℕ, ◌<◌, ◌≤◌, cond, ltb, List, length, Some, None, Ok, Option, sym, refl, ap, ◌∙◌, subst, MatchOption}
use Rattle.std.proofs.lemmas.Bool.{eq-eqb, le-ltb}
use Rattle.weight.specs.Kinds.{Kind}
use Rattle.weight.specs.Words.{Writing}
use Rattle.picture.specs.Bodies.{Body}
use Rattle.words.specs.Format.{words_of, SpellsBody}
use Rattle.recipe.specs.declared.place.Place.{Place}
use Rattle.recipe.specs.Evaluations.{put}
use Rattle.recipe.specs.Places.{number, place}
use Rattle.book.specs.declared.refusal.Refusal.TheVariants.{ShortMemory, NoPlace}
use Rattle.book.specs.Calls.{Output, Nothing, Words, Outcome, Places, answers, refused, Enters, not_entered, entered, Writes, too_wide, too_short, written}
use Rattle.book.specs.Statements.{EnteredBack, WrittenBack}
use Rattle.book.proofs.Singling.{not_both, one_found, past_memory}

-- what was put at a place stands there
pub put_there : {V : Type 0} (p : Place) (v : V) (at : Place → V) → put p v at p ≡ v
put_there p v at = ap (λ t. cond t v (at p)) (eq-eqb (number p) (number p) refl)

module _ {W : Type 0} (k : Kind W) (v : Writing W) where
  -- the place of a call that is answered
  record Found (T : Place → Type 0) (n : ℕ) : Type 0 where
    p : Place
    is : place n ≡ Some p
    holds : T p

  found_in : (T : Place → Type 0) (at : Places W) (o : Outcome W) (i n : ℕ) → o.answer ≡ Ok i → (q : Option Place) → place n ≡ q → MatchOption q (o ≡ refused at NoPlace) T → Found T n
  found_in T at o i n a None e x = not_both o.answer a (λ j. (x j).answer)
  found_in T at o i n a (Some p) e x = record { p = p; is = e; holds = x }

  found : (T : Place → Type 0) (at : Places W) (o : Outcome W) (i n memory : ℕ) → o.answer ≡ Ok i
      → cond (ltb memory 10240) (o ≡ refused at ShortMemory) (MatchOption (place n) (o ≡ refused at NoPlace) T) → Found T n
  found T at o i n memory a x = found_in T at o i n a (place n) refl (past_memory k v at o i a (ltb memory 10240) x)

  record Put (at : Places W) (p : Place) (given : List ℕ) (o : Outcome W) : Type 0 where
    b : Body W
    spells : SpellsBody v b given
    after : o.after ≡ put p b at

  was_put : (at : Places W) (p : Place) (given : List ℕ) (o : Outcome W) (i : ℕ) → o.answer ≡ Ok i → Enters k v at p given o → Put at p given o
  was_put at p given o i a (not_entered h) = not_both o.answer a refl
  was_put at p given o i a (entered {b} h) = record { b = b; spells = h; after = refl }

  was_written : (at : Places W) (p : Place) (room : ℕ) (o : Outcome W) (i : ℕ) → o.answer ≡ Ok i → Writes k v at p room o → (v.width < 9) × (o.output ≡ Words (words_of v (at p)))
  was_written at p room o i a (too_wide h) = not_both o.answer a refl
  was_written at p room o i a (too_short h l) = not_both o.answer a refl
  was_written at p room o i a (written h l) = (h, refl)

  same_words : (xs ys : List ℕ) (out : Output W) → out ≡ Words xs → out ≡ Words ys → xs ≡ ys
  same_words xs ys out p q = cc

  -- a call with enough memory, at a place
  at_the : (T : Place → Type 0) (at : Places W) (o : Outcome W) (memory n : ℕ) (p : Place) → 10240 ≤ memory → place n ≡ Some p → T p
      → cond (ltb memory 10240) (o ≡ refused at ShortMemory) (MatchOption (place n) (o ≡ refused at NoPlace) T)
  at_the T at o memory n p enough is h =
      subst (λ t. cond t (o ≡ refused at ShortMemory) (MatchOption (place n) (o ≡ refused at NoPlace) T)) (sym (le-ltb memory 10240 enough))
      (subst (λ q. MatchOption q (o ≡ refused at NoPlace) T) (sym is) h)

  pub entered_back : EnteredBack k v
  entered_back at memory n i given x e a p now later room is same enough fits =
      let f = found (λ p. Enters k v at p given x) at x i n memory a e in
      let u = was_put at f.p given x i a f.holds in
      let here : f.p ≡ p = one_found (place n) is f.is in
      let spelled : words_of v (now p) ≡ given =
      ap (words_of v) (same ∙ (λ j. u.after j p) ∙ (λ j. put (here j) u.b at p) ∙ put_there p u.b at) ∙ u.spells.spelled in
      let o = answers now (length given) (Words given) in
      at_the (λ q. Writes k v now q room o) now o later n p enough is
      (subst (λ (ws : List ℕ). Writes k v now p room (answers now (length ws) (Words ws))) spelled (written u.spells.narrow (subst (λ (ws : List ℕ). length ws ≤ room) (sym spelled) fits)))

  pub written_back : WrittenBack k v
  written_back at limited memory n room i given x w a out p q now later m is there enough =
      let g = found (λ r. Writes k v at r room x) at x i n memory a w in
      let z = was_written at g.p room x i a g.holds in
      let here : g.p ≡ p = one_found (place n) is g.is in
      let spelled : words_of v (at p) ≡ given = ap (λ (r : Place). words_of v (at r)) (sym here) ∙ same_words (words_of v (at g.p)) given x.output z.1 out in
      at_the (λ r. Enters k v now r given (answers (put q (at p) now) 0 Nothing)) now _ later m q enough there
      (entered (record { narrow = z.0; limited = limited p; spelled = spelled }))
