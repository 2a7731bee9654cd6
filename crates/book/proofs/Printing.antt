-- Runs of two scripts that differ by uses of the laws print alike.
use Rattle.std.proofs.Common.{◌≡◌, ℕ, zero, suc, ◌-◌, ◌^◌, ◌≤◌, Bool, true, false, cond, ltb, List, [], ◌∷◌, ◌++◌, map, length, Some, None, Ok, Err, Option, Result, sym, refl, ap, ◌∙◌, subst, ap₂, arith, MatchOption}
use Rattle.std.specs.List.{range_with_len, flat_map}
use Rattle.std.proofs.lemmas.List.{length-append, map-append}
use Rattle.weight.specs.Kinds.{Kind, Laws}
use Rattle.weight.specs.Words.{Writing}
use Rattle.picture.specs.Cells.{cell, base_four, row_of_cells, tile}
use Rattle.picture.specs.Pictures.{Picture, picture}
use Rattle.picture.specs.Quadrants.{Address}
use Rattle.recipe.specs.declared.place.Place.{Place}
use Rattle.recipe.specs.Expressions.{Line, lines}
use Rattle.recipe.specs.Evaluations.{run_lines}
use Rattle.recipe.specs.Places.{place}
use Rattle.recipe.specs.Trees.{script, Tree, text}
use Rattle.recipe.proofs.Walks.{unique}
use Rattle.stack.specs.Drawing.{drawing}
use Rattle.stack.specs.declared.fault.StepFault.{StepFault}
use Rattle.book.specs.declared.refusal.Refusal.{Refusal}
use Rattle.book.specs.declared.refusal.Refusal.TheVariants.{ShortMemory, NoPlace}
use Rattle.book.specs.Calls.{Run, Output, Nothing, Cells, Outcome, Places, refused, run_answer, ran, Runs, unread, performed, Prints, no_tile, no_room, printed, Rules}
use Rattle.book.specs.Statements.{SameShown, AnswersLines, LawEqual}
use Rattle.book.specs.Uses.{Compared}
use Rattle.book.proofs.Running.{lines_counted, law_equal}
use Rattle.book.proofs.Singling.{not_both, past_memory}

length_cell : (m x y : ℕ) → length (cell m x y) ≡ m
length_cell zero x y = refl
length_cell (suc m) x y = ap suc (length_cell m x y)

length_prefix : (j n : ℕ) → length (base_four j n) ≡ j
length_prefix zero n = refl
length_prefix (suc j) n = ap suc (length_prefix j n)

-- pictures that agree at one depth agree on the cells of each row, and of each tile, at that depth
module _ {W : Type 0} (f g : Picture W) (depth j n : ℕ) (le : j ≤ depth) (same : (w : Address) → length w ≡ depth → f w ≡ g w) where
  deep : (x y : ℕ) → length (base_four j n ++ cell (depth - j) x y) ≡ depth
  deep x y = omega (arith, length-append (base_four j n) (cell (depth - j) x y), length_prefix j n, length_cell (depth - j) x y)

  row_same : (y : ℕ) (xs : List ℕ) → map f (map (λ x. base_four j n ++ cell (depth - j) x y) xs) ≡ map g (map (λ x. base_four j n ++ cell (depth - j) x y) xs)
  row_same y [] = refl
  row_same y (x ∷ xs) = ap₂ ◌∷◌ (same _ (deep x y)) (row_same y xs)

  rows_same : (ys : List ℕ) → map f (flat_map (row_of_cells (base_four j n) (depth - j)) ys) ≡ map g (flat_map (row_of_cells (base_four j n) (depth - j)) ys)
  rows_same [] = refl
  rows_same (y ∷ ys) =
      let row = row_of_cells (base_four j n) (depth - j) y in
      let rest = flat_map (row_of_cells (base_four j n) (depth - j)) ys in
      map-append f row rest ∙ ap₂ ◌++◌ (row_same y (range_with_len 0 (2 ^ (depth - j)))) (rows_same ys) ∙ sym (map-append g row rest)

  pub tile_same : map f (tile depth j n) ≡ map g (tile depth j n)
  tile_same = rows_same (range_with_len 0 (2 ^ (depth - j)))

module _ {W : Type 0} (k : Kind W) (v : Writing W) where
  -- the run of a script that is accepted
  record RanTo (at : Places W) (ls : List Line) (o : Outcome W) : Type 0 where
    accepted : (run_lines (drawing k) ls at).stop ≡ None
    after : o.after ≡ (run_lines (drawing k) ls at).after
    answered : o.answer ≡ Ok (run_lines (drawing k) ls at).done

  no_stop : (m n : ℕ) (s : Option StepFault) → run_answer n s ≡ Ok m → s ≡ None
  no_stop m n None e = refl
  no_stop m n (Some s) e = not_both (run_answer n (Some s)) e refl

  performs_to : (at : Places W) (t : Tree script) (o : Outcome W) (m : ℕ) → o.answer ≡ Ok m → Runs k v at (text t) o → RanTo at (lines t) o
  performs_to at t o m a (unread h) = not_both o.answer a refl
  performs_to at t o m a (performed u short h) =
      subst (λ (s : Tree script). RanTo at (lines s) (ran (run_lines (drawing k) (lines u) at))) (unique u t h.is)
      (record { accepted = no_stop m (run_lines (drawing k) (lines u) at).done (run_lines (drawing k) (lines u) at).stop a; after = refl; answered = ap (run_answer (run_lines (drawing k) (lines u) at).done) (no_stop m (run_lines (drawing k) (lines u) at).done (run_lines (drawing k) (lines u) at).stop a) })

  runs_to : (memory : ℕ) (at : Places W) (t : Tree script) (o : Outcome W) (m : ℕ) → o.answer ≡ Ok m → Rules k v at memory (Run (text t)) o → RanTo at (lines t) o
  runs_to memory at t o m a h = performs_to at t o m a (past_memory k v at o m a (ltb memory 10240) h)

  pub answers_lines : Laws k → AnswersLines k v
  answers_lines laws at memory i t x r a =
      let q = runs_to memory at t x i a r in
      let e = q.answered in
      let same : i ≡ (run_lines (drawing k) (lines t) at).done = cc in
      same ∙ lines_counted k laws (lines t) at q.accepted

  shown_as : (at to : Places W) (a : Result ℕ Refusal) (out : Output W) (x y : Outcome W) → x ≡ record { answer = a; output = out; after = at } → y ≡ record { answer = a; output = out; after = to } → SameShown x y
  shown_as at to a out x y p q = ((λ i. (p i).answer) ∙ (λ i. (sym q i).answer), (λ i. (p i).output) ∙ (λ i. (sym q i).output))

  both_memory : {S T : Type 0} (at to : Places W) (x y : Outcome W) (test : Bool) → (S → T → SameShown x y)
      → cond test (x ≡ refused at ShortMemory) S → cond test (y ≡ refused to ShortMemory) T → SameShown x y
  both_memory at to x y true on p q = shown_as at to (Err ShortMemory) Nothing x y p q
  both_memory at to x y false on p q = on p q

  -- the same cells at both places' bodies
  prints_same : (at to : Places W) (p : Place) (depth j n room : ℕ) → ((w : Address) → length w ≡ depth → picture k (at p) w ≡ picture k (to p) w)
      → (x y : Outcome W) → Prints k v at p depth j n room x → Prints k v to p depth j n room y → SameShown x y
  prints_same at to p depth j n room same x y (no_tile a) (no_tile b) = (refl, refl)
  prints_same at to p depth j n room same x y (no_tile a) (no_room b l) = absurd (a b)
  prints_same at to p depth j n room same x y (no_tile a) (printed b l) = absurd (a b)
  prints_same at to p depth j n room same x y (no_room a h) (no_tile b) = absurd (b a)
  prints_same at to p depth j n room same x y (no_room a h) (no_room b l) = (refl, refl)
  prints_same at to p depth j n room same x y (no_room a h) (printed b l) = absurd (omega arith)
  prints_same at to p depth j n room same x y (printed a h) (no_tile b) = absurd (b a)
  prints_same at to p depth j n room same x y (printed a h) (no_room b l) = absurd (omega arith)
  prints_same at to p depth j n room same x y (printed a h) (printed b l) =
      (refl, ap (λ (cs : List W). Cells cs) (tile_same (picture k (at p)) (picture k (to p)) depth j n a.length_to same))

  at_one_place : (at to : Places W) (n depth j m room : ℕ) (p : Place) → ((w : Address) → length w ≡ depth → picture k (at p) w ≡ picture k (to p) w) → (x y : Outcome W)
      → (q : Option Place) → q ≡ Some p
      → MatchOption q (x ≡ refused at NoPlace) (λ r. Prints k v at r depth j m room x) → MatchOption q (y ≡ refused to NoPlace) (λ r. Prints k v to r depth j m room y) → SameShown x y
  at_one_place at to n depth j m room p same x y None e a b = shown_as at to (Err NoPlace) Nothing x y a b
  at_one_place at to n depth j m room p same x y (Some q) e a b =
      let is : p ≡ q = cc in
      prints_same at to q depth j m room (subst (λ (r : Place). (w : Address) → length w ≡ depth → picture k (at r) w ≡ picture k (to r) w) is same) x y a b

  pub law_equal_scripts : Laws k → LawEqual k v
  law_equal_scripts laws at limited memory i t one r a u other j s b n depth digits prefix room p e c x y f g =
      let q = runs_to memory at t one i a r in
      let z = runs_to memory at u other j b s in
      both_memory one.after other.after x y (ltb memory 10240)
      (at_one_place one.after other.after n depth digits prefix room p
      (λ w l. (λ i. picture k (q.after i p) w)
      ∙ law_equal k laws at limited (lines t) (lines u) q.accepted z.accepted p w (subst (λ d. Compared k.exchanges (lines t) (lines u) p d) (sym l) c)
      ∙ (λ i. picture k (sym z.after i p) w)) x y (place n) e) f g
