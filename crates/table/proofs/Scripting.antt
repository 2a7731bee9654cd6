-- A script, step by step.
use Rattle.std.proofs.Common.{◌≡◌, ℕ, suc, ◌+◌, ◌<◌, ◌≤◌, List, [], ◌∷◌, ◌++◌, length, get_or, take, drop, Ok, Err, Result, refl, sym, ap, ◌∙◌, subst, add-zero, arith}
use Rattle.std.proofs.lemmas.List.{drop_more, drop_all}
use Rattle.weight.specs.Kinds.{Kind}
use Rattle.picture.specs.Bodies.{Body}
use Rattle.recipe.specs.Evaluations.{Ran, carry}
use Rattle.recipe.specs.Steps.{Carries}
use Rattle.recipe.specs.declared.place.Place.{Place}
use Rattle.recipe.specs.declared.step.Step.{Step}
use Rattle.recipe.specs.declared.step.Step.TheVariants.{Name, Turn, Mirror, Zoom, Add, Multiply, Piece, Store}
use Rattle.stack.specs.Drawing.{drawing}
use Rattle.stack.specs.Stacks.{bodies}
use Rattle.stack.specs.declared.fault.LineFault.{LineFault}
use Rattle.stack.specs.declared.fault.StepFault.{StepFault}
use Rattle.stack.specs.declared.stack.Working.{Working}
use Rattle.table.specs.Performing.{left_waiting, Fits, counted, Stepped, lines_done, Performed}
use Rattle.table.specs.Limits.{AllKept}
use Rattle.table.specs.Tables.{body_of}
use Rattle.table.specs.declared.table.Table.{Table}
use Rattle.table.proofs.Bodies.{front_bodies, front_taken}

-- what may be carried out begins with a step that fits, and goes on with the rest
fits_first : (s : Step) (ss : List Step) (h v : ℕ) → Carries h (s ∷ ss) v → Fits s h × Carries (left_waiting s h) ss v
fits_first (Name p) ss h v c = ((c.0, refl), c.1)
fits_first Turn ss h v c = ((c.0, refl), c.1)
fits_first Mirror ss h v c = ((c.0, refl), c.1)
fits_first (Zoom d) ss h v c = ((c.0, refl), c.1)
fits_first (Add i) ss h v c = ((c.0, refl), c.1)
fits_first (Multiply i) ss h v c = ((c.0, refl), c.1)
fits_first (Piece i) ss h v c = ((c.0, refl), c.1)
fits_first (Store p) ss h v c = ((c.0, refl), c.1)

-- n lines more were done
abbrev pub more : {V E : Type 0} → ℕ → Ran V E → Ran V E
more n r = record { after = r.after; done = n + r.done; stop = r.stop }

-- so many lines are done, and the steps before step i; the script began at the bodies `from`
pub record Done {W : Type 0} (k : Kind W) (steps : List Step) (i lines : ℕ) (from : Place → Body W) (table : Table) (bays : List W) (working : Working W) : Type 0 where
  pub kept : AllKept table
  pub long : length bays ≡ 5120
  pub fewer : lines ≤ i
  pub carries : Carries working.stack.now.height (drop i steps) 0
  pub goes : carry (drawing k) steps [] from ≡ more lines (carry (drawing k) (drop i steps) (bodies working) (body_of table bays))

-- a step that stores ends its line
pub count_store : {V E : Type 0} (s : Step) (p : Place) (n : ℕ) → s ≡ Store p → (r : Ran V E) → more n (counted s r) ≡ more (n + 1) r
count_store s p n is r =
    let e : n + suc r.done ≡ n + 1 + r.done = omega arith in
    ap (λ (x : Step). more n (counted x r)) is ∙ (λ i. record { after = r.after; done = e i; stop = r.stop })

-- no other does
pub count_other : {V E : Type 0} (s : Step) (n : ℕ) → ((p : Place) → s ≡ Store p → ⊥) → (r : Ran V E) → more n (counted s r) ≡ more n r
count_other (Name p) n h r = refl
count_other Turn n h r = refl
count_other Mirror n h r = refl
count_other (Zoom d) n h r = refl
count_other (Add i) n h r = refl
count_other (Multiply i) n h r = refl
count_other (Piece i) n h r = refl
count_other (Store p) n h r = absurd (h p refl)

module _ {W : Type 0} (k : Kind W) (steps : List Step) (i lines : ℕ) (from : Place → Body W) (t : Table) (bays : List W) (s : Working W) (d : Done k steps i lines from t bays s) where
  module _ (default step : Step) (is : get_or steps i default ≡ step) (low : i < length steps) where
    split : drop i steps ≡ step ∷ drop (i + 1) steps
    split = drop_more steps i default low ∙ ap (λ (x : Step). x ∷ drop (i + 1) steps) is

    here : Fits step s.stack.now.height × Carries (left_waiting step s.stack.now.height) (drop (i + 1) steps) 0
    here = fits_first step (drop (i + 1) steps) s.stack.now.height 0 (subst (λ (ss : List Step). Carries s.stack.now.height ss 0) split d.carries)

    pub here_fits : Fits step s.stack.now.height
    here_fits = here.0

    here_goes : carry (drawing k) steps [] from ≡ more lines (carry (drawing k) (step ∷ drop (i + 1) steps) (bodies s) (body_of t bays))
    here_goes = d.goes ∙ ap (λ (ss : List Step). more lines (carry (drawing k) ss (bodies s) (body_of t bays))) split

    -- a step more
    pub done_more : (table : Table) (after : List W) (working : Working W) (n : ℕ) → AllKept table → length after ≡ 5120 → working.stack.now.height ≡ left_waiting step s.stack.now.height
        → n ≤ lines + 1 → ((r : Ran (Body W) StepFault) → more lines (counted step r) ≡ more n r)
        → Stepped k step (body_of t bays) (body_of table after) (bodies s) (bodies working) (Ok tt)
        → Done k steps (i + 1) n from table after working
    done_more table after working n kept long height few count on = record {
      kept = kept;
      long = long;
      fewer = omega (arith, d.fewer);
      carries = subst (λ h. Carries h (drop (i + 1) steps) 0) (sym height) here.1;
      goes = here_goes ∙ ap (more lines) (on (drop (i + 1) steps)) ∙ count _;
    }

    -- a step that is refused
    pub done_stop : (to : Place → Body W) (f : StepFault) → Stepped k step (body_of t bays) to (bodies s) (bodies s) (Err f)
        → Performed (carry (drawing k) steps [] from) to (Err (record { line = lines; step = f }))
    done_stop to f stop =
        let all = here_goes ∙ ap (more lines) (stop.0 (drop (i + 1) steps)) in
        ((λ j. (all j).after) ∙ sym stop.1, (λ j. Err (record { line = sym (add-zero lines) j; step = f })) ∙ (λ j. lines_done (sym all j).done (sym all j).stop))

  -- all steps are done
  pub done_all : length steps ≤ i → Performed (carry (drawing k) steps [] from) (body_of t bays) (Ok lines)
  done_all past =
      let all = d.goes ∙ ap (λ (ss : List Step). more lines (carry (drawing k) ss (bodies s) (body_of t bays))) (drop_all i steps past) in
      ((λ j. (all j).after), (λ j. Ok (sym (add-zero lines) j)) ∙ (λ j. lines_done (sym all j).done (sym all j).stop))

-- what lies past the bays of the places has no part in it
pub performed_front : {W : Type 0} (k : Kind W) (steps : List Step) (t u : Table) (memory before bays rest : List W) (answer : Result ℕ LineFault)
    → before ≡ take 5120 memory → length memory ≡ 10240 → length bays ≡ 5120 → Performed (carry (drawing k) steps [] (body_of t before)) (body_of u bays) answer
    → Performed (carry (drawing k) steps [] (body_of t memory)) (body_of u (bays ++ rest)) answer
performed_front k steps t u memory before bays rest answer cut long full done =
    let old : body_of t before ≡ body_of t memory = front_taken t memory before cut (omega arith) in
    subst (λ to. Performed (carry (drawing k) steps [] (body_of t memory)) to answer) (sym (front_bodies u bays rest (omega arith)))
    (subst (λ from. Performed (carry (drawing k) steps [] from) (body_of u bays) answer) old done)
