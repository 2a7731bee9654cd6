-- The outcome of a run, from what the reader of scripts and the table answer.
use Rattle.std.proofs.Common.{◌≡◌, ℕ, ◌≤◌, cond, List, [], ◌++◌, length, take, drop, Some, None, Ok, Err, Option, Result, sym, refl, ap, ◌∙◌, subst, arith}
use Rattle.std.specs.List.{between}
use Rattle.std.proofs.lemmas.List.{length-take-le, take-append-drop}
use Rattle.std.proofs.lemmas.Bool.{le-ltb}
use Rattle.weight.specs.Kinds.{Kind, Laws}
use Rattle.weight.specs.Words.{Writing}
use Rattle.recipe.specs.Evaluations.{carry, run_lines}
use Rattle.recipe.specs.Expressions.{lines}
use Rattle.recipe.specs.Outcomes.{Accepted}
use Rattle.recipe.specs.Steps.{Carries, listed}
use Rattle.recipe.specs.Trees.{script, Tree, text}
use Rattle.recipe.specs.declared.step.Recipe.{Recipe}
use Rattle.recipe.specs.declared.step.Step.{Step}
use Rattle.recipe.proofs.Carried.{steps_carry}
use Rattle.recipe.proofs.Stepping.{steps_agree}
use Rattle.stack.specs.Drawing.{drawing}
use Rattle.stack.specs.declared.fault.LineFault.{LineFault}
use Rattle.stack.specs.declared.fault.StepFault.{StepFault}
use Rattle.table.specs.Performing.{lines_done, Performed}
use Rattle.table.specs.Tables.{body_of}
use Rattle.table.specs.declared.table.Table.{Table}
use Rattle.table.proofs.Bodies.{front_bodies}
use Rattle.book.specs.Calls as book
use Rattle.book.specs.Calls.{Places, Nothing, Outcome, Run, refused, ran, Runs, performed, Rules}
use Rattle.book.specs.Statements.{AllLimited, PrintsAlike}
use Rattle.book.specs.declared.refusal.Refusal.{Refusal}
use Rattle.book.specs.declared.refusal.Refusal.TheVariants.{ShortMemory}
use Rattle.book.specs.declared.refusal.RunFault.{RunFault}
use Rattle.book.specs.declared.refusal.RunFault.TheVariants.{Stopped}
use Rattle.book.proofs.Printing.{law_equal_scripts}
use Rattle.rack.specs.Racks.{came_to, run_answer}

-- the steps of a script that is read can be carried out
pub read_carries : (src : List ℕ) (r : Recipe) (ss : List Step) → Accepted src r → ss ≡ listed r → Carries 0 ss 0
read_carries src r ss a is = subst (λ (xs : List Step). Carries 0 xs 0) (sym is) (steps_carry src r a).0

-- what the table answers, as a fault of a run
abbrev stopped : Result ℕ LineFault → Result ℕ RunFault
stopped (Ok n) = Ok n
stopped (Err f) = Err (Stopped f)

same_answer : (n : ℕ) (s : Option StepFault) → book.run_answer n s ≡ run_answer (stopped (lines_done n s))
same_answer n None = refl
same_answer n (Some f) = refl

module _ {W : Type 0} (k : Kind W) (v : Writing W) (at : Places W) where
  -- a script that is read, and then carried out
  pub runs_performed : (src : List ℕ) (r : Recipe) (ss : List Step) (after : Places W) (answer : Result ℕ LineFault) → Accepted src r → ss ≡ listed r
      → Performed (carry (drawing k) ss [] at) after answer → Runs k v at src (came_to (run_answer (stopped answer)) Nothing after)
  runs_performed src r ss after answer a is done =
      let t = a.tree in
      let all : carry (drawing k) ss [] at ≡ run_lines (drawing k) (lines t) at = ap (λ (xs : List Step). carry (drawing k) xs [] at) (is ∙ a.are) ∙ steps_agree (drawing k) at t in
      let there : (run_lines (drawing k) (lines t) at).after ≡ after = (λ i. (sym all i).after) ∙ done.0 in
      let given : book.run_answer (run_lines (drawing k) (lines t) at).done (run_lines (drawing k) (lines t) at).stop ≡ run_answer (stopped answer) =
      same_answer (run_lines (drawing k) (lines t) at).done (run_lines (drawing k) (lines t) at).stop
      ∙ (λ i. run_answer (stopped (lines_done (sym all i).done (sym all i).stop))) ∙ ap (λ x. run_answer (stopped x)) (sym done.1) in
      subst (Runs k v at src) (λ i. came_to (given i) Nothing (there i)) (performed t a.short a.spells)

  -- with enough weights in the memory
  pub with_enough : (memory : ℕ) (src : List ℕ) (o : Outcome W) → 10240 ≤ memory → Runs k v at src o → Rules k v at memory (Run src) o
  with_enough memory src o enough h = subst (λ t. cond t (o ≡ refused at ShortMemory) (Runs k v at src o)) (sym (le-ltb memory 10240 enough)) h

  -- scripts that differ by uses of the laws print alike
  pub runs_alike : Laws k → AllLimited at → (memory : ℕ) (src : List ℕ) (r : Result ℕ Refusal) (after : Places W) → Rules k v at memory (Run src) (came_to r Nothing after)
      → (i : ℕ) (t : Tree script) → r ≡ Ok i → text t ≡ src → PrintsAlike k v at after memory t
  runs_alike laws limited memory src r after rules i t ok is =
      law_equal_scripts k v laws at limited memory i t (came_to r Nothing after) (subst (λ (s : List ℕ). Rules k v at memory (Run s) (came_to r Nothing after)) (sym is) rules) ok

-- the bodies of a memory that is cut to its bays
pub cut_bodies : {W : Type 0} (t : Table) (memory : List W) → 10240 ≤ length memory → body_of t (between 0 10240 memory) ≡ body_of t memory
cut_bodies t memory long =
    let e = length-take-le 10240 memory long in
    sym (front_bodies t (take 10240 memory) (drop 10240 memory) (omega arith)) ∙ ap (body_of t) (take-append-drop 10240 memory)

-- a run on the bays of a memory
pub run_on_bays : {W : Type 0} (k : Kind W) (v : Writing W) (t u : Table) (memory bays rest : List W) (src : List ℕ) (r : Result ℕ Refusal) → 10240 ≤ length memory → length bays ≡ 10240
    → Runs k v (body_of t (between 0 10240 memory)) src (came_to r Nothing (body_of u bays)) → Rules k v (body_of t memory) (length memory) (Run src) (came_to r Nothing (body_of u (bays ++ rest)))
run_on_bays k v t u memory bays rest src r long full h =
    with_enough k v (body_of t memory) (length memory) src _ long
    (subst (λ (at : Places _). Runs k v at src (came_to r Nothing (body_of u (bays ++ rest)))) (cut_bodies t memory long)
    (subst (λ (after : Places _). Runs k v (body_of t (between 0 10240 memory)) src (came_to r Nothing after)) (sym (front_bodies u bays rest (omega arith))) h))
