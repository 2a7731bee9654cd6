-- Every list of calls agrees with the book.
use Rattle.std.proofs.Common.{◌≡◌, ℕ, Bool, true, false, cond, ltb, List, [], ◌∷◌, ◌++◌, take, Some, None, Option, sym, refl, ap, ◌∙◌, subst, arith, MatchOption}
use mathlib.Core.Path.{fun_ext}
use Rattle.weight.specs.Kinds.{Kind, Laws}
use Rattle.weight.specs.Words.{Writing, WordLaws}
use Rattle.picture.specs.Bodies.{Body}
use Rattle.picture.specs.Pictures.{picture}
use Rattle.words.specs.Format.{Limited}
use Rattle.words.proofs.Unique.{one_body}
use Rattle.recipe.specs.declared.place.Place.{Place}
use Rattle.recipe.specs.Expressions.{Line, lines}
use Rattle.recipe.specs.Evaluations.{put, Ran, run_lines}
use Rattle.recipe.specs.Places.{place}
use Rattle.recipe.specs.Trees.{script, Tree, text}
use Rattle.recipe.proofs.Walks.{unique}
use Rattle.stack.specs.Drawing.{blank, drawing}
use Rattle.stack.specs.declared.fault.StepFault.{StepFault}
use Rattle.book.specs.declared.refusal.Refusal.{Refusal}
use Rattle.book.specs.declared.refusal.Refusal.TheVariants.{ShortMemory, NoPlace, NotEntered, NotRun}
use Rattle.book.specs.declared.refusal.RunFault.TheVariants.{Unread}
use Rattle.book.specs.Calls.{Call, Enter, Run, Clear, Write, Print, Nothing, Outcome, Places, answers, refused, run_answer, Enters, not_entered, entered, Runs, unread, performed, Writes, too_wide, too_short, written, Prints, no_tile, no_room, printed, with_memory, at_place, Rules}
use Rattle.book.specs.Faith.{Event, leaving, fresh, Told, Agrees, Faithful, ByRules, ListsFaithful}
use Rattle.book.specs.Meanings.{Book, noted}
use Rattle.book.specs.Refusals.{coded}
use Rattle.book.specs.Statements.{AllLimited}
use Rattle.book.proofs.Evaluating.{pictures}
use Rattle.book.proofs.Singling.{one_found}
use Rattle.book.proofs.Running.{put_keeps, put_through, Did, did, all_done}

pub blank_limited : {W : Type 0} → Limited {W = W} blank
blank_limited = record { few_states = omega arith; few_arcs = omega arith; sound = record { firsts = refl; lasts = refl; ends = tt } }

module _ {W : Type 0} (k : Kind W) (laws : Laws k) (v : Writing W) (words : WordLaws v) where
  -- a call's outcome, where the book has the pictures of the bodies before it
  record Step (at : Places W) (c : Call) (o : Outcome W) : Type 0 where
    limited : AllLimited o.after
    agrees : Agrees k v (pictures k at) c o.answer o.output
    told : Told k v (pictures k at) c o.answer (pictures k o.after)
    only : (next : Book W) → Told k v (pictures k at) c o.answer next → next ≡ pictures k o.after

  module _ (at : Places W) (limited : AllLimited at) where
    refuse : (c : Call) (r : Refusal) → (coded r).line ≡ None → Step at c (refused at r)
    refuse (Enter n given) r e = record { limited = limited; agrees = tt; told = refl; only = λ n h. h }
    refuse (Run given) r e =
        let F : Option ℕ → Book W → Type 0 =
        λ o next. MatchOption o (next ≡ pictures k at) (λ l. (t : Tree script) × (text t ≡ given) × (next ≡ noted k (take l (lines t)) (pictures k at))) in
        record { limited = limited; agrees = tt; told = subst (λ o. F o (pictures k at)) (sym e) refl; only = λ n h. subst (λ o. F o n) e h }
    refuse (Clear n) r e = record { limited = limited; agrees = tt; told = refl; only = λ n h. h }
    refuse (Write n room) r e = record { limited = limited; agrees = tt; told = refl; only = λ n h. h }
    refuse (Print n depth digits prefix room) r e = record { limited = limited; agrees = tt; told = refl; only = λ n h. h }

    memory_tested : {T : Type 0} (c : Call) (o : Outcome W) (test : Bool) → (T → Step at c o) → cond test (o ≡ refused at ShortMemory) T → Step at c o
    memory_tested c o true on x = subst (Step at c) (sym x) (refuse c ShortMemory refl)
    memory_tested c o false on x = on x

    place_tested : {T : Place → Type 0} (c : Call) (o : Outcome W) (found q : Option Place) → found ≡ q → ((p : Place) → found ≡ Some p → T p → Step at c o)
        → MatchOption q (o ≡ refused at NoPlace) T → Step at c o
    place_tested c o found None e on x = subst (Step at c) (sym x) (refuse c NoPlace refl)
    place_tested c o found (Some p) e on x = on p e x

    at_some_place : {T : Place → Type 0} (memory n : ℕ) (c : Call) (o : Outcome W) → ((p : Place) → place n ≡ Some p → T p → Step at c o)
        → with_memory k v at memory o (at_place k v at n o T) → Step at c o
    at_some_place memory n c o on x = memory_tested c o (ltb memory 10240) (place_tested c o (place n) (place n) refl on) x

    -- a body put at a place
    puts : (p : Place) (b : Body W) → pictures k (put p b at) ≡ put p (picture k b) (pictures k at)
    puts p b = fun_ext (put_through (picture k) p b at)

    enter_step : (n : ℕ) (p : Place) → place n ≡ Some p → (given : List ℕ) (o : Outcome W) → Enters k v at p given o → Step at (Enter n given) o
    enter_step n p e given o (not_entered {f} h) = refuse (Enter n given) (NotEntered f) refl
    enter_step n p e given o (entered {b} h) = record {
      limited = put_keeps Limited p b at h.limited limited;
      agrees = tt;
      told = (p, b, e, h, puts p b);
      only = λ next x.
          x.4
          ∙ ap (λ (q : Place). put q (picture k x.1) (pictures k at)) (one_found (place n) e x.2)
          ∙ ap (λ (c : Body W). put p (picture k c) (pictures k at)) (one_body v words x.1 b given x.3 h)
          ∙ sym (puts p b);
    }

    perform_step : (given : List ℕ) (t : Tree script) → text t ≡ given → (r : Ran (Body W) StepFault) → Did k laws (lines t) at r
        → (stop : Option StepFault) → r.stop ≡ stop → (r.stop ≡ None → take r.done (lines t) ≡ lines t)
        → Step at (Run given) (record { answer = run_answer r.done stop; output = Nothing; after = r.after })
    perform_step given t e r d None s all = record {
      limited = d.limited;
      agrees = tt;
      told = (t, e, d.drawn ∙ ap (λ (ls : List Line). noted k ls (pictures k at)) (all s));
      only = λ next x.
          x.2 ∙ ap (λ (u : Tree script). noted k (lines u) (pictures k at)) (unique x.0 t (x.1 ∙ sym e))
          ∙ ap (λ (ls : List Line). noted k ls (pictures k at)) (sym (all s)) ∙ sym d.drawn;
    }
    perform_step given t e r d (Some f) s all = record {
      limited = d.limited;
      agrees = tt;
      told = (t, e, d.drawn);
      only = λ next x. x.2 ∙ ap (λ (u : Tree script). noted k (take r.done (lines u)) (pictures k at)) (unique x.0 t (x.1 ∙ sym e)) ∙ sym d.drawn;
    }

    run_step : (given : List ℕ) (o : Outcome W) → Runs k v at given o → Step at (Run given) o
    run_step given o (unread {f} h) = refuse (Run given) (NotRun (Unread f)) refl
    run_step given o (performed t short h) =
        perform_step given t h.is (run_lines (drawing k) (lines t) at) (did k laws (lines t) at limited) _ refl (all_done k laws (lines t) at)

    clear_step : (n : ℕ) (p : Place) → place n ≡ Some p → Step at (Clear n) (answers (put p blank at) 0 Nothing)
    clear_step n p e = record {
      limited = put_keeps Limited p blank at blank_limited limited;
      agrees = tt;
      told = (p, e, puts p blank);
      only = λ next x. x.2 ∙ ap (λ (q : Place). put q (λ w. k.zero) (pictures k at)) (one_found (place n) e x.1) ∙ sym (puts p blank);
    }

    write_step : (n room : ℕ) (p : Place) → place n ≡ Some p → (o : Outcome W) → Writes k v at p room o → Step at (Write n room) o
    write_step n room p e o (too_wide h) = refuse (Write n room) _ refl
    write_step n room p e o (too_short h l) = refuse (Write n room) _ refl
    write_step n room p e o (written h l) = record { limited = limited; agrees = (p, at p, _, e, record { narrow = h; limited = limited p; spelled = refl }, refl, λ w. refl); told = refl; only = λ n x. x }

    print_step : (n depth digits prefix room : ℕ) (p : Place) → place n ≡ Some p → (o : Outcome W) → Prints k v at p depth digits prefix room o → Step at (Print n depth digits prefix room) o
    print_step n depth digits prefix room p e o (no_tile h) = refuse (Print n depth digits prefix room) _ refl
    print_step n depth digits prefix room p e o (no_room h l) = refuse (Print n depth digits prefix room) _ refl
    print_step n depth digits prefix room p e o (printed h l) = record { limited = limited; agrees = (p, e, refl); told = refl; only = λ n x. x }

    step : (memory : ℕ) (c : Call) (o : Outcome W) → Rules k v at memory c o → Step at c o
    step memory (Enter n given) o h = at_some_place memory n (Enter n given) o (λ p e. enter_step n p e given o) h
    step memory (Run given) o h = memory_tested (Run given) o (ltb memory 10240) (run_step given o) h
    step memory (Clear n) o h = at_some_place memory n (Clear n) o (λ p e x. subst (Step at (Clear n)) (sym x) (clear_step n p e)) h
    step memory (Write n room) o h = at_some_place memory n (Write n room) o (λ p e. write_step n room p e o) h
    step memory (Print n depth digits prefix room) o h =
        at_some_place memory n (Print n depth digits prefix room) o (λ p e. print_step n depth digits prefix room p e o) h

  -- bodies that may stand at their places stay so
  pub stays_limited : (at : Places W) → AllLimited at → (memory : ℕ) (c : Call) (o : Outcome W) → Rules k v at memory c o → AllLimited o.after
  stays_limited at limited memory c o h = (step at limited memory c o h).limited

  faithful_from : (memory : ℕ) (es : List (Event W)) (at now : Places W) → AllLimited at → ByRules k v memory at es now → Faithful k v (pictures k at) es
  faithful_from memory [] at now limited h = tt
  faithful_from memory (e ∷ es) at now limited h =
      let s = step at limited memory e.call (leaving e h.0) h.1 in
      (s.agrees, (pictures k h.0, s.told, s.only, faithful_from memory es h.0 now s.limited h.2))

  pub lists_faithful : ListsFaithful k v
  lists_faithful memory es now h = faithful_from memory es fresh now (λ p. blank_limited) h

  -- one call more
  pub by_rules_more : (memory : ℕ) (at now after : Places W) (es : List (Event W)) (e : Event W) → ByRules k v memory at es now
      → Rules k v now memory e.call (leaving e after) → ByRules k v memory at (es ++ e ∷ []) after
  by_rules_more memory at now after [] e h r = (after, subst (λ (from : Places W). Rules k v from memory e.call (leaving e after)) (sym h) r, refl)
  by_rules_more memory at now after (f ∷ es) e h r = (h.0, h.1, by_rules_more memory h.0 now after es e h.2 r)
