-- Scripts: what the lines done mean, and scripts that differ by uses of the laws.
use Rattle.std.proofs.Common.{◌≡◌, suc, Bool, true, false, cond, eqb, List, [], ◌∷◌, length, take, None, Ok, Err, Result, sym, refl, ap, ◌∙◌, arith}
use mathlib.Core.Path.{fun_ext}
use Rattle.std.proofs.lemmas.List.{take_all}
use Rattle.std.proofs.lemmas.Bool.{eqb-true}
use Rattle.weight.specs.Kinds.{Kind, Laws}
use Rattle.picture.specs.Bodies.{Body}
use Rattle.picture.specs.Pictures.{Picture, picture}
use Rattle.picture.specs.Quadrants.{Address}
use Rattle.picture.proofs.LawsOfPictures.{picture_laws}
use Rattle.words.specs.Format.{Limited}
use Rattle.recipe.specs.declared.place.Place.{Place}
use Rattle.recipe.specs.Expressions.{Line}
use Rattle.recipe.specs.Evaluations.{either, put, value, Ran, one_more, stops, run_lines}
use Rattle.recipe.specs.Places.{number}
use Rattle.recipe.proofs.Numbers.{one_place}
use Rattle.stack.specs.Drawing.{drawing}
use Rattle.stack.specs.declared.fault.StepFault.{StepFault}
use Rattle.book.specs.Calls.{Places}
use Rattle.book.specs.Meanings.{Book, meaning, noted}
use Rattle.book.specs.Statements.{AllLimited}
use Rattle.book.specs.Uses.{Related, no_line, a_line, RelatedFromOne, the_last, before_it, Compared, always, from_one}
use Rattle.book.proofs.Alikes.{alike_means, below_means}
use Rattle.book.proofs.Evaluating.{pictures, Means, gives, stops as stopped, means}

-- what holds of v and of each place holds after a put
pub put_keeps : {V : Type 0} (P : V → Type 0) (p : Place) (v : V) (at : Place → V) → P v → ((q : Place) → P (at q)) → (q : Place) → P (put p v at q)
put_keeps P p v at h all q = elim (eqb (number q) (number p)) as (λ t. P (cond t v (at q))) [ true ↦ h | false ↦ all q ]

-- a function behind a put
pub put_through : {V U : Type 0} (f : V → U) (p : Place) (v : V) (at : Place → V) (q : Place) → f (put p v at q) ≡ put p (f v) (λ r. f (at r)) q
put_through f p v at q = elim (eqb (number q) (number p)) as (λ t. f (cond t v (at q)) ≡ cond t (f v) (f (at q))) [ true ↦ refl | false ↦ refl ]

module _ {W : Type 0} (k : Kind W) (laws : Laws k) where
  -- the bodies after have the pictures that the lines done mean
  pub record Did (ls : List Line) (at : Places W) (r : Ran (Body W) StepFault) : Type 0 where
    pub limited : AllLimited r.after
    pub drawn : pictures k r.after ≡ noted k (take r.done ls) (pictures k at)

  did_line : (l : Line) (ls : List Line) (at : Places W) → AllLimited at → ((now : Places W) → AllLimited now → Did ls now (run_lines (drawing k) ls now))
      → {e : Result (Body W) StepFault} → Means k (meaning k (pictures k at) l.right) e
      → Did (l ∷ ls) at (either e (λ b. one_more (run_lines (drawing k) ls (put l.target b at))) (stops at))
  did_line l ls at limited on (gives {b} h) =
      let rest = on (put l.target b at) (put_keeps Limited l.target b at h.limited limited) in
      record {
        limited = rest.limited;
        drawn = rest.drawn ∙ ap (noted k (take (run_lines (drawing k) ls (put l.target b at)).done ls)) (fun_ext (put_through (picture k) l.target b at) ∙ ap (λ (f : Picture W). put l.target f (pictures k at)) (fun_ext h.shows));
      }
  did_line l ls at limited on stopped = record { limited = limited; drawn = refl }

  pub did : (ls : List Line) (at : Places W) → AllLimited at → Did ls at (run_lines (drawing k) ls at)
  did [] at limited = record { limited = limited; drawn = refl }
  did (l ∷ ls) at limited = did_line l ls at limited (did ls) (means k laws at limited l.right)

  -- an accepted script did all its lines
  count_line : (l : Line) (ls : List Line) (at : Places W) → ((now : Places W) → (run_lines (drawing k) ls now).stop ≡ None → (run_lines (drawing k) ls now).done ≡ length ls)
      → (e : Result (Body W) StepFault) → (either e (λ b. one_more (run_lines (drawing k) ls (put l.target b at))) (stops at)).stop ≡ None
      → (either e (λ b. one_more (run_lines (drawing k) ls (put l.target b at))) (stops at)).done ≡ suc (length ls)
  count_line l ls at on (Ok b) a = ap suc (on (put l.target b at) a)
  count_line l ls at on (Err s) a = cc

  pub lines_counted : (ls : List Line) (at : Places W) → (run_lines (drawing k) ls at).stop ≡ None → (run_lines (drawing k) ls at).done ≡ length ls
  lines_counted [] at a = refl
  lines_counted (l ∷ ls) at a = count_line l ls at (lines_counted ls) (value (drawing k) at l.right) a

  pub all_done : (ls : List Line) (at : Places W) → (run_lines (drawing k) ls at).stop ≡ None → take (run_lines (drawing k) ls at).done ls ≡ ls
  all_done ls at a = let e = lines_counted ls at a in take_all (run_lines (drawing k) ls at).done ls (omega arith)

  accepted : (ls : List Line) (at : Places W) → AllLimited at → (run_lines (drawing k) ls at).stop ≡ None → pictures k (run_lines (drawing k) ls at).after ≡ noted k ls (pictures k at)
  accepted ls at limited a = (did ls at limited).drawn ∙ ap (λ (m : List Line). noted k m (pictures k at)) (all_done ls at a)

  related_noted : {ls ms : List Line} → Related k.exchanges ls ms → (book : Book W) → noted k ls book ≡ noted k ms book
  related_noted no_line book = refl
  related_noted (a_line {p} {f} {g} {ls} {ms} h r) book =
      ap (λ (m : Picture W). noted k ls (put p m book)) (alike_means k (picture_laws laws) book h) ∙ related_noted r (put p (meaning k book g) book)

  at_target : (f g : Picture W) (at : Book W) (p q : Place) (w : Address) → (q ≡ p → f w ≡ g w) → (t : Bool) → eqb (number q) (number p) ≡ t → cond t f (at q) w ≡ cond t g (at q) w
  at_target f g at p q w h true e = h (one_place q p (eqb-true (number q) (number p) e))
  at_target f g at p q w h false e = refl

  below_noted : {last : Place} {ls ms : List Line} → RelatedFromOne k.exchanges last ls ms → (book : Book W) (p : Place) (w : Address) → (p ≡ last → w ≡ [] → ⊥) → noted k ls book p w ≡ noted k ms book p w
  below_noted {last} (the_last {f} {g} h) book p w deep =
      at_target (meaning k book f) (meaning k book g) book last p w (λ e. below_means k (picture_laws laws) book h w (deep e)) (eqb (number p) (number last)) refl
  below_noted (before_it {q} {f} {g} {ls} {ms} h r) book p w deep =
      ap (λ (m : Picture W). noted k ls (put q m book) p w) (alike_means k (picture_laws laws) book h) ∙ below_noted r (put q (meaning k book g) book) p w deep

  at_both : {f g : Book W} → f ≡ g → (p : Place) (w : Address) → f p w ≡ g p w
  at_both e p w = λ i. e i p w

  -- accepted scripts that differ by uses of the laws leave the same pictures, wherever these are compared
  pub law_equal : (at : Places W) → AllLimited at → (ls ms : List Line) → (run_lines (drawing k) ls at).stop ≡ None → (run_lines (drawing k) ms at).stop ≡ None
      → (p : Place) (w : Address) → Compared k.exchanges ls ms p (length w) → picture k ((run_lines (drawing k) ls at).after p) w ≡ picture k ((run_lines (drawing k) ms at).after p) w
  law_equal at limited ls ms a b p w (always r) =
      at_both (accepted ls at limited a ∙ related_noted r (pictures k at) ∙ sym (accepted ms at limited b)) p w
  law_equal at limited ls ms a b p w (from_one r deep) =
      at_both (accepted ls at limited a) p w ∙ below_noted r (pictures k at) p w (λ e n. let d = deep e in let z : length w ≡ 0 = ap length n in omega arith) ∙ sym (at_both (accepted ms at limited b) p w)
