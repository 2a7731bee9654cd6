-- The steps of a tree within the limits can be carried out.
use Rattle.std.proofs.Common.{◌≡◌, ℕ, ◌+◌, ◌-◌, ◌≤◌, List, [], ◌∷◌, ◌++◌, length, sym, refl, ap, subst, arith}
use Rattle.recipe.specs.declared.step.Step.{Step}
use Rattle.recipe.specs.declared.step.Step.TheVariants.{Name, Turn, Mirror, Zoom, Add, Multiply, Piece, Store}
use Rattle.recipe.specs.Trees.{Cat, Prefix, turn, mirror, zoom, Tree, one, plus, single, times, name, prefixed, round, pieces, closes, row, blank, next, text}
use Rattle.recipe.specs.Steps.{step_of, steps, Carries}
use Rattle.recipe.specs.Limits.{Byte, ahead, counted, Within}
use Rattle.recipe.specs.Devices.Reading.{gain}
use Rattle.recipe.specs.Laws.{StepsCarry}
use Rattle.recipe.proofs.Moves.{fewer}

carries_++ : (ss ts : List Step) (w u v : ℕ) → Carries w ss u → Carries u ts v → Carries w (ss ++ ts) v
carries_++ [] ts w u v p q = subst (λ x. Carries x ts v) (sym p) q
carries_++ (Name k ∷ ss) ts w u v p q = (p.0, carries_++ ss ts (w + 1) u v p.1 q)
carries_++ (Turn ∷ ss) ts w u v p q = (p.0, carries_++ ss ts w u v p.1 q)
carries_++ (Mirror ∷ ss) ts w u v p q = (p.0, carries_++ ss ts w u v p.1 q)
carries_++ (Zoom d ∷ ss) ts w u v p q = (p.0, carries_++ ss ts w u v p.1 q)
carries_++ (Add i ∷ ss) ts w u v p q = (p.0, carries_++ ss ts (w - 1) u v p.1 q)
carries_++ (Multiply i ∷ ss) ts w u v p q = (p.0, carries_++ ss ts (w - 1) u v p.1 q)
carries_++ (Piece i ∷ ss) ts w u v p q = (p.0, carries_++ ss ts (w - 3) u v p.1 q)
carries_++ (Store k ∷ ss) ts w u v p q = (p.0, carries_++ ss ts (w - 1) u v p.1 q)

fine_left : (xs ys : List Byte) → Within (xs ++ ys) → Within xs
fine_left [] ys f = tt
fine_left (x ∷ xs) ys f = (f.0, f.1, fine_left xs ys f.2)

fine_right : (xs ys : List Byte) → Within (xs ++ ys) → Within ys
fine_right [] ys f = f
fine_right (x ∷ xs) ys f = fine_right xs ys f.2

prefix_step : (x : Prefix) (w : ℕ) → 1 ≤ w → Carries w (step_of x ∷ []) w
prefix_step turn w h = (h, refl)
prefix_step mirror w h = (h, refl)
prefix_step (zoom d) w h = (h, refl)

pub carried : {c : Cat} (t : Tree c) (i l w : ℕ) → Within (counted t l w) → Carries w (steps t i) (w + gain c)
carried (one p) i l w f = carried p i l w f
carried (plus s p) i l w f =
    carries_++ (steps s i) _ w (w + 1) _ (carried s i l w (fine_left (counted s l w) _ f))
    (carries_++ (steps p (i + length (text s) + 1)) _ (w + 1) (w + 1 + 1) _ (carried p _ l (w + 1) (fine_right (counted s l w) _ f).2) (omega arith, omega arith))
carried (single p) i l w f = carried p i l w f
carried (times s p) i l w f =
    carries_++ (steps s i) _ w (w + 1) _ (carried s i l w (fine_left (counted s l w) _ f))
    (carries_++ (steps p (i + length (text s) + 1)) _ (w + 1) (w + 1 + 1) _ (carried p _ l (w + 1) (fine_right (counted s l w) _ f).2) (omega arith, omega arith))
carried (name k) i l w f = (f.1, refl)
carried (prefixed x p) i l w f = carries_++ (steps p _) _ w (w + 1) _ (carried p _ (l + 1) w (fine_right (ahead x (l + 1)) _ f)) (prefix_step x (w + 1) (omega arith))
carried (round s) i l w f = carried s (i + 1) (l + 1) w f.2
carried (pieces x y z u) i l w f =
    let X = counted x (l + 1) w in
    let Y = counted y (l + 1) (w + 1) in
    let Z = counted z (l + 1) (w + 2) in
    let f₁ = fine_right X _ f.2 in
    let f₂ = fine_right Y _ f₁ in
    let n₂ : w + 1 + 1 ≡ w + 2 = omega arith in
    let n₃ : w + 2 + 1 ≡ w + 3 = omega arith in
    carries_++ (steps x _) _ w (w + 1) _ (carried x _ (l + 1) w (fine_left X _ f.2))
    (carries_++ (steps y _) _ (w + 1) (w + 2) _ (subst (Carries (w + 1) (steps y (i + 1 + length (text x)))) n₂ (carried y (i + 1 + length (text x)) (l + 1) (w + 1) (fine_left Y _ f₁)))
    (carries_++ (steps z _) _ (w + 2) (w + 3) _ (subst (Carries (w + 2) (steps z (i + 1 + length (text x) + length (text y)))) n₃ (carried z (i + 1 + length (text x) + length (text y)) (l + 1) (w + 2) (fine_left Z _ f₂)))
    (carries_++ (steps u _) _ (w + 3) (w + 3 + 1) _ (carried u _ (l + 1) (w + 3) (fine_right Z _ f₂)) (omega arith, omega arith))))
carried (closes b s) i l w f = carried s i l w (fine_left (counted s l w) _ f)
carried (row k s) i l w f = carries_++ (steps s _) _ w (w + 1) _ (carried s _ l w f.2.2) (omega arith, omega arith)
carried blank i l w f = omega arith
carried (next s r) i l w f =
    carries_++ (steps s i) _ w w _ (subst (Carries w (steps s i)) (let n : w + 0 ≡ w = omega arith in n) (carried s i l w (fine_left (counted s l w) _ f)))
    (carried r _ l w (fine_right (counted s l w) _ f))

pub steps_carry : StepsCarry
steps_carry src r o =
    let t = o.tree in
    let s = o.spells in
    (subst (λ v. Carries 0 v 0) (sym o.are) (carried t 0 0 0 s.within), omega (arith, ap length o.are, fewer t 0, ap length s.is))
