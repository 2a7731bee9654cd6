-- A script has one answer.
use Rattle.std.proofs.Common.{◌≡◌, ℕ, zero, suc, ◌+◌, ◌-◌, ◌<◌, ◌≤◌, ◌⊎◌, List, [], ◌∷◌, ◌++◌, length, get_or, take, drop, Ok, Err, sym, refl, ap, ◌∙◌, subst, inl, inr, ⊎_elim, append_assoc, append-nil, arith, length-take-le, get_or-take, take-add}
use lib.Seq.{take-length}
use Rattle.std.proofs.str.Laws.{order}
use Rattle.recipe.specs.declared.fault.Fault.{Fault}
use Rattle.recipe.specs.declared.fault.Fault.TheVariants.{TooLong, Grammar, Level, Waiting}
use Rattle.recipe.specs.Trees.{script, Tree, text}
use Rattle.recipe.specs.Steps.{steps}
use Rattle.recipe.specs.Limits.{Byte, plain, counted, Within}
use Rattle.recipe.specs.Devices.Reading.{byte_of}
use Rattle.recipe.specs.Outcomes.{Begins, WithinTo, byte_at, Ungrammatical, TooDeep, TooMany, Refused}
use Rattle.recipe.specs.Laws.{OneTree, OneAnswer, Sound, AcceptedExactly}
use Rattle.recipe.proofs.Walks.{unique}
use Rattle.recipe.proofs.Counts.{settled, counted_one}

begins_less : (t : Tree script) (src : List ℕ) (i j : ℕ) → i ≤ j → Begins t src j → Begins t src i
begins_less t src i j le b =
    let n : i + (j - i) ≡ j = omega arith in
    (take (j - i) (drop i src) ++ b.0, b.1 ∙ ap (λ v. v ++ b.0) (ap (λ v. take v src) (sym n) ∙ take-add i (j - i) src) ∙ append_assoc (take i src) _ b.0)

same_counted : (t u : Tree script) (src : List ℕ) (j : ℕ) → j ≤ length src → Begins t src j → Begins u src j → take j (counted t 0 0) ≡ take j (counted u 0 0)
same_counted t u src j le b c =
    let n = length-take-le j src le in
    settled t (take j src) b.0 j n b.1 ∙ sym (settled u (take j src) c.0 j n c.1)

same_mark : (t u : Tree script) (src : List ℕ) (i j : ℕ) → i < j → j ≤ length src → Begins t src (i + 1) → Begins u src j → byte_at t i ≡ byte_at u i
same_mark t u src i j lt le b c =
    let e = same_counted t u src (i + 1) (omega arith) b (begins_less u src (i + 1) j (omega arith) c) in
    sym (get_or-take (i + 1) (counted t 0 0) i (plain 0) (omega arith)) ∙ ap (λ v. get_or v i (plain 0)) e ∙ get_or-take (i + 1) (counted u 0 0) i (plain 0) (omega arith)

fine_at : (ms : List Byte) (j i : ℕ) → Within (take j ms) → i < j → ((get_or ms i (plain 0)).level ≤ 16) × ((get_or ms i (plain 0)).waiting ≤ 6)
fine_at [] j i f lt = (omega arith, omega arith)
fine_at (m ∷ ms) zero i f lt = absurd (omega arith)
fine_at (m ∷ ms) (suc j) zero f lt = (f.0, f.1)
fine_at (m ∷ ms) (suc j) (suc i) f lt = fine_at ms j i f.2 (omega arith)

-- why a script that is not too long is refused
abbrev Stuck : List ℕ → Fault → Type 0
Stuck src TooLong = ⊥
Stuck src (Grammar i) = Ungrammatical src i
Stuck src (Level i) = TooDeep src i
Stuck src (Waiting i) = TooMany src i

-- no script goes past a refusal within the limits
past : (src : List ℕ) (f : Fault) → Stuck src f → (u : Tree script) (j : ℕ) → j ≤ length src → byte_of f < j → Begins u src j → WithinTo u j → ⊥
past src TooLong h u j le lt b g = h
past src (Grammar i) h u j le lt b g = h.no_byte (omega arith) u (begins_less u src (i + 1) j (omega arith) b)
past src (Level i) h u j le lt b g =
    let e : (byte_at u i).level ≡ 17 = ap (λ v. v.level) (sym (same_mark h.tree u src i j lt le h.begins b)) ∙ h.level in
    omega (arith, e, (fine_at (counted u 0 0) j i g lt).0)
past src (Waiting i) h u j le lt b g =
    let e : (byte_at u i).waiting ≡ 7 = ap (λ v. v.waiting) (sym (same_mark h.tree u src i j lt le h.begins b)) ∙ h.waiting in
    omega (arith, e, (fine_at (counted u 0 0) j i g lt).1)

within : (src : List ℕ) (f : Fault) → Stuck src f → byte_of f ≤ length src
within src TooLong h = absurd h
within src (Grammar i) h = h.inside
within src (Level i) h = omega (arith, h.inside)
within src (Waiting i) h = omega (arith, h.inside)

reached : (src : List ℕ) (f : Fault) → Stuck src f → (t : Tree script) × Begins t src (byte_of f) × WithinTo t (byte_of f)
reached src TooLong h = absurd h
reached src (Grammar i) h = (h.tree, h.begins, h.within)
reached src (Level i) h = (h.tree, begins_less h.tree src i (i + 1) (omega arith) h.begins, h.within)
reached src (Waiting i) h = (h.tree, begins_less h.tree src i (i + 1) (omega arith) h.begins, h.within)

not_before : (src : List ℕ) (f g : Fault) → Stuck src f → Stuck src g → byte_of f < byte_of g → ⊥
not_before src f g p q lt = let r = reached src g q in past src f p r.0 (byte_of g) (within src g q) lt r.1 r.2

same_byte : (src : List ℕ) (f g : Fault) → Stuck src f → Stuck src g → byte_of f ≡ byte_of g
same_byte src f g p q =
    ⊎_elim (λ lt. absurd (not_before src f g p q lt)) (λ le. ⊎_elim (λ lt. absurd (not_before src g f q p lt)) (λ ge. omega arith) (order (byte_of g) (byte_of f))) (order (byte_of f) (byte_of g))

-- a byte that is no byte of the grammar is not one that exceeds a limit
clash : (src : List ℕ) (i j : ℕ) (t : Tree script) → Stuck src (Grammar i) → i ≡ j → j < length src → Begins t src (j + 1) → ⊥
clash src i j t h e lt b = h.no_byte (omega arith) t (subst (λ v. Begins t src (v + 1)) (sym e) b)

apart : (src : List ℕ) (i j : ℕ) → Stuck src (Level i) → Stuck src (Waiting j) → i ≡ j → ⊥
apart src i j p q e =
    let t = p.tree in
    let m : (byte_at t j).waiting ≡ 7 = ap (λ v. v.waiting) (same_mark t q.tree src j (j + 1) (omega arith) (omega (arith, q.inside)) (subst (λ v. Begins t src (v + 1)) e p.begins) q.begins) ∙ q.waiting in
    let l : (byte_at t j).level ≡ 17 = subst (λ v. (byte_at t v).level ≡ 17) e p.level in
    ⊎_elim (λ z. omega (arith, l, z)) (λ z. omega (arith, m, z)) (counted_one t j)

one_fault : (src : List ℕ) (f g : Fault) → Stuck src f → Stuck src g → byte_of f ≡ byte_of g → f ≡ g
one_fault src TooLong g p q e = absurd p
one_fault src (Grammar i) TooLong p q e = absurd q
one_fault src (Grammar i) (Grammar j) p q e = ap Grammar e
one_fault src (Grammar i) (Level j) p q e = absurd (clash src i j q.tree p e q.inside q.begins)
one_fault src (Grammar i) (Waiting j) p q e = absurd (clash src i j q.tree p e q.inside q.begins)
one_fault src (Level i) TooLong p q e = absurd q
one_fault src (Level i) (Grammar j) p q e = absurd (clash src j i p.tree q (sym e) p.inside p.begins)
one_fault src (Level i) (Level j) p q e = ap Level e
one_fault src (Level i) (Waiting j) p q e = absurd (apart src i j p q e)
one_fault src (Waiting i) TooLong p q e = absurd q
one_fault src (Waiting i) (Grammar j) p q e = absurd (clash src j i p.tree q (sym e) p.inside p.begins)
one_fault src (Waiting i) (Level j) p q e = absurd (apart src j i q p (sym e))
one_fault src (Waiting i) (Waiting j) p q e = ap Waiting e

all_begins : (t : Tree script) (src : List ℕ) → text t ≡ src → Begins t src (length src)
all_begins t src e = ([], e ∙ sym (append-nil _ ∙ take-length src))

all_fine : (t : Tree script) (ms : List Byte) (n : ℕ) → Within ms → Within (take n ms)
all_fine t [] zero f = tt
all_fine t [] (suc n) f = tt
all_fine t (m ∷ ms) zero f = tt
all_fine t (m ∷ ms) (suc n) f = (f.0, f.1, all_fine t ms n f.2)

-- a fault at the end is one of the grammar
at_end : (src : List ℕ) (f : Fault) → Stuck src f → byte_of f ≡ length src → (t : Tree script) → text t ≡ src → ⊥
at_end src TooLong h e t p = h
at_end src (Grammar i) h e t p = h.no_end e t p
at_end src (Level i) h e t p = omega (arith, h.inside)
at_end src (Waiting i) h e t p = omega (arith, h.inside)

not_both : (src : List ℕ) (f : Fault) (t : Tree script) → text t ≡ src → Within (counted t 0 0) → Stuck src f → ⊥
not_both src f t e g h =
    ⊎_elim
    (λ lt. past src f h t (length src) (omega arith) lt (all_begins t src e) (all_fine t (counted t 0 0) (length src) g))
    (λ ge. at_end src f h (omega (arith, within src f h)) t e)
    (order (byte_of f) (length src))

-- a refusal is for the length, or else at a byte
parts : (src : List ℕ) (f : Fault) → Refused src f → ((f ≡ TooLong) × (512 < length src)) ⊎ ((length src ≤ 512) × Stuck src f)
parts src TooLong h = inl (refl, h)
parts src (Grammar i) h = inr h
parts src (Level i) h = inr h
parts src (Waiting i) h = inr h

-- no text of a tree within the limits is refused
not_refused : (src : List ℕ) (f : Fault) → Sound src → Refused src f → ⊥
not_refused src f s h =
    let t = s.1.1 in
    ⊎_elim (λ p. omega (arith, p.1, s.0)) (λ p. not_both src f s.1.0 t.is t.within p.1) (parts src f h)

same_fault : (src : List ℕ) (f g : Fault) → Refused src f → Refused src g → f ≡ g
same_fault src f g p q =
    ⊎_elim
    (λ x. ⊎_elim (λ y. x.0 ∙ sym y.0) (λ y. absurd (omega (arith, x.1, y.0))) (parts src g q))
    (λ x. ⊎_elim (λ y. absurd (omega (arith, x.0, y.1))) (λ y. one_fault src f g x.1 y.1 (same_byte src f g x.1 y.1)) (parts src g q))
    (parts src f p)

pub one_tree : OneTree
one_tree = unique

pub one_answer : OneAnswer
one_answer src (Ok r) (Ok s) p q =
    p.are ∙ ap (λ v. steps v 0) (unique p.tree q.tree (p.spells.is ∙ sym q.spells.is)) ∙ sym q.are
one_answer src (Ok r) (Err g) p q = not_refused src g (p.short, (p.tree, p.spells)) q
one_answer src (Err f) (Ok s) p q = not_refused src f (q.short, (q.tree, q.spells)) p
one_answer src (Err f) (Err g) p q = same_fault src f g p q

pub accepted_exactly : AcceptedExactly
accepted_exactly src (Ok r) o = (λ e. (o.short, (o.tree, o.spells)), λ s. refl)
accepted_exactly src (Err f) o = (λ e. cc, λ s. absurd (not_refused src f s o))
