-- The weights of the new state, before those of the parts.
use Rattle.std.proofs.Common.{◌≡◌, ℕ, ◌+◌, ◌-◌, ◌<◌, List, [], ◌∷◌, ◌++◌, length, set, replicate, drop, refl, ap, ap₂, ◌∙◌, arith}
use borrow.Rule.Slice.PartMut.{put_mid}
use Rattle.std.specs.List.{FoldsTo}
use Rattle.std.proofs.lemmas.List.{append-nil, drop_all}

-- what is written after a first element
pub after_first : {X : Type 0} (k : ℕ) (out xs : List X) (z : X) → length out ≡ 1 + k → put_mid 1 k (set out 0 z) xs ≡ z ∷ xs
after_first k [] xs z l = absurd (omega arith)
after_first k (o ∷ out) xs z l = ap (λ zs. z ∷ zs) (ap (λ zs. xs ++ zs) (drop_all k out (omega arith)) ∙ append-nil xs)

-- what a call that always gives one value wrote
pub filled_same : {P A : Type 0} (R : P → A → P → Type 0) (value : P → A) → ((p : P) (x : A) (q : P) → R p x q → (x ≡ value p) × (value q ≡ value p))
    → (p : P) (xs : List A) (q : P) → FoldsTo R p xs q → xs ≡ replicate (length xs) (value p)
filled_same R value one p [] q h = refl
filled_same R value one p (x ∷ xs) q h =
    let step = one p x h.0 h.1 in
    ap₂ ◌∷◌ step.0 (filled_same R value one h.0 xs q h.2 ∙ ap (replicate (length xs)) step.1)

pub first_of : {W : Type 0} (x one y z : W) (n : ℕ) (out : List W) → out ≡ replicate (length out) y → length out ≡ n → 0 < n → x ≡ one → y ≡ z → set out 0 x ≡ one ∷ replicate (n - 1) z
first_of x one y z n [] e l p ex ey = absurd (omega arith)
first_of x one y z n (o ∷ out) e l p ex ey =
    let less : length out ≡ n - 1 = omega arith in
    ap₂ ◌∷◌ ex (ap (drop 1) e ∙ ap₂ replicate less ey)
