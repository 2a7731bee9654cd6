-- What a reader took.
use Rattle.std.proofs.Common.{◌≡◌, ℕ, ◌+◌, ◌-◌, ◌<◌, List, ◌++◌, length, set, sym, ap, ◌∙◌, subst, arith}
use Rattle.std.specs.List.{between}
use Rattle.std.proofs.lemmas.List.{append_assoc, length-append, take_at}
use Rattle.weight.specs.declared.kind.Weight.{Ghosts as Weight}
use Rattle.weight.specs.declared.written.Written.{Ghosts as Written}
use Rattle.words.specs.Inner.{Took}
use Rattle.words.specs.declared.reader.Reader.{Reader}
use Rattle.words.proofs.Zipping.{so_far, pair_stored}

pub took_both : {W : Type 0} {w : Written W} {base : Weight W} {a b d : Reader W w base} {xs ys : List ℕ} → Took xs a b → Took ys b d → Took (xs ++ ys) a d
took_both {a = a} {b = b} {d = d} {xs = xs} {ys = ys} p q = record {
  splits = p.splits ∙ ap (λ zs. xs ++ zs) q.splits ∙ sym (append_assoc xs ys d.rest.now);
  on = omega (arith, p.on, q.on, length-append xs ys);
}

pub took_as : {W : Type 0} {w : Written W} {base : Weight W} {a b : Reader W w base} {xs ys : List ℕ} → xs ≡ ys → Took xs a b → Took ys a b
took_as {a = a} {b = b} e p = subst (λ zs. Took zs a b) e p

-- one pair more
module _ {A B W : Type 0} {w : Written W} {base : Weight W} (f : A × B → List ℕ) {a b d : Reader W w base} (k : ℕ) (xs : List A) (ys : List B) (x : A) (y : B) where
  pub took_pair : k < length xs → k < length ys → Took (so_far f k xs ys) a b → Took (f (x, y)) b d → Took (so_far f (k + 1) (set xs k x) (set ys k y)) a d
  took_pair h l p q = took_as (sym (pair_stored f k xs ys x y h l)) (took_both p q)

-- the front that was written
pub front_written : {A : Type 0} (xs ys out : List A) (k : ℕ) → k ≡ length xs → out ≡ xs ++ ys → xs ≡ between 0 k out
front_written xs ys out k l e = sym (ap (λ zs. between 0 k zs) e ∙ take_at xs ys (k - 0) (omega arith))
