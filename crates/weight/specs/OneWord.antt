-- A kind whose values are each written in one word.
use Rattle.std.specs.Prelude.{◌≡◌, ℕ, List, [], ◌∷◌, length, slice_index, refl}
use Rattle.std.proofs.Common.{ap, arith}
use Rattle.weight.specs.Words.{WordLaws, PayloadLaws, weight_word, single_word}

pub one_word_laws : {W : Type 0} {code : ℕ} {payload : W → ℕ} → PayloadLaws code payload → WordLaws (single_word code payload)
one_word_laws laws = record {
  code_from = laws.code_from;
  code_to = laws.code_to;
  width_from = omega arith;
  width_to = omega arith;
  count = λ _ v. refl;
  unique = λ _ v w e. laws.same v w (omega (arith, ap (λ l. slice_index l 0) e));
  tagged = λ _ v. let h = laws.fits v in ((omega arith, omega arith), tt);
}

pub word_is : (p : ℕ) (words : List ℕ) → length words ≡ 1 → weight_word p ≡ slice_index words 0 → weight_word p ∷ [] ≡ words
word_is p [] n e = absurd (omega arith)
word_is p (x ∷ []) n e = ap (λ w. w ∷ []) e
word_is p (x ∷ y ∷ ys) n e = absurd (omega arith)
