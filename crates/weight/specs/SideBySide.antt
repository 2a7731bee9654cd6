-- The words of a pair: those of the first part, then those of the second.
use Rattle.std.specs.Prelude.{◌≡◌, ℕ, ◌+◌, ◌-◌, ◌<◌, ◌≤◌, List, length, take, drop, slice_index}
use Rattle.std.proofs.Common.{sym, ap, ap₂, ◌∙◌, arith, length-append}
use Rattle.std.proofs.ByRecursion.{All-append}
use Rattle.std.proofs.lemmas.List.{take_at, drop_at, get_or_append_left, get_or-append_right}
use Rattle.weight.specs.Pair.{pair, pair_writing}
use Rattle.weight.specs.Words.{Writing, WordLaws, WeightWord}
use Rattle.weight.specs.declared.pair.Pair.{Pair}

module _ {A B : Type 0} {s : Writing A} {t : Writing B} (first : WordLaws s) (second : WordLaws t) where
  module _ (narrow : (pair_writing s t).width < 9) where
    pub first_narrow : s.width < 9
    first_narrow = let h = second.width_from in omega arith

    pub second_narrow : t.width < 9
    second_narrow = let h = first.width_from in omega arith

    first_count : (v : Pair A B) → length (s.words v.first) ≡ s.width
    first_count v = first.count first_narrow v.first

    second_count : (v : Pair A B) → length (t.words v.second) ≡ t.width
    second_count v = second.count second_narrow v.second

    pub pair_count : (v : Pair A B) → length ((pair_writing s t).words v) ≡ s.width + t.width
    pair_count v = length-append (s.words v.first) (t.words v.second) ∙ ap₂ (λ m n. m + n) (first_count v) (second_count v)

    -- the words of the parts are read off those of the pair
    pub pair_front : (v : Pair A B) (l : List ℕ) → (pair_writing s t).words v ≡ l → s.words v.first ≡ take s.width l
    pair_front v l e = sym (take_at (s.words v.first) (t.words v.second) s.width (first_count v)) ∙ ap (take s.width) e

    pub pair_back : (v : Pair A B) (l : List ℕ) → (pair_writing s t).words v ≡ l → t.words v.second ≡ drop s.width l
    pair_back v l e = sym (drop_at (s.words v.first) (t.words v.second) s.width (first_count v)) ∙ ap (drop s.width) e

    pub pair_word : (v : Pair A B) (i : ℕ) → i < s.width → slice_index ((pair_writing s t).words v) i ≡ slice_index (s.words v.first) i
    pair_word v i h = let n = first_count v in get_or_append_left (s.words v.first) (t.words v.second) 0 i (omega arith)

    pub pair_word_past : (v : Pair A B) (i : ℕ) → s.width ≤ i → slice_index ((pair_writing s t).words v) i ≡ slice_index (t.words v.second) (i - s.width)
    pair_word_past v i h = get_or-append_right (s.words v.first) (t.words v.second) s.width i 0 (first_count v) h

  pub pair_words : WordLaws (pair_writing s t)
  pair_words =
      let h = first.width_from in
      let k = second.width_from in
      record {
        code_from = omega arith;
        code_to = omega arith;
        width_from = omega arith;
        width_to = omega arith;
        count = λ narrow v. omega (arith, pair_count narrow v);
        unique = λ narrow v w e.
            ap₂ pair
            (first.unique (first_narrow narrow) v.first w.first (pair_front narrow v _ e ∙ take_at _ _ s.width (first_count narrow w)))
            (second.unique (second_narrow narrow) v.second w.second (pair_back narrow v _ e ∙ drop_at _ _ s.width (first_count narrow w)));
        tagged = λ narrow v.
            All-append WeightWord (s.words v.first) (t.words v.second) (first.tagged (first_narrow narrow) v.first) (second.tagged (second_narrow narrow) v.second);
      }
