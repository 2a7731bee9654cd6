-- Equally long parts, one after the other.
use Rattle.std.proofs.Common.{◌≡◌, ℕ, zero, suc, ◌+◌, ◌-◌, ◌*◌, ◌<◌, ◌≤◌, List, [], ◌++◌, length, take, drop, sym, refl, ap, ◌∙◌, ap₂, append_assoc, append-nil, add-zero, add_assoc, suc-mul, zero-add, zero-mul, add-one, arith, length-append}
use Rattle.std.specs.List.{range_with_len, flat_map}
use Rattle.std.proofs.lemmas.Grind.{flat_map-append}
use Rattle.std.proofs.lemmas.List.Edits.{length-between}
use Rattle.std.proofs.lemmas.List.{take_at, drop_at}
use Rattle.picture.proofs.States.{counting_append}
use Rattle.tile.specs.Bands.{slot}

module _ {W : Type 0} where
  joined_from : (f g : ℕ → List W) (a n : ℕ) → ((i : ℕ) → a ≤ i → i < a + n → f i ≡ g i) → flat_map f (range_with_len a n) ≡ flat_map g (range_with_len a n)
  joined_from f g a zero e = refl
  joined_from f g a (suc n) e = ap₂ ◌++◌ (e a (omega arith) (omega arith)) (joined_from f g (a + 1) n (λ i h l. e i (omega arith) (omega arith)))

  pub joined_below : (f g : ℕ → List W) (n : ℕ) → ((i : ℕ) → i < n → f i ≡ g i) → flat_map f (range_with_len 0 n) ≡ flat_map g (range_with_len 0 n)
  joined_below f g n e = joined_from f g 0 n (λ i h l. e i (omega arith))

  joined_shift : (f : ℕ → List W) (a b n : ℕ) → flat_map f (range_with_len (a + b) n) ≡ flat_map (λ i. f (a + i)) (range_with_len b n)
  joined_shift f a b zero = refl
  joined_shift f a b (suc n) = ap (λ zs. f (a + b) ++ zs) (ap (λ z. flat_map f (range_with_len z n)) (add_assoc a b 1) ∙ joined_shift f a (b + 1) n)

  pub joined_add : (f : ℕ → List W) (m n : ℕ) → flat_map f (range_with_len 0 (m + n)) ≡ flat_map f (range_with_len 0 m) ++ flat_map (λ i. f (m + i)) (range_with_len 0 n)
  joined_add f m n =
      ap (flat_map f) (counting_append 0 m n)
      ∙ flat_map-append f (range_with_len 0 m) (range_with_len (0 + m) n)
      ∙ ap (λ zs. flat_map f (range_with_len 0 m) ++ zs) (ap (λ z. flat_map f (range_with_len z n)) (zero-add m ∙ sym (add-zero m)) ∙ joined_shift f m 0 n)

  length_from : (f : ℕ → List W) (s a n : ℕ) → ((i : ℕ) → a ≤ i → i < a + n → length (f i) ≡ s) → length (flat_map f (range_with_len a n)) ≡ n * s
  length_from f s a zero e = sym (zero-mul s)
  length_from f s a (suc n) e =
      length-append (f a) _ ∙ omega (arith, e a (omega arith) (omega arith), length_from f s (a + 1) n (λ i h l. e i (omega arith) (omega arith)), suc-mul n s)

  pub length_joined : (f : ℕ → List W) (s n : ℕ) → ((i : ℕ) → i < n → length (f i) ≡ s) → length (flat_map f (range_with_len 0 n)) ≡ n * s
  length_joined f s n e = length_from f s 0 n (λ i h l. e i (omega arith))

  -- the i-th part is what was put there
  pub slot_joined : (f : ℕ → List W) (s n i : ℕ) → ((i : ℕ) → i < n → length (f i) ≡ s) → i < n → slot s i (flat_map f (range_with_len 0 n)) ≡ f i
  slot_joined f s n i e h =
      let rest = flat_map (λ j. f (i + 1 + j)) (range_with_len 0 (n - (i + 1))) in
      let before = flat_map f (range_with_len 0 i) in
      let split : flat_map f (range_with_len 0 n) ≡ before ++ (f i ++ rest) =
      ap (λ z. flat_map f (range_with_len 0 z)) (omega arith) ∙ joined_add f (i + 1) (n - (i + 1))
      ∙ ap (λ zs. zs ++ rest) (joined_add f i 1 ∙ ap (λ zs. before ++ zs) (ap (λ z. f z ++ []) (add-zero i) ∙ append-nil (f i)))
      ∙ append_assoc before (f i) rest in
      let long : length before ≡ i * s = length_joined f s i (λ j l. e j (omega arith)) in
      ap₂ (λ z xs. take z (drop (i * s) xs)) (omega arith) split
      ∙ ap (take s) (drop_at before (f i ++ rest) (i * s) long) ∙ take_at (f i) rest s (e i h)

  -- parts of parts
  pub joined_product : (f : ℕ → List W) (s n : ℕ) → flat_map (λ a. flat_map (λ b. f (a * s + b)) (range_with_len 0 s)) (range_with_len 0 n) ≡ flat_map f (range_with_len 0 (n * s))
  joined_product f s zero = ap (λ z. flat_map f (range_with_len 0 z)) (sym (zero-mul s))
  joined_product f s (suc n) =
      ap (λ z. flat_map (λ a. flat_map (λ b. f (a * s + b)) (range_with_len 0 s)) (range_with_len 0 z)) (sym (add-one n))
      ∙ joined_add (λ a. flat_map (λ b. f (a * s + b)) (range_with_len 0 s)) n 1
      ∙ ap₂ ◌++◌ (joined_product f s n) (append-nil _ ∙ ap (λ z. flat_map (λ b. f (z * s + b)) (range_with_len 0 s)) (add-zero n))
      ∙ sym (joined_add f (n * s) s)
      ∙ ap (λ z. flat_map f (range_with_len 0 z)) (sym (suc-mul n s))

  pub length_slot : (n i : ℕ) (xs : List W) → i * n + n ≤ length xs → length (slot n i xs) ≡ n
  length_slot n i xs h = length-between xs (i * n) (i * n + n) h ∙ omega arith
