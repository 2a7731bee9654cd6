-- Two lists side by side, one pair after the other.
use Rattle.std.proofs.Common.{◌≡◌, ℕ, ◌+◌, ◌<◌, ◌≤◌, List, [], ◌∷◌, ◌++◌, length, get_or, take, set, sym, refl, ap, ◌∙◌, ap₂, arith}
use Rattle.std.specs.List.{zip, flat_map}
use Rattle.std.proofs.lemmas.List.{flat_map_more, length-take-le, take_all, take_more, take_more_set}

zipped_push : {A B : Type 0} (xs : List A) (ys : List B) (x : A) (y : B) → length xs ≡ length ys → zip (xs ++ (x ∷ [])) (ys ++ (y ∷ [])) ≡ zip xs ys ++ ((x, y) ∷ [])
zipped_push [] [] x y l = refl
zipped_push [] (b ∷ ys) x y l = absurd (omega arith)
zipped_push (a ∷ xs) [] x y l = absurd (omega arith)
zipped_push (a ∷ xs) (b ∷ ys) x y l = ap (λ zs. (a, b) ∷ zs) (zipped_push xs ys x y (omega arith))

-- the words of the first k pairs
module _ {A B : Type 0} (f : A × B → List ℕ) where
  abbrev pub so_far : ℕ → List A → List B → List ℕ
  so_far k xs ys = flat_map f (zip (take k xs) (take k ys))

  -- one pair more
  pushed : (k : ℕ) (xs : List A) (ys : List B) (x : A) (y : B) → k ≤ length xs → k ≤ length ys → flat_map f (zip (take k xs ++ (x ∷ [])) (take k ys ++ (y ∷ []))) ≡ so_far k xs ys ++ f (x, y)
  pushed k xs ys x y h l =
      ap (flat_map f) (zipped_push (take k xs) (take k ys) x y (length-take-le k xs h ∙ sym (length-take-le k ys l)))
      ∙ sym (flat_map_more f [] (zip (take k xs) (take k ys)) (x, y))

  -- as it is read
  pub pair_read : (k : ℕ) (xs : List A) (ys : List B) (x : A) (y : B) → k < length xs → k < length ys → x ≡ get_or xs k x → y ≡ get_or ys k y → so_far (k + 1) xs ys ≡ so_far k xs ys ++ f (x, y)
  pair_read k xs ys x y h l ex ey =
      ap₂ (λ us vs. flat_map f (zip us vs)) (take_more xs k x h ∙ ap (λ z. take k xs ++ (z ∷ [])) (sym ex)) (take_more ys k y l ∙ ap (λ z. take k ys ++ (z ∷ [])) (sym ey))
      ∙ pushed k xs ys x y (omega arith) (omega arith)

  -- as it is stored
  pub pair_stored : (k : ℕ) (xs : List A) (ys : List B) (x : A) (y : B) → k < length xs → k < length ys → so_far (k + 1) (set xs k x) (set ys k y) ≡ so_far k xs ys ++ f (x, y)
  pair_stored k xs ys x y h l =
      ap₂ (λ us vs. flat_map f (zip us vs)) (take_more_set xs k x h) (take_more_set ys k y l) ∙ pushed k xs ys x y (omega arith) (omega arith)

  -- all pairs
  pub all_pairs : (k : ℕ) (xs : List A) (ys : List B) → length xs ≤ k → length ys ≤ k → so_far k xs ys ≡ flat_map f (zip xs ys)
  all_pairs k xs ys h l = ap₂ (λ us vs. flat_map f (zip us vs)) (take_all k xs h) (take_all k ys l)
