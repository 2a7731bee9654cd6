-- Arcs beside their weights.
use Rattle.std.proofs.Common.{◌≡◌, List, [], ◌∷◌, ◌++◌, map, length, refl, ap, arith}
use Rattle.std.specs.List.{zip}

pub zipped_append : {A B : Type 0} (xs us : List A) (ys vs : List B) → length xs ≡ length ys → zip (xs ++ us) (ys ++ vs) ≡ zip xs ys ++ zip us vs
zipped_append [] us [] vs l = refl
zipped_append [] us (y ∷ ys) vs l = absurd (omega arith)
zipped_append (x ∷ xs) us [] vs l = absurd (omega arith)
zipped_append (x ∷ xs) us (y ∷ ys) vs l = ap (λ zs. (x, y) ∷ zs) (zipped_append xs us ys vs (omega arith))

pub zipped_map : {A B C : Type 0} (f : A → C) (xs : List A) (ys : List B) → zip (map f xs) ys ≡ map (λ (e : A × B). (f e.0, e.1)) (zip xs ys)
zipped_map f [] ys = refl
zipped_map f (x ∷ xs) [] = refl
zipped_map f (x ∷ xs) (y ∷ ys) = ap (λ zs. (f x, y) ∷ zs) (zipped_map f xs ys)
