-- The levels and the waiting pictures of a text's codes follow from the text.
use Rattle.std.proofs.Common.{◌≡◌, ℕ, zero, suc, ◌+◌, ◌⊎◌, List, [], ◌∷◌, ◌++◌, length, get_or, take, Some, None, Option, sym, refl, ap, ◌∙◌, subst, inl, inr, arith}
use Rattle.std.proofs.lemmas.List.{take_at}
use Rattle.recipe.specs.declared.place.Place.{Place}
use Rattle.recipe.specs.Places.{letter}
use Rattle.recipe.specs.Trees.{Cat, sum, product, part, closed, line, script, Prefix, turn, mirror, zoom, Tree, one, plus, single, times, name, prefixed, round, pieces, closes, row, blank, next, spelled, text}
use Rattle.recipe.specs.Limits.{Byte, plain, opens, waits, ahead, counted}
use Rattle.recipe.specs.Devices.Machine.{name_of, whether, Around, in_line, in_round, in_first, in_second, in_third, in_fourth, State, begin, named, want, zooming, done, dead, join, delta, run}
use Rattle.recipe.proofs.Walks.{run_prefix, delta_target, walk, prod, rest}
use Rattle.recipe.proofs.Numbers.{each_place}

abbrev has : {X : Type 0} → Option X → ℕ
has None = 0
has (Some x) = 1

abbrev depth : Around → ℕ
depth (in_line s k) = 0
depth (in_round o m s c) = depth c + length o + 1
depth (in_first o m s c) = depth c + length o + 1
depth (in_second x o m s c) = depth c + length o + 1
depth (in_third x y o m s c) = depth c + length o + 1
depth (in_fourth x y z o m s c) = depth c + length o + 1

abbrev base : Around → ℕ
base (in_line s k) = 0
base (in_round o m s c) = base c + has s + has m
base (in_first o m s c) = base c + has s + has m
base (in_second x o m s c) = base c + has s + has m + 1
base (in_third x y o m s c) = base c + has s + has m + 2
base (in_fourth x y z o m s c) = base c + has s + has m + 3

abbrev tag : State → ℕ → Byte
tag (begin s) b = plain b
tag (named s k) b = plain b
tag (want o m s c) b = whether (name_of b) (λ k. waits b (base c + has s + has m + 1)) (opens b (depth c + length o + 1))
tag (zooming o m s c) b = plain b
tag (done p s c) b = plain b
tag dead b = plain b

abbrev pub tags : State → List ℕ → List Byte
tags σ [] = []
tags σ (b ∷ bs) = tag σ b ∷ tags (delta σ b) bs

tags_++ : (σ : State) (xs ys : List ℕ) → tags σ (xs ++ ys) ≡ tags σ xs ++ tags (run σ xs) ys
tags_++ σ [] ys = refl
tags_++ σ (x ∷ xs) ys = ap (λ v. tag σ x ∷ v) (tags_++ (delta σ x) xs ys)

length_tags : (σ : State) (xs : List ℕ) → length (tags σ xs) ≡ length xs
length_tags σ [] = refl
length_tags σ (x ∷ xs) = ap suc (length_tags (delta σ x) xs)

after : (σ : State) {τ : State} (xs ys : List ℕ) {ms ns : List Byte} → run σ xs ≡ τ → tags σ xs ≡ ms → tags τ ys ≡ ns → tags σ (xs ++ ys) ≡ ms ++ ns
after σ {τ} xs ys {ms} {ns} p q r = tags_++ σ xs ys ∙ (λ i. q i ++ tags (p i) ys) ∙ ap (λ v. ms ++ v) r

tag_name : (k : Place) (o : List Prefix) (m : Option (Tree product)) (s : Option (Tree sum)) (c : Around) → tag (want o m s c) (letter k) ≡ waits (letter k) (base c + has s + has m + 1)
tag_name k o m s c = each_place (λ k. tag (want o m s c) (letter k) ≡ waits (letter k) (base c + has s + has m + 1)) refl refl refl refl refl refl refl refl k

tags_prefix : (x : Prefix) (o : List Prefix) (m : Option (Tree product)) (s : Option (Tree sum)) (c : Around) → tags (want o m s c) (spelled x) ≡ ahead x (depth c + length o + 1)
tags_prefix turn o m s c = refl
tags_prefix mirror o m s c = refl
tags_prefix (zoom d) o m s c = refl

abbrev Tags : (c : Cat) → Tree c → Type 0
Tags sum t = (c : Around) (l w : ℕ) → l ≡ depth c → w ≡ base c → tags (want [] None None c) (text t) ≡ counted t l w
Tags product t = (s : Option (Tree sum)) (c : Around) (l w : ℕ) → l ≡ depth c → w ≡ base c + has s → tags (want [] None s c) (text t) ≡ counted t l w
Tags part t = (o : List Prefix) (m : Option (Tree product)) (s : Option (Tree sum)) (c : Around) (l w : ℕ) → l ≡ depth c + length o → w ≡ base c + has s + has m → tags (want o m s c) (text t) ≡ counted t l w
Tags (closed b) t = (c : Around) (l w : ℕ) → l ≡ depth c → w ≡ base c → tags (want [] None None c) (text t) ≡ counted t l w
Tags line t = (s : Tree script) → tags (begin s) (text t) ≡ counted t 0 0
Tags script t = tags (begin blank) (text t) ≡ counted t 0 0

pub tagged : {c : Cat} (t : Tree c) → Tags c t
tagged (one p) = λ c l w el ew. tagged p None c l w el (omega arith)
tagged (plus s p) = λ c l w el ew. after _ (text s) (43 ∷ text p) (walk s c) (tagged s c l w el ew) (ap (λ v. plain 43 ∷ v) (tagged p (Some (join (rest s) (prod s))) c l (w + 1) el (omega arith)))
tagged (single p) = λ s c l w el ew. tagged p [] None s c l w (omega arith) (omega arith)
tagged (times q p) = λ s c l w el ew. after _ (text q) (42 ∷ text p) (walk q s c) (tagged q s c l w el ew) (ap (λ v. plain 42 ∷ v) (tagged p [] (Some q) s c l (w + 1) (omega arith) (omega arith)))
tagged (name k) = λ o m s c l w el ew. ap (λ v. v ∷ []) (tag_name k o m s c) ∙ ap (λ v. waits (letter k) (v + 1) ∷ []) (sym ew)
tagged (prefixed x p) = λ o m s c l w el ew. after _ (spelled x) (text p) (run_prefix x o m s c) (tags_prefix x o m s c ∙ ap (λ v. ahead x (v + 1)) (sym el)) (tagged p (x ∷ o) m s c (l + 1) w (omega arith) ew)
tagged (round t) = λ o m s c l w el ew. (λ i. opens 40 (sym el i + 1) ∷ tagged t (in_round o m s c) (l + 1) w (omega arith) ew i)
tagged (pieces x y z u) = λ o m s c l w el ew.
    (λ i. opens 91 (sym el i + 1) ∷
    after (want [] None None (in_first o m s c)) (text x) (text y ++ (text z ++ text u)) (walk x (in_first o m s c) refl) (tagged x (in_first o m s c) (l + 1) w (omega arith) ew)
    (after _ (text y) (text z ++ text u) (walk y (in_second _ o m s c) refl) (tagged y (in_second _ o m s c) (l + 1) (w + 1) (omega arith) (omega arith))
    (after _ (text z) (text u) (walk z (in_third _ _ o m s c) refl) (tagged z (in_third _ _ o m s c) (l + 1) (w + 2) (omega arith) (omega arith))
    (tagged u (in_fourth _ _ _ o m s c) (l + 1) (w + 3) (omega arith) (omega arith)))) i)
tagged (closes b t) = λ c l w el ew. after _ (text t) (b ∷ []) (walk t c) (tagged t c l w el ew) refl
tagged (row k t) = λ s. ap (λ v. plain (letter k) ∷ tags v (61 ∷ text t)) (delta_target k s) ∙ ap (λ v. plain (letter k) ∷ plain 61 ∷ v) (tagged t (in_line s k) 0 0 refl refl)
tagged blank = refl
tagged (next s r) = after _ (text s) (text r) (walk s) (tagged s) (tagged r s)

-- the first codes of a script settle what is marked at them
pub settled : (t : Tree script) (xs ys : List ℕ) (n : ℕ) → length xs ≡ n → text t ≡ xs ++ ys → take n (counted t 0 0) ≡ tags (begin blank) xs
settled t xs ys n e p =
    ap (take n) (sym (tagged t) ∙ ap (tags (begin blank)) p ∙ tags_++ (begin blank) xs ys) ∙ take_at (tags (begin blank) xs) _ n (length_tags (begin blank) xs ∙ e)

-- no byte both starts a part that has a level and is a name
one_of : (v : Option Place) (b n l : ℕ) → ((whether v (λ k. waits b n) (opens b l)).level ≡ 0) ⊎ ((whether v (λ k. waits b n) (opens b l)).waiting ≡ 0)
one_of (Some k) b n l = inl refl
one_of None b n l = inr refl

tag_one : (σ : State) (b : ℕ) → ((tag σ b).level ≡ 0) ⊎ ((tag σ b).waiting ≡ 0)
tag_one (begin s) b = inl refl
tag_one (named s k) b = inl refl
tag_one (want o m s c) b = one_of (name_of b) b _ _
tag_one (zooming o m s c) b = inl refl
tag_one (done p s c) b = inl refl
tag_one dead b = inl refl

tags_one : (σ : State) (xs : List ℕ) (i : ℕ) → ((get_or (tags σ xs) i (plain 0)).level ≡ 0) ⊎ ((get_or (tags σ xs) i (plain 0)).waiting ≡ 0)
tags_one σ [] i = inl refl
tags_one σ (x ∷ xs) zero = tag_one σ x
tags_one σ (x ∷ xs) (suc i) = tags_one (delta σ x) xs i

pub counted_one : (t : Tree script) (i : ℕ) → ((get_or (counted t 0 0) i (plain 0)).level ≡ 0) ⊎ ((get_or (counted t 0 0) i (plain 0)).waiting ≡ 0)
counted_one t i = subst (λ v. ((get_or v i (plain 0)).level ≡ 0) ⊎ ((get_or v i (plain 0)).waiting ≡ 0)) (tagged t) (tags_one (begin blank) (text t) i)
