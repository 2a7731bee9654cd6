-- The machine reads the text of each tree, and so the tree of a text is one.
use Rattle.std.proofs.Common.{◌≡◌, ℕ, List, [], ◌∷◌, ◌++◌, Some, None, Option, sym, refl, ap, ◌∙◌}
use Rattle.recipe.specs.declared.place.Place.{Place}
use Rattle.picture.specs.declared.quadrant.Quadrant.TheVariants.{UpperLeft, UpperRight, LowerLeft, LowerRight}
use Rattle.recipe.specs.Places.{letter}
use Rattle.recipe.specs.Trees.{Cat, sum, product, part, closed, line, script, Prefix, turn, mirror, zoom, Tree, one, plus, single, times, name, prefixed, round, pieces, closes, row, blank, next, spelled, text}
use Rattle.recipe.specs.Devices.Machine.{Around, in_line, in_round, in_first, in_second, in_third, in_fourth, State, begin, named, want, done, dead, join, mul, wrap, closer, shut, delta, run}
use Rattle.recipe.proofs.Numbers.{each_place}

pub run_++ : (σ : State) (xs ys : List ℕ) → run σ (xs ++ ys) ≡ run (run σ xs) ys
run_++ σ [] ys = refl
run_++ σ (x ∷ xs) ys = run_++ (delta σ x) xs ys

pub run_dead : (xs : List ℕ) → run dead xs ≡ dead
run_dead [] = refl
run_dead (x ∷ xs) = run_dead xs

-- run over xs, then over ys
pub through : (σ : State) {τ υ : State} (xs ys : List ℕ) → run σ xs ≡ τ → run τ ys ≡ υ → run σ (xs ++ ys) ≡ υ
through σ {τ} {υ} xs ys p q = run_++ σ xs ys ∙ ap (λ v. run v ys) p ∙ q

pub delta_name : (k : Place) (o : List Prefix) (m : Option (Tree product)) (s : Option (Tree sum)) (c : Around) → delta (want o m s c) (letter k) ≡ done (mul m (wrap o (name k))) s c
delta_name k o m s c = each_place (λ k. delta (want o m s c) (letter k) ≡ done (mul m (wrap o (name k))) s c) refl refl refl refl refl refl refl refl k

pub delta_target : (k : Place) (s : Tree script) → delta (begin s) (letter k) ≡ named s k
delta_target k s = each_place (λ k. delta (begin s) (letter k) ≡ named s k) refl refl refl refl refl refl refl refl k

pub run_prefix : (x : Prefix) (o : List Prefix) (m : Option (Tree product)) (s : Option (Tree sum)) (c : Around) → run (want o m s c) (spelled x) ≡ want (x ∷ o) m s c
run_prefix turn o m s c = refl
run_prefix mirror o m s c = refl
run_prefix (zoom UpperLeft) o m s c = refl
run_prefix (zoom UpperRight) o m s c = refl
run_prefix (zoom LowerLeft) o m s c = refl
run_prefix (zoom LowerRight) o m s c = refl

pub delta_close : (c : Around) (p : Tree product) (s : Option (Tree sum)) → delta (done p s c) (closer c) ≡ shut c (join s p)
delta_close (in_line t k) p s = refl
delta_close (in_round o m t c) p s = refl
delta_close (in_first o m t c) p s = refl
delta_close (in_second x o m t c) p s = refl
delta_close (in_third x y o m t c) p s = refl
delta_close (in_fourth x y z o m t c) p s = refl

-- the last product of a sum, and what is before it
abbrev pub prod : Tree sum → Tree product
prod (one p) = p
prod (plus s p) = p

abbrev pub rest : Tree sum → Option (Tree sum)
rest (one p) = None
rest (plus s p) = Some s

pub join_rest : (t : Tree sum) → join (rest t) (prod t) ≡ t
join_rest (one p) = refl
join_rest (plus s p) = refl

abbrev pub inner : {b : ℕ} → Tree (closed b) → Tree sum
inner (closes b s) = s

pub closes_inner : {b : ℕ} (t : Tree (closed b)) → closes b (inner t) ≡ t
closes_inner (closes b s) = refl

abbrev pub Walks : (c : Cat) → Tree c → Type 0
Walks sum t = (c : Around) → run (want [] None None c) (text t) ≡ done (prod t) (rest t) c
Walks product t = (s : Option (Tree sum)) (c : Around) → run (want [] None s c) (text t) ≡ done t s c
Walks part t = (o : List Prefix) (m : Option (Tree product)) (s : Option (Tree sum)) (c : Around) → run (want o m s c) (text t) ≡ done (mul m (wrap o t)) s c
Walks (closed b) t = (c : Around) → closer c ≡ b → run (want [] None None c) (text t) ≡ shut c (inner t)
Walks line t = (s : Tree script) → run (begin s) (text t) ≡ begin (next s t)
Walks script t = run (begin blank) (text t) ≡ begin t

pub walk : {c : Cat} (t : Tree c) → Walks c t
walk (one p) = λ c. walk p None c
walk (plus s p) = λ c. through _ (text s) (43 ∷ text p) (walk s c) (walk p (Some (join (rest s) (prod s))) c ∙ ap (λ v. done p (Some v) c) (join_rest s))
walk (single p) = λ s c. walk p [] None s c
walk (times q p) = λ s c. through _ (text q) (42 ∷ text p) (walk q s c) (walk p [] (Some q) s c)
walk (name k) = λ o m s c. delta_name k o m s c
walk (prefixed x p) = λ o m s c. through _ (spelled x) (text p) (run_prefix x o m s c) (walk p (x ∷ o) m s c)
walk (round t) = λ o m s c. walk t (in_round o m s c) refl ∙ ap (λ v. done (mul m (wrap o (round v))) s c) (closes_inner t)
walk (pieces x y z u) = λ o m s c.
    through _ (text x) (text y ++ (text z ++ text u)) (walk x (in_first o m s c) refl)
    (through _ (text y) (text z ++ text u) (walk y (in_second _ o m s c) refl)
    (through _ (text z) (text u) (walk z (in_third _ _ o m s c) refl)
    (walk u (in_fourth _ _ _ o m s c) refl)))
    ∙ (λ i. done (mul m (wrap o (pieces (closes_inner x i) (closes_inner y i) (closes_inner z i) (closes_inner u i)))) s c)
walk (closes b t) = λ c e. through _ (text t) (b ∷ []) (walk t c) (ap (λ v. delta (done (prod t) (rest t) c) v) (sym e) ∙ delta_close c _ _ ∙ ap (shut c) (join_rest t))
walk (row k t) = λ s. ap (λ v. run v (61 ∷ text t)) (delta_target k s) ∙ walk t (in_line s k) refl ∙ ap (λ v. begin (next s (row k v))) (closes_inner t)
walk blank = refl
walk (next s r) = through _ (text s) (text r) (walk s) (walk r s)

-- the tree of a text is one
pub unique : (t u : Tree script) → text t ≡ text u → t ≡ u
unique t u e = let p : begin t ≡ begin u = sym (walk t) ∙ ap (run (begin blank)) e ∙ walk u in cc

dead_begin : (t : Tree script) → dead ≡ begin t → ⊥
dead_begin t e = cc

-- no script begins with codes that stop the machine
pub none_begins : (xs : List ℕ) (b : ℕ) (ys : List ℕ) → delta (run (begin blank) xs) b ≡ dead → (t : Tree script) → text t ≡ xs ++ b ∷ ys → ⊥
none_begins xs b ys d t e =
    dead_begin t (sym (run_++ (begin blank) xs (b ∷ ys) ∙ ap (λ v. run v ys) d ∙ run_dead ys) ∙ ap (run (begin blank)) (sym e) ∙ walk t)
