-- Products of each of a list with each of another, by row and column.
use Rattle.std.proofs.Common.{◌≡◌, ℕ, ◌*◌, ◌/◌, ◌%◌, ◌<◌, ◌≤◌, true, List, [], ◌∷◌, length, get_or, sym, ap, ◌∙◌, inl, inr, mul-zero, arith}
use Rattle.std.specs.List.{AllByRecursion}
use Rattle.std.proofs.lemmas.Nat.{div_below, mod_below, div-add-mod', mul-add-lt}
use Rattle.std.proofs.ByRecursion.{All-weaker}
use Rattle.std.proofs.lemmas.List.{ext_get_or}
use Rattle.std.proofs.lemmas.Bool.{cases_lt, cond-true}
use Rattle.weight.specs.Kinds.{Kind}
use Rattle.picture.specs.Bodies.{Edge, Within}
use Rattle.picture.specs.BodyOperations.{paired, arc_pair}
use Rattle.picture.specs.Quadrants.{same}
use Rattle.picture.proofs.Embeddings.{Ends}
use Rattle.picture.proofs.StateSums.{length_paired, get_or_paired}
use Rattle.product.specs.Ends.{pair_ends}

positive : (a b i : ℕ) → i < a * b → 0 < b
positive a b i h = elim (cases_lt 0 b) [ inl p ↦ p | inr z ↦ let e : a * b ≡ 0 = ap (λ x. a * x) (omega arith) ∙ mul-zero a in absurd (omega arith) ]

pub row_below : (a b i n : ℕ) → n ≡ a * b → i < n → i / b < a
row_below a b i n e h = div_below i b a (positive a b i (omega arith)) (omega arith)

pub column_below : (a b i n : ℕ) → n ≡ a * b → i < n → i % b < b
column_below a b i n e h = mod_below i b (positive a b i (omega arith))

pub paired_is : {W : Type 0} (f : W → W → W) (xs ys out : List W) (d : W) → length out ≡ length xs * length ys
    → ((i : ℕ) → i < length out → get_or out i d ≡ f (get_or xs (i / length ys) d) (get_or ys (i % length ys) d)) → out ≡ paired f xs ys
paired_is f xs ys out d l h =
    ext_get_or d out (paired f xs ys) (l ∙ sym (length_paired f xs ys))
    (λ i b. h i b
    ∙ sym (get_or_paired f xs ys (i / length ys) (i % length ys) d d d (row_below (length xs) (length ys) i (length out) l b) (column_below (length xs) (length ys) i (length out) l b))
    ∙ ap (λ j. get_or (paired f xs ys) j d) (div-add-mod' i (length ys)))

-- two arcs with one digit
pub pair_is : {W : Type 0} (k : Kind W) (n : ℕ) (e f : Edge W) (y : W) → same e.0.quadrant f.0.quadrant ≡ true → y ≡ k.times e.1 f.1
    → arc_pair k n e f ≡ (pair_ends n e.0 f.0, y) ∷ []
pair_is k n e f y t h = cond-true (same e.0.quadrant f.0.quadrant) _ _ t ∙ ap (λ x. (pair_ends n e.0 f.0, x) ∷ []) (sym h)

-- the ends of pairs of arcs between few states fit a byte
pub small_ends : {W : Type 0} (m n : ℕ) (xs ys : List (Edge W)) → AllByRecursion (Ends m) xs → AllByRecursion (Ends n) ys → m * n ≤ 64
    → AllByRecursion (λ e. AllByRecursion (λ f. Within 256 (pair_ends n e.0 f.0)) ys) xs
small_ends m n xs ys hx hy l =
    All-weaker (Ends m) _ (λ e x. All-weaker (Ends n) _ (λ f y.
    (omega (arith, mul-add-lt e.0.from n f.0.from m x.0 y.0), omega (arith, mul-add-lt e.0.to n f.0.to m x.1 y.1))) ys hy) xs hx
