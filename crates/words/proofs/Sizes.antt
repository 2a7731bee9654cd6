-- How many words states, arcs and bodies have.
use Rattle.std.proofs.Common.{◌≡◌, ℕ, suc, ◌+◌, ◌*◌, ◌<◌, ◌≤◌, List, [], ◌∷◌, ◌++◌, length, take, sym, ap, ◌∙◌, ap₂, mul-le-mul_right, suc-mul, zero-mul, arith}
use Rattle.std.specs.List.{zip, flat_map}
use Rattle.std.proofs.lemmas.List.{length-append, length-take-le}
use Rattle.std.proofs.lemmas.Slice.Zip.{length-zip}
use Rattle.weight.specs.Words.{Writing}
use Rattle.picture.specs.Bodies.{Body, Edge}
use Rattle.words.specs.Format.{state_words, edge_words, size, Limited}
use Rattle.words.proofs.Zipping.{so_far}

-- things of x words each
module _ {X : Type 0} (f : X → List ℕ) (x : ℕ) (each : (z : X) → length (f z) ≡ x) where
  size_all : (zs : List X) → length (flat_map f zs) ≡ length zs * x
  size_all [] = sym (zero-mul x)
  size_all (z ∷ zs) = omega (arith, length-append (f z) (flat_map f zs), each z, size_all zs, suc-mul (length zs) x)

module _ {A B : Type 0} (f : A × B → List ℕ) (x : ℕ) (each : (z : A × B) → length (f z) ≡ x) where
  -- behind the first k pairs there is room for one more
  pub one_fits : (k : ℕ) (xs : List A) (ys : List B) (start at room : ℕ) → k < length xs → k < length ys → start + length xs * x ≤ room → at ≡ start + length (so_far f k xs ys) → at + x ≤ room
  one_fits k xs ys start at room h l fits e =
      let below : suc k * x ≤ length xs * x = mul-le-mul_right x h in
      let both : length (zip (take k xs) (take k ys)) ≡ k =
      length-zip (take k xs) (take k ys) ∙ omega (arith, length-take-le k xs (omega arith), length-take-le k ys (omega arith)) in
      omega (arith, below, suc-mul k x, size_all f x each (zip (take k xs) (take k ys)), ap (λ n. n * x) both)

pub length_states : {W : Type 0} (b : Body W) → Limited b → length (zip b.first b.last) ≡ b.states
length_states b h = length-zip b.first b.last ∙ omega (arith, h.sound.firsts, h.sound.lasts)

module _ {W : Type 0} (s : Writing W) (count : (v : W) → length (s.words v) ≡ s.width) where
  pub state_size : (z : W × W) → length (state_words s z) ≡ 2 * s.width
  state_size z = omega (arith, length-append (s.words z.0) (s.words z.1), count z.0, count z.1)

  pub edge_size : (e : Edge W) → length (edge_words s e) ≡ 1 + s.width
  edge_size e = omega (arith, count e.1)

  -- the words of a body's states
  pub size_states : (b : Body W) → Limited b → (xs ys : List W) → xs ≡ b.first → ys ≡ b.last → length (flat_map (state_words s) (zip xs ys)) ≡ b.states * (2 * s.width)
  size_states b h xs ys ex ey = size_all (state_words s) (2 * s.width) state_size (zip xs ys) ∙ ap (λ n. n * (2 * s.width)) (ap₂ (λ us vs. length (zip us vs)) ex ey ∙ length_states b h)

  -- the words of a body behind its head
  pub size_body : (zs : List (W × W)) (es : List (Edge W)) (n m : ℕ) → length zs ≡ n → length es ≡ m → length (flat_map (state_words s) zs ++ flat_map (edge_words s) es) ≡ size s n m
  size_body zs es n m l k =
      length-append (flat_map (state_words s) zs) (flat_map (edge_words s) es)
      ∙ ap₂ ◌+◌ (size_all (state_words s) (2 * s.width) state_size zs ∙ ap (λ x. x * (2 * s.width)) l) (size_all (edge_words s) (1 + s.width) edge_size es ∙ ap (λ x. x * (1 + s.width)) k)
