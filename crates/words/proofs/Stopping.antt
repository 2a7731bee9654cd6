-- Where reading stops: what a reader took comes before the first wrong piece.
use Rattle.std.proofs.Common.{◌≡◌, ℕ, zero, suc, ◌+◌, ◌-◌, ◌<◌, List, [], ◌∷◌, ◌++◌, length, sym, ap, ◌∙◌, subst, inl, inr, arith}
use Rattle.std.proofs.lemmas.List.{append_assoc}
use Rattle.weight.specs.Words.{Writing}
use Rattle.weight.specs.declared.kind.Weight.{Ghosts as Weight}
use Rattle.weight.specs.declared.written.Written.{Ghosts as Written}
use Rattle.picture.specs.Bodies.{Within}
use Rattle.picture.specs.declared.body.Arc.{Arc}
use Rattle.words.specs.Format.{arc_word}
use Rattle.words.specs.Inner.{Took, Passed}
use Rattle.words.specs.Wrong.{Piece, a_weight, an_arc, state_pieces, arc_pieces, arc_fault, weight_fault, NoWeight, NoArc, FirstWrong}
use Rattle.words.specs.declared.fault.ArcFault.{ArcFault}
use Rattle.words.specs.declared.fault.WeightFault.{WeightFault}
use Rattle.words.specs.declared.fault.PieceFault.{PieceFault}
use Rattle.words.specs.declared.fault.PieceFault.TheVariants.{WrongArc, WrongWeight}
use Rattle.words.specs.declared.reader.Reader.{Reader}

-- the pieces of states, or of arcs: those of q, then those of r
pub states_split : (q r : ℕ) → state_pieces (q + r) ≡ state_pieces q ++ state_pieces r
states_split zero r = let e : zero + r ≡ r = omega arith in ap state_pieces e
states_split (suc q) r = let e : suc q + r ≡ suc (q + r) = omega arith in ap state_pieces e ∙ ap (λ ps. a_weight ∷ a_weight ∷ ps) (states_split q r)

pub arcs_split : (q r : ℕ) → arc_pieces (q + r) ≡ arc_pieces q ++ arc_pieces r
arcs_split zero r = let e : zero + r ≡ r = omega arith in ap arc_pieces e
arcs_split (suc q) r = let e : suc q + r ≡ suc (q + r) = omega arith in ap arc_pieces e ∙ ap (λ ps. an_arc ∷ a_weight ∷ ps) (arcs_split q r)

module _ {W : Type 0} (s : Writing W) (n : ℕ) where
  pub passed_both : {w : Written W} {base : Weight W} {a b d : Reader W w base} {xs ys : List Piece} → Passed s n xs a b → Passed s n ys b d → Passed s n (xs ++ ys) a d
  passed_both {a = a} {b = b} {d = d} {xs = xs} {ys = ys} p q = record {
    first = λ due f h. subst (λ ds. FirstWrong s n ds a.rest.now a.position f) (sym (append_assoc xs ys due)) (p.first (ys ++ due) f (q.first due f h));
  }

  pub passed_as : {w : Written W} {base : Weight W} {a b : Reader W w base} {xs ys : List Piece} → xs ≡ ys → Passed s n xs a b → Passed s n ys a b
  passed_as {a = a} {b = b} e p = subst (λ ps. Passed s n ps a b) e p

  pub passed_arc : {w : Written W} {base : Weight W} {a b : Reader W w base} (x : Arc) → Within n x × Took (arc_word x ∷ []) a b → Passed s n (an_arc ∷ []) a b
  passed_arc {a = a} {b = b} x p = record { first = λ due f h. inr (x, b.rest.now, p.0, p.1.splits, subst (λ i. FirstWrong s n due b.rest.now i f) p.1.on h) }

  pub passed_weight : {w : Written W} {base : Weight W} {a b : Reader W w base} (v : W) → length (s.words v) ≡ s.width → Took (s.words v) a b → Passed s n (a_weight ∷ []) a b
  passed_weight {a = a} {b = b} v count p = record {
    first = λ due f h. inr (v, b.rest.now, p.splits, subst (λ i. FirstWrong s n due b.rest.now i f) (p.on ∙ ap (λ x. a.position + x) count) h);
  }

  -- behind right pieces
  pub stop : {w : Written W} {base : Weight W} {a b : Reader W w base} {done : List Piece} (due all : List Piece) (f : PieceFault) → all ≡ done ++ due → Passed s n done a b → FirstWrong s n due b.rest.now b.position f → FirstWrong s n all a.rest.now a.position f
  stop {a = a} due all f e p h = subst (λ ps. FirstWrong s n ps a.rest.now a.position f) (sym e) (p.first due f h)

  pub stop_weight : (due : List Piece) (given : List ℕ) (i : ℕ) (f : WeightFault) → (f.word.index ≡ i) × NoWeight s given → FirstWrong s n (a_weight ∷ due) given i (WrongWeight f)
  stop_weight due given i f h = inl (ap weight_fault h.0, h.1)

  pub stop_arc : (due : List Piece) (given : List ℕ) (i : ℕ) (f : ArcFault) → (f.word.index ≡ i) × NoArc n given → FirstWrong s n (an_arc ∷ due) given i (WrongArc f)
  stop_arc due given i f h = inl (ap arc_fault h.0, h.1)

  -- before more pieces
  stop_before : (due more : List Piece) (given : List ℕ) (i : ℕ) (f : PieceFault) → FirstWrong s n due given i f → FirstWrong s n (due ++ more) given i f
  stop_before [] more given i f h = absurd h
  stop_before (a_weight ∷ due) more given i f (inl h) = inl h
  stop_before (a_weight ∷ due) more given i f (inr h) = inr (h.0, h.1, h.2, stop_before due more h.1 (i + s.width) f h.3)
  stop_before (an_arc ∷ due) more given i f (inl h) = inl h
  stop_before (an_arc ∷ due) more given i f (inr h) = inr (h.0, h.1, h.2, h.3, stop_before due more h.1 (i + 1) f h.4)

-- of n states, or m arcs, those behind the first q
pub states_due : (q n : ℕ) → q < n → state_pieces n ≡ state_pieces q ++ (a_weight ∷ a_weight ∷ state_pieces (n - suc q))
states_due q n h = let e : n ≡ q + suc (n - suc q) = omega arith in ap state_pieces e ∙ states_split q (suc (n - suc q))

pub arcs_due : (q m : ℕ) → q < m → arc_pieces m ≡ arc_pieces q ++ (an_arc ∷ a_weight ∷ arc_pieces (m - suc q))
arcs_due q m h = let e : m ≡ q + suc (m - suc q) = omega arith in ap arc_pieces e ∙ arcs_split q (suc (m - suc q))

-- among states, before more pieces
pub stop_states : {W : Type 0} (s : Writing W) (k n : ℕ) (more : List Piece) (given : List ℕ) (i : ℕ) (f : PieceFault) → k ≡ n → FirstWrong s k (state_pieces k) given i f → FirstWrong s n (state_pieces n ++ more) given i f
stop_states s k n more given i f e h = stop_before s n (state_pieces n) more given i f (subst (λ x. FirstWrong s x (state_pieces x) given i f) e h)
