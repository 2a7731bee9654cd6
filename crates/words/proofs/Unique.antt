-- Words have one reading.
use Rattle.std.proofs.Common.{◌≡◌, ℕ, ◌+◌, ◌<◌, ◌≤◌, List, [], ◌∷◌, ◌++◌, map, length, take, drop, sym, refl, ap, ◌∙◌, subst, ap₂, inl, inr, arith}
use Rattle.std.specs.List.{zip, flat_map, AllByRecursion}
use Rattle.std.proofs.lemmas.List.{append_assoc, take_at, drop_at}
use Rattle.std.proofs.lemmas.Slice.Zip.{firsts-zip, seconds-zip}
use Rattle.weight.specs.Words.{Writing, WordLaws}
use Rattle.picture.specs.Bodies.{Body, Edge, Within}
use Rattle.picture.specs.declared.body.Arc.{Arc}
use Rattle.words.specs.Format.{arc_word, state_words, edge_words, size, SpellsBody}
use Rattle.words.specs.Faults.{Headed, Refused}
use Rattle.words.specs.Laws.{OneBody, NoBody, OneFault}
use Rattle.words.specs.Wrong.{Piece, a_weight, an_arc, state_pieces, arc_pieces, FirstWrong}
use Rattle.words.specs.declared.fault.Fault.{Fault}
use Rattle.words.specs.declared.fault.Fault.TheVariants.{Width, Head, Count, Piece as Wrong}
use Rattle.words.specs.declared.fault.PieceFault.{PieceFault}
use Rattle.words.proofs.Bits.{arc_one, head_one}
use Rattle.words.proofs.Sizes.{size_body, length_states}

head_of : {A : Type 0} {x y : A} {xs ys : List A} → x ∷ xs ≡ y ∷ ys → x ≡ y
head_of e = cc

tail_of : {A : Type 0} {x y : A} {xs ys : List A} → x ∷ xs ≡ y ∷ ys → xs ≡ ys
tail_of e = cc

append_split : {A : Type 0} (us vs xs ys : List A) → length us ≡ length vs → us ++ xs ≡ vs ++ ys → (us ≡ vs) × (xs ≡ ys)
append_split us vs xs ys l e = (
  sym (take_at us xs (length vs) l) ∙ ap (take (length vs)) e ∙ take_at vs ys (length vs) refl,
  sym (drop_at us xs (length vs) l) ∙ ap (drop (length vs)) e ∙ drop_at vs ys (length vs) refl,
)

module _ {W : Type 0} (s : Writing W) (laws : WordLaws s) (narrow : s.width < 9) where
  count : (v : W) → length (s.words v) ≡ s.width
  count = laws.count narrow

  -- a weight, a state, an arc by its words
  weight_one : (v w : W) (xs ys : List ℕ) → s.words v ++ xs ≡ s.words w ++ ys → (v ≡ w) × (xs ≡ ys)
  weight_one v w xs ys e =
      let both = append_split (s.words v) (s.words w) xs ys (count v ∙ sym (count w)) e in
      (laws.unique narrow v w both.0, both.1)

  states_one : (zs us : List (W × W)) (xs ys : List ℕ) → length zs ≡ length us → flat_map (state_words s) zs ++ xs ≡ flat_map (state_words s) us ++ ys → (zs ≡ us) × (xs ≡ ys)
  states_one [] [] xs ys l e = (refl, e)
  states_one [] (u ∷ us) xs ys l e = absurd (omega arith)
  states_one (z ∷ zs) [] xs ys l e = absurd (omega arith)
  states_one (z ∷ zs) (u ∷ us) xs ys l e =
      let more = flat_map (state_words s) zs in
      let rest = flat_map (state_words s) us in
      let first = weight_one z.0 u.0 (s.words z.1 ++ (more ++ xs)) (s.words u.1 ++ (rest ++ ys))
      (sym (append_assoc (s.words z.0) (s.words z.1) (more ++ xs)) ∙ sym (append_assoc (state_words s z) more xs) ∙ e ∙ append_assoc (state_words s u) rest ys ∙ append_assoc (s.words u.0) (s.words u.1) (rest ++ ys)) in
      let last = weight_one z.1 u.1 (more ++ xs) (rest ++ ys) first.1 in
      let others = states_one zs us xs ys (omega arith) last.1 in
      (ap₂ ◌∷◌ (λ i. (first.0 i, last.0 i)) others.0, others.1)

  arcs_one : (n : ℕ) → n ≤ 64 → (es fs : List (Edge W)) → AllByRecursion (λ e. Within n e.0) es → AllByRecursion (λ e. Within n e.0) fs → length es ≡ length fs → flat_map (edge_words s) es ≡ flat_map (edge_words s) fs → es ≡ fs
  arcs_one n few [] [] h k l e = refl
  arcs_one n few [] (y ∷ fs) h k l e = absurd (omega arith)
  arcs_one n few (x ∷ es) [] h k l e = absurd (omega arith)
  arcs_one n few (x ∷ es) (y ∷ fs) h k l e =
      let a = arc_one n x.0 y.0 few h.0 k.0 (head_of e) in
      let w = weight_one x.1 y.1 (flat_map (edge_words s) es) (flat_map (edge_words s) fs) (tail_of e) in
      ap₂ ◌∷◌ (λ i. (a i, w.0 i)) (arcs_one n few es fs h.1 k.1 (omega arith) w.1)

  module _ (n : ℕ) (few : n ≤ 64) where
    -- the first wrong piece is not among right pieces
    past_weight : (v : W) (due : List Piece) (rest : List ℕ) (i : ℕ) (f : PieceFault) → FirstWrong s n (a_weight ∷ due) (s.words v ++ rest) i f → FirstWrong s n due rest (i + s.width) f
    past_weight v due rest i f (inl h) = absurd (h.1 v rest refl)
    past_weight v due rest i f (inr h) = subst (λ xs. FirstWrong s n due xs (i + s.width) f) (sym (weight_one v h.0 rest h.1 h.2).1) h.3

    past_arc : (a : Arc) (due : List Piece) (rest : List ℕ) (i : ℕ) (f : PieceFault) → Within n a → FirstWrong s n (an_arc ∷ due) (arc_word a ∷ rest) i f → FirstWrong s n due rest (i + 1) f
    past_arc a due rest i f ends (inl h) = absurd (h.1 a rest ends refl)
    past_arc a due rest i f ends (inr h) = subst (λ xs. FirstWrong s n due xs (i + 1) f) (sym (tail_of h.3)) h.4

    past_states : (zs : List (W × W)) (due : List Piece) (rest : List ℕ) (i : ℕ) (f : PieceFault) → FirstWrong s n (state_pieces (length zs) ++ due) (flat_map (state_words s) zs ++ rest) i f → (j : ℕ) × FirstWrong s n due rest j f
    past_states [] due rest i f h = (i, h)
    past_states (z ∷ zs) due rest i f h =
        let more = flat_map (state_words s) zs ++ rest in
        let split = append_assoc (state_words s z) (flat_map (state_words s) zs) rest ∙ append_assoc (s.words z.0) (s.words z.1) more in
        let ds = state_pieces (length zs) ++ due in
        let one = past_weight z.0 (a_weight ∷ ds) (s.words z.1 ++ more) i f (subst (λ xs. FirstWrong s n (a_weight ∷ a_weight ∷ ds) xs i f) split h) in
        past_states zs due rest (i + s.width + s.width) f (past_weight z.1 ds more (i + s.width) f one)

    past_arcs : (es : List (Edge W)) (i : ℕ) (f : PieceFault) → AllByRecursion (λ e. Within n e.0) es → FirstWrong s n (arc_pieces (length es)) (flat_map (edge_words s) es) i f → ⊥
    past_arcs [] i f ends h = h
    past_arcs (x ∷ es) i f ends h =
        let more = flat_map (edge_words s) es in
        let ds = arc_pieces (length es) in
        past_arcs es (i + 1 + s.width) f ends.1 (past_weight x.1 ds more (i + 1) f (past_arc x.0 (a_weight ∷ ds) (s.words x.1 ++ more) i f ends.0 h))

    -- one piece is the first wrong one
    wrong_one : (due : List Piece) (given : List ℕ) (i : ℕ) (e f : PieceFault) → FirstWrong s n due given i e → FirstWrong s n due given i f → e ≡ f
    wrong_one [] given i e f h k = absurd h
    wrong_one (a_weight ∷ due) given i e f (inl h) (inl k) = h.0 ∙ sym k.0
    wrong_one (a_weight ∷ due) given i e f (inl h) (inr k) = absurd (h.1 k.0 k.1 k.2)
    wrong_one (a_weight ∷ due) given i e f (inr h) (inl k) = absurd (k.1 h.0 h.1 h.2)
    wrong_one (a_weight ∷ due) given i e f (inr h) (inr k) =
        let same = (weight_one h.0 k.0 h.1 k.1 (sym h.2 ∙ k.2)).1 in
        wrong_one due k.1 (i + s.width) e f (subst (λ xs. FirstWrong s n due xs (i + s.width) e) same h.3) k.3
    wrong_one (an_arc ∷ due) given i e f (inl h) (inl k) = h.0 ∙ sym k.0
    wrong_one (an_arc ∷ due) given i e f (inl h) (inr k) = absurd (h.1 k.0 k.1 k.2 k.3)
    wrong_one (an_arc ∷ due) given i e f (inr h) (inl k) = absurd (k.1 h.0 h.1 h.2 h.3)
    wrong_one (an_arc ∷ due) given i e f (inr h) (inr k) =
        let same = tail_of (sym h.3 ∙ k.3) in
        wrong_one due k.1 (i + 1) e f (subst (λ xs. FirstWrong s n due xs (i + 1) e) same h.4) k.4

  -- words have one head
  abbrev parts : {given : List ℕ} → Headed s given → ℕ × (ℕ × List ℕ)
  parts h = (h.states, (h.arcs, h.behind))

  heads_one : {given : List ℕ} (h k : Headed s given) → parts h ≡ parts k
  heads_one h k =
      let same = sym h.splits ∙ k.splits in
      let counts = head_one s h.states h.arcs k.states k.arcs h.few_arcs k.few_arcs (head_of same) in
      λ i. (counts.0 i, (counts.1 i, tail_of same i))

  abbrev head_of_body : (given : List ℕ) (b : Body W) → SpellsBody s b given → Headed s given
  head_of_body given b h = record {
    states = b.states;
    arcs = length b.arcs;
    behind = flat_map (state_words s) (zip b.first b.last) ++ flat_map (edge_words s) b.arcs;
    few_states = h.limited.few_states;
    few_arcs = h.limited.few_arcs;
    splits = sym h.spelled;
  }

  body_counted : (given : List ℕ) (b : Body W) (h : SpellsBody s b given) → length (flat_map (state_words s) (zip b.first b.last) ++ flat_map (edge_words s) b.arcs) ≡ size s b.states (length b.arcs)
  body_counted given b h = size_body s count (zip b.first b.last) b.arcs b.states (length b.arcs) (length_states b h.limited) refl

  abbrev RightCount : ℕ × (ℕ × List ℕ) → Type 0
  RightCount p = length p.1.1 ≡ size s p.0 p.1.0

  abbrev Wrongly : PieceFault → ℕ × (ℕ × List ℕ) → Type 0
  Wrongly f p = FirstWrong s p.0 (state_pieces p.0 ++ arc_pieces p.1.0) p.1.1 1 f

  body_right : (given : List ℕ) (b : Body W) (h : SpellsBody s b given) (f : PieceFault)
      → FirstWrong s b.states (state_pieces b.states ++ arc_pieces (length b.arcs)) (flat_map (state_words s) (zip b.first b.last) ++ flat_map (edge_words s) b.arcs) 1 f → ⊥
  body_right given b h f wrong =
      let zs = zip b.first b.last in
      let few = h.limited.few_states in
      let behind = past_states b.states few zs (arc_pieces (length b.arcs)) (flat_map (edge_words s) b.arcs) 1 f
      (subst (λ x. FirstWrong s b.states (state_pieces x ++ arc_pieces (length b.arcs)) (flat_map (state_words s) zs ++ flat_map (edge_words s) b.arcs) 1 f) (sym (length_states b h.limited)) wrong) in
      past_arcs b.states few b.arcs behind.0 f h.limited.sound.ends behind.1

  narrow_no_body : (given : List ℕ) (f : Fault) → Refused s given f → (b : Body W) → SpellsBody s b given → ⊥
  narrow_no_body given Width r b h = omega arith
  narrow_no_body given Head r b h = r.1 (head_of_body given b h)
  narrow_no_body given Count r b h =
      r.1.1 (subst RightCount (heads_one (head_of_body given b h) r.1.0) (body_counted given b h))
  narrow_no_body given (Wrong f) r b h =
      body_right given b h f (subst (Wrongly f) (heads_one r.1.0 (head_of_body given b h)) r.1.2)

  narrow_one_fault : (given : List ℕ) (e f : Fault) → Refused s given e → Refused s given f → e ≡ f
  narrow_one_fault given Width f r t = absurd (omega arith)
  narrow_one_fault given Head Width r t = absurd (omega arith)
  narrow_one_fault given Head Head r t = refl
  narrow_one_fault given Head Count r t = absurd (r.1 t.1.0)
  narrow_one_fault given Head (Wrong f) r t = absurd (r.1 t.1.0)
  narrow_one_fault given Count Width r t = absurd (omega arith)
  narrow_one_fault given Count Head r t = absurd (t.1 r.1.0)
  narrow_one_fault given Count Count r t = refl
  narrow_one_fault given Count (Wrong f) r t = absurd (r.1.1 (subst RightCount (heads_one t.1.0 r.1.0) t.1.1))
  narrow_one_fault given (Wrong e) Width r t = absurd (omega arith)
  narrow_one_fault given (Wrong e) Head r t = absurd (t.1 r.1.0)
  narrow_one_fault given (Wrong e) Count r t = absurd (t.1.1 (subst RightCount (heads_one r.1.0 t.1.0) r.1.1))
  narrow_one_fault given (Wrong e) (Wrong f) r t =
      let k = t.1.0 in
      ap Wrong (wrong_one k.states k.few_states (state_pieces k.states ++ arc_pieces k.arcs) k.behind 1 e f (subst (Wrongly e) (heads_one r.1.0 k) r.1.2) t.1.2)

  narrow_one_body : (a b : Body W) (given : List ℕ) → SpellsBody s a given → SpellsBody s b given → a ≡ b
  narrow_one_body a b given h k =
      let same = heads_one (head_of_body given a h) (head_of_body given b k) in
      let number = ap (λ (p : ℕ × (ℕ × List ℕ)). p.0) same in
      let states = states_one (zip a.first a.last) (zip b.first b.last) (flat_map (edge_words s) a.arcs) (flat_map (edge_words s) b.arcs) (length_states a h.limited ∙ number ∙ sym (length_states b k.limited)) (ap (λ (p : ℕ × (ℕ × List ℕ)). p.1.1) same) in
      let u = h.limited.sound in
      let w = k.limited.sound in
      let first : a.first ≡ b.first = sym (firsts-zip a.first a.last (u.lasts ∙ sym u.firsts)) ∙ ap (map (λ (p : W × W). p.0)) states.0 ∙ firsts-zip b.first b.last (w.lasts ∙ sym w.firsts) in
      let last : a.last ≡ b.last = sym (seconds-zip a.first a.last (u.lasts ∙ sym u.firsts)) ∙ ap (map (λ (p : W × W). p.1)) states.0 ∙ seconds-zip b.first b.last (w.lasts ∙ sym w.firsts) in
      let arcs = arcs_one b.states k.limited.few_states a.arcs b.arcs (subst (λ n. AllByRecursion (λ (e : Edge W). Within n e.0) a.arcs) number u.ends) w.ends (ap (λ (p : ℕ × (ℕ × List ℕ)). p.1.0) same) states.1 in
      λ i. record { states = number i; first = first i; last = last i; arcs = arcs i }

pub no_body : {W : Type 0} (s : Writing W) → WordLaws s → NoBody s
no_body s laws given f r b h = narrow_no_body s laws h.narrow given f r b h

pub one_body : {W : Type 0} (s : Writing W) → WordLaws s → OneBody s
one_body s laws a b given h k = narrow_one_body s laws h.narrow a b given h k

pub one_fault : {W : Type 0} (s : Writing W) → WordLaws s → OneFault s
one_fault s laws given Width Width r t = refl
one_fault s laws given Width Head r t = absurd (omega (arith, t.0))
one_fault s laws given Width Count r t = absurd (omega (arith, t.0))
one_fault s laws given Width (Wrong f) r t = absurd (omega (arith, t.0))
one_fault s laws given Head f r t = narrow_one_fault s laws r.0 given Head f r t
one_fault s laws given Count f r t = narrow_one_fault s laws r.0 given Count f r t
one_fault s laws given (Wrong e) f r t = narrow_one_fault s laws r.0 given (Wrong e) f r t
