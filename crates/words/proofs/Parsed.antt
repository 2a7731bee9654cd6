-- The whole of reading.
use Rattle.std.proofs.Common.{◌≡◌, ℕ, ◌<◌, ◌≤◌, List, [], ◌∷◌, ◌++◌, length, sym, ap, ◌∙◌, subst, ap₂, arith}
use Rattle.std.specs.List.{flat_map}
use Rattle.std.proofs.lemmas.List.Edits.{length-between}
use Rattle.std.proofs.lemmas.List.{append-nil, length-append, nil_from_length}
use Rattle.weight.specs.Words.{Writing}
use Rattle.weight.specs.declared.kind.Weight.{Ghosts as Weight}
use Rattle.weight.specs.declared.written.Written.{Ghosts as Written}
use Rattle.picture.specs.Stored.{stored, Kept}
use Rattle.picture.specs.declared.body.Record.{Record}
use Rattle.words.specs.Format.{head_word, state_words, edge_words, words_of, size, SpellsBody}
use Rattle.words.specs.Faults.{Headed, Refused}
use Rattle.words.specs.Inner.{states_in, ReadBody}
use Rattle.words.specs.Wrong.{state_pieces, arc_pieces, FirstWrong}
use Rattle.words.specs.declared.fault.Fault.{Fault}
use Rattle.words.specs.declared.fault.Fault.TheVariants.{Head, Count, Piece}
use Rattle.words.specs.declared.fault.PieceFault.{PieceFault}
use Rattle.words.specs.declared.head.Counts.{Counts}
use Rattle.words.specs.declared.reader.Reader.{Reader}
use Rattle.words.proofs.Sizes.{size_body, length_states}
use Rattle.picture.proofs.Storing.{stored_arcs}
use Rattle.words.proofs.Storing.{stored_limited}

module _ {W : Type 0} (s : Writing W) (narrow : s.width < 9) (given : List ℕ) (x : ℕ) (rest : List ℕ) (parts : given ≡ x ∷ rest) where
  pub refused_head : (f : Fault) → (f ≡ Head) × ((n m : ℕ) → n ≤ 64 → m ≤ 512 → x ≡ head_word s n m → ⊥) → Refused s given f
  refused_head f h = subst (Refused s given) (sym h.0) (narrow, λ k. h.1 k.states k.arcs k.few_states k.few_arcs (cc))

  module _ (k : Counts) (named : x ≡ head_word s k.states k.arcs) where
    abbrev headed : Headed s given
    headed = record { states = k.states; arcs = k.arcs; behind = rest; few_states = k.few_states; few_arcs = k.few_arcs; splits = parts ∙ ap (λ y. y ∷ rest) named }

    pub refused_count : (length rest ≡ size s k.states k.arcs → ⊥) → Refused s given Count
    refused_count l = (narrow, (headed, l))

    module _ (counted : length rest ≡ size s k.states k.arcs) where
      pub refused_piece : (f : PieceFault) → FirstWrong s k.states (state_pieces k.states ++ arc_pieces k.arcs) rest 1 f → Refused s given (Piece f)
      refused_piece f h = (narrow, (headed, counted, h))

      pub parsed : (count : (v : W) → length (s.words v) ≡ s.width) {w : Written W} {base : Weight W} {a b : Reader W w base} (r : Record) (mem : List W) → a.rest.now ≡ rest → length r.arcs ≡ 512 → length mem ≡ 640
          → ReadBody s k mem a b r → Kept r × SpellsBody s (stored r mem) given
      parsed count {a = a} {b = b} r mem same full room q =
          let body = stored r mem in
          let limited = stored_limited r mem q.kept room in
          let all = flat_map (state_words s) (states_in r.states mem) ++ flat_map (edge_words s) body.arcs in
          let arcs = stored_arcs r mem q.kept room (length-between r.arcs 0 r.count (omega (arith, q.kept.few_arcs)) ∙ omega arith) in
          let long : length all ≡ size s k.states k.arcs = size_body s count (states_in r.states mem) body.arcs k.states k.arcs (length_states body limited ∙ q.states) (arcs ∙ q.arcs) in
          let done : b.rest.now ≡ [] = nil_from_length b.rest.now (omega (arith, ap length q.took.splits, ap length same, length-append all b.rest.now)) in
          let words : words_of s body ≡ given =
          ap₂ (λ n m. head_word s n m ∷ all) q.states (arcs ∙ q.arcs)
          ∙ ap₂ ◌∷◌ (sym named) (sym (append-nil all) ∙ ap (λ zs. all ++ zs) (sym done) ∙ sym q.took.splits ∙ same)
          ∙ sym parts in
          (q.kept, record { narrow = narrow; limited = limited; spelled = words })
