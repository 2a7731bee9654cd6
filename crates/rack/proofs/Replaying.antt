-- A list of calls, one after the other.
use Rattle.std.proofs.Common.{◌≡◌, ℕ, ◌+◌, ◌<◌, ◌≤◌, ◌⊎◌, List, [], ◌∷◌, ◌++◌, length, get_or, take, drop, Ok, Err, Result, sym, refl, ap, ◌∙◌, subst, ap₂, inl, inr, append_assoc, add-zero, arith}
use Rattle.std.proofs.lemmas.List.{length-append, length-take-le, take_at, drop_at, drop_more}
use Rattle.weight.specs.Kinds.{Kind, Laws}
use Rattle.weight.specs.Words.{Writing, WordLaws}
use Rattle.book.specs.Calls.{Places, Output, Words, Cells, Rules}
use Rattle.book.specs.Faith.{Event, fresh, ByRules}
use Rattle.book.specs.declared.refusal.Refusal.{Refusal}
use Rattle.book.proofs.Calling.{lists_faithful}
use Rattle.rack.specs.Racks.{came_to, amount, words_out, cells_out}
use Rattle.rack.specs.Replays.{asked, words_used, cells_used, output_of, events, all_words, all_cells, Replayed}
use Rattle.rack.specs.declared.call.Call.{Call}
use Rattle.rack.specs.declared.call.Call.TheVariants.{Enter, Run, Clear, Write, Print}

-- an answer
abbrev Answer : Type 0
Answer = Result ℕ Refusal

module _ {W : Type 0} where
  -- what a call wrote is the front of its buffer, whatever comes behind it
  front_words : (r : Answer) (part more : List ℕ) → amount r ≤ length part → words_out {W = W} r (take (amount r) part ++ more) ≡ words_out r part
  front_words (Ok n) part more le = ap Words (take_at (take n part) more n (length-take-le n part le))
  front_words (Err f) part more le = refl

  front_cells : (r : Answer) (part more : List W) → amount r ≤ length part → cells_out r (take (amount r) part ++ more) ≡ cells_out r part
  front_cells (Ok n) part more le = ap Cells (take_at (take n part) more n (length-take-le n part le))
  front_cells (Err f) part more le = refl

  front_output : (c : Call) (r : Answer) (words more : List ℕ) (cells rest : List W) → words_used c r ≤ length words → cells_used c r ≤ length cells
      → output_of c r (take (words_used c r) words ++ more) (take (cells_used c r) cells ++ rest) ≡ output_of c r words cells
  front_output (Enter n given) r words more cells rest low few = refl
  front_output (Run given) r words more cells rest low few = refl
  front_output (Clear n) r words more cells rest low few = refl
  front_output (Write n room) r words more cells rest low few = front_words r words more low
  front_output (Print n t room) r words more cells rest low few = front_cells r cells rest few

  none_left : (cs : List Call) (rs : List Answer) (words : List ℕ) (cells : List W) → (length cs ≡ 0) ⊎ (length rs ≡ 0) → events cs rs words cells ≡ []
  none_left [] rs words cells h = refl
  none_left (c ∷ cs) [] words cells h = refl
  none_left (c ∷ cs) (r ∷ rs) words cells (inl e) = absurd (omega arith)
  none_left (c ∷ cs) (r ∷ rs) words cells (inr e) = absurd (omega arith)

no_words_left : (cs : List Call) (rs : List Answer) → (length cs ≡ 0) ⊎ (length rs ≡ 0) → all_words cs rs ≡ 0
no_words_left [] rs h = refl
no_words_left (c ∷ cs) [] h = refl
no_words_left (c ∷ cs) (r ∷ rs) (inl e) = absurd (omega arith)
no_words_left (c ∷ cs) (r ∷ rs) (inr e) = absurd (omega arith)

no_cells_left : (cs : List Call) (rs : List Answer) → (length cs ≡ 0) ⊎ (length rs ≡ 0) → all_cells cs rs ≡ 0
no_cells_left [] rs h = refl
no_cells_left (c ∷ cs) [] h = refl
no_cells_left (c ∷ cs) (r ∷ rs) (inl e) = absurd (omega arith)
no_cells_left (c ∷ cs) (r ∷ rs) (inr e) = absurd (omega arith)

module _ {W : Type 0} (k : Kind W) (v : Writing W) (memory : ℕ) (calls : List Call) where
  -- The first i calls are made, with these answers, words and cells; `now` are the bodies. Whatever the others come to, the whole
  -- list goes by the rules if the others do from here.
  pub record Made (i : ℕ) (answers : List Answer) (words : List ℕ) (cells : List W) (left-words left-cells : ℕ) (now : Places W) : Type 0 where
    pub goes : (rs : List Answer) (ws : List ℕ) (cs : List W) (end : Places W) → length ws ≡ left-words → length cs ≡ left-cells
        → ByRules k v memory now (events (drop i calls) rs ws cs) end → ByRules k v memory fresh (events calls (answers ++ rs) (words ++ ws) (cells ++ cs)) end
    pub words_count : (rs : List Answer) → length words + all_words (drop i calls) rs ≡ all_words calls (answers ++ rs)
    pub cells_count : (rs : List Answer) → length cells + all_cells (drop i calls) rs ≡ all_cells calls (answers ++ rs)

  pub made_none : (left-words left-cells : ℕ) (now : Places W) → now ≡ fresh → Made 0 [] [] [] left-words left-cells now
  made_none left-words left-cells now e = record {
    goes = λ rs ws cs end _ _ h. subst (λ (at : Places W). ByRules k v memory at (events calls rs ws cs) end) e h;
    words_count = λ rs. omega arith;
    cells_count = λ rs. omega arith;
  }

  module _ (i : ℕ) (answers : List Answer) (words : List ℕ) (cells : List W) (lw lc : ℕ) (now : Places W) (m : Made i answers words cells lw lc now)
      (d : Call) (low : i < length calls) (r : Answer) (part : List ℕ) (cell-part : List W) (after : Places W)
      (fits-words : words_used (get_or calls i d) r ≤ length part) (fits-cells : cells_used (get_or calls i d) r ≤ length cell-part) where
    abbrev here : Call
    here = get_or calls i d

    abbrev behind : List Call
    behind = drop (i + 1) calls

    split : drop i calls ≡ here ∷ behind
    split = drop_more calls i d low

    -- one call more
    pub made_more : length part ≡ lw → length cell-part ≡ lc → (left-words left-cells : ℕ) → words_used here r + left-words ≡ lw → cells_used here r + left-cells ≡ lc
        → Rules k v now memory (asked here lw lc) (came_to r (output_of here r part cell-part) after)
        → Made (i + 1) (answers ++ r ∷ []) (words ++ take (words_used here r) part) (cells ++ take (cells_used here r) cell-part) left-words left-cells after
    made_more long many left-words left-cells rest others rules = record {
      goes = λ rs ws cs end wl cl h.
          let ws' = take (words_used here r) part ++ ws in
          let cs' = take (cells_used here r) cell-part ++ cs in
          let lw' : length ws' ≡ lw = length-append (take (words_used here r) part) ws ∙ ap₂ ◌+◌ (length-take-le (words_used here r) part fits-words) wl ∙ rest in
          let lc' : length cs' ≡ lc = length-append (take (cells_used here r) cell-part) cs ∙ ap₂ ◌+◌ (length-take-le (cells_used here r) cell-part fits-cells) cl ∙ others in
          let one : Rules k v now memory (asked here (length ws') (length cs')) (came_to r (output_of here r ws' cs') after) =
          subst (λ (out : Output W). Rules k v now memory (asked here (length ws') (length cs')) (came_to r out after)) (sym (front_output here r part ws cell-part cs fits-words fits-cells))
          (subst (λ n. Rules k v now memory (asked here n (length cs')) (came_to r (output_of here r part cell-part) after)) (sym lw')
          (subst (λ n. Rules k v now memory (asked here lw n) (came_to r (output_of here r part cell-part) after)) (sym lc') rules)) in
          let tail : ByRules k v memory after (events behind rs (drop (words_used here r) ws') (drop (cells_used here r) cs')) end =
          subst (λ (us : List ℕ). ByRules k v memory after (events behind rs us (drop (cells_used here r) cs')) end) (sym (drop_at (take (words_used here r) part) ws (words_used here r) (length-take-le (words_used here r) part fits-words)))
          (subst (λ (us : List W). ByRules k v memory after (events behind rs ws us) end) (sym (drop_at (take (cells_used here r) cell-part) cs (cells_used here r) (length-take-le (cells_used here r) cell-part fits-cells))) h) in
          let whole = m.goes (r ∷ rs) ws' cs' end lw' lc' (subst (λ (xs : List Call). ByRules k v memory now (events xs (r ∷ rs) ws' cs') end) (sym split) (after, one, tail)) in
          subst (λ (xs : List W). ByRules k v memory fresh (events calls ((answers ++ r ∷ []) ++ rs) ((words ++ take (words_used here r) part) ++ ws) xs) end) (sym (append_assoc cells (take (cells_used here r) cell-part) cs))
          (subst (λ (xs : List ℕ). ByRules k v memory fresh (events calls ((answers ++ r ∷ []) ++ rs) xs (cells ++ cs')) end) (sym (append_assoc words (take (words_used here r) part) ws))
          (subst (λ (xs : List Answer). ByRules k v memory fresh (events calls xs (words ++ ws') (cells ++ cs')) end) (sym (append_assoc answers (r ∷ []) rs)) whole));
      words_count = λ rs.
          let e : all_words (drop i calls) (r ∷ rs) ≡ words_used here r + all_words behind rs = ap (λ (xs : List Call). all_words xs (r ∷ rs)) split in
          let whole = m.words_count (r ∷ rs) ∙ ap (all_words calls) (sym (append_assoc answers (r ∷ []) rs)) in
          omega (arith, e, whole, length-append words (take (words_used here r) part), length-take-le (words_used here r) part fits-words);
      cells_count = λ rs.
          let e : all_cells (drop i calls) (r ∷ rs) ≡ cells_used here r + all_cells behind rs = ap (λ (xs : List Call). all_cells xs (r ∷ rs)) split in
          let whole = m.cells_count (r ∷ rs) ∙ ap (all_cells calls) (sym (append_assoc answers (r ∷ []) rs)) in
          omega (arith, e, whole, length-append cells (take (cells_used here r) cell-part), length-take-le (cells_used here r) cell-part fits-cells);
    }

  -- all calls are made, or no room is left for an answer
  module _ (i : ℕ) (answers : List Answer) (words : List ℕ) (cells : List W) (lw lc : ℕ) (now : Places W) (m : Made i answers words cells lw lc now)
      (rs : List Answer) (all : (length (drop i calls) ≡ 0) ⊎ (length rs ≡ 0)) where
    pub made_all : Laws k → WordLaws v → (ws : List ℕ) (cs : List W) → length ws ≡ lw → length cs ≡ lc → Replayed k v memory (events calls (answers ++ rs) (words ++ ws) (cells ++ cs))
    made_all laws word_laws ws cs wl cl =
        let by_rules = m.goes rs ws cs now wl cl (subst (λ (es : List (Event W)). ByRules k v memory now es now) (sym (none_left (drop i calls) rs ws cs all)) refl) in
        record { after = now; by_rules = by_rules; faithful = lists_faithful k laws v word_laws memory _ now by_rules }

    pub all_words_made : all_words calls (answers ++ rs) ≡ length words
    all_words_made = sym (m.words_count rs) ∙ ap (λ n. length words + n) (no_words_left (drop i calls) rs all) ∙ add-zero (length words)

    pub all_cells_made : all_cells calls (answers ++ rs) ≡ length cells
    all_cells_made = sym (m.cells_count rs) ∙ ap (λ n. length cells + n) (no_cells_left (drop i calls) rs all) ∙ add-zero (length cells)
