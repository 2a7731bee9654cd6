-- A record and its weights once states and arcs are stored.
use Rattle.std.proofs.Common.{◌≡◌, suc, ◌+◌, ◌-◌, List, ◌++◌, length, take, sym, refl, ap, ◌∙◌, subst, ap₂, arith}
use borrow.Rule.Slice.PartMut.{put_mid}
use Rattle.std.specs.List.{zip, between, flat_map, AllByRecursion}
use Rattle.std.proofs.lemmas.List.{append_assoc, length-append, take_at, drop_at}
use Rattle.std.proofs.lemmas.Slice.Zip.{length-zip}
use Rattle.std.proofs.lemmas.Slice.{between-put_mid}
use Rattle.weight.specs.Words.{Writing}
use Rattle.weight.specs.declared.kind.Weight.{Ghosts as Weight}
use Rattle.weight.specs.declared.written.Written.{Ghosts as Written}
use Rattle.picture.specs.Bodies.{Within}
use Rattle.picture.specs.Lent.{lent, arcs_of}
use Rattle.picture.specs.Stored.{stored, Kept}
use Rattle.picture.specs.declared.body.Arc.{Arc}
use Rattle.picture.specs.declared.body.Record.{Record}
use Rattle.picture.specs.declared.stored.Stored.{Stored}
use Rattle.picture.proofs.Storing.{stored_sound, stored_weights, lent_count, between_below}
use Rattle.words.specs.Format.{state_words, edge_words, words_of, size, Limited}
use Rattle.words.specs.Inner.{Took, ReadBody}
use Rattle.words.specs.declared.head.Counts.{Counts}
use Rattle.words.specs.declared.reader.Reader.{Reader}
use Rattle.words.proofs.Sizes.{size_body, length_states}
use Rattle.words.proofs.Taking.{took_both, took_as}

-- a kept record and 640 weights are a body within the limits
pub stored_limited : {W : Type 0} (r : Record) (mem : List W) → Kept r → length mem ≡ 640 → Limited (stored r mem)
stored_limited r mem k room =
    let weights = stored_weights r mem k room in
    record {
      few_states = k.few_states;
      few_arcs = omega (arith, length-zip (between 0 r.count r.arcs) (between 128 (128 + r.count) mem), weights, k.few_arcs);
      sound = stored_sound r mem k room;
    }

pub lent_limited : {W : Type 0} (b : Stored W) → Limited (lent b)
lent_limited b = stored_limited b.record.now b.weights.now b.kept b.room

-- how many words a body has whose arcs are counted
pub lent_size : {W : Type 0} (b : Stored W) (bs : List Arc) → bs ≡ arcs_of b → length bs ≡ b.record.now.count → (s : Writing W) → ((v : W) → length (s.words v) ≡ s.width)
    → length (words_of s (lent b)) ≡ 1 + size s b.record.now.states b.record.now.count
lent_size b bs is count s width =
    let arcs = lent_count b bs is count ∙ count in
    ap suc (size_body s width (zip (lent b).first (lent b).last) (lent b).arcs b.record.now.states b.record.now.count (length_states (lent b) (lent_limited b)) arcs) ∙ omega arith

-- first weights and last weights in two parts, then arcs and their weights
module _ {W : Type 0} {w : Written W} {base : Weight W} (s : Writing W) (counts : Counts) where
  pub body_done : {a b d : Reader W w base} (fs us ls vs ws : List W) (bs more : List Arc) → length (fs ++ us) ≡ 64 → length (ls ++ vs) ≡ 576 → length fs ≡ counts.states → length ls ≡ counts.states → length bs ≡ counts.arcs
      → length ws ≡ counts.arcs → Took (flat_map (state_words s) (zip fs ls)) a b → AllByRecursion (Within counts.states) bs × Took (flat_map (edge_words s) (zip bs ws)) b d
      → ReadBody s counts (put_mid 128 (128 + counts.arcs - 128) ((fs ++ us) ++ (ls ++ vs)) ws) a d (record { states = counts.states; count = counts.arcs; arcs = bs ++ more })
  body_done fs us ls vs ws bs more lu lv lf ll lb lw p q =
      let n = counts.states in
      let m = counts.arcs in
      let one = (fs ++ us) ++ (ls ++ vs) in
      let mem = put_mid 128 (128 + m - 128) one ws in
      let room : length one ≡ 640 = length-append (fs ++ us) (ls ++ vs) ∙ omega arith in
      let arcs : between 0 m (bs ++ more) ≡ bs = take_at bs more (m - 0) (omega arith) in
      let first : between 0 n mem ≡ fs =
      between_below 128 _ one ws 0 n (omega arith) (omega arith) ∙ ap (take (n - 0)) (append_assoc fs us (ls ++ vs)) ∙ take_at fs (us ++ (ls ++ vs)) (n - 0) (omega arith) in
      let last : between 64 (64 + n) mem ≡ ls =
      between_below 128 _ one ws 64 (64 + n) (omega arith) (omega arith) ∙ ap (take (64 + n - 64)) (drop_at (fs ++ us) (ls ++ vs) 64 lu) ∙ take_at ls vs (64 + n - 64) (omega arith) in
      let weights : between 128 (128 + m) mem ≡ ws = between-put_mid 128 _ one ws (128 + m) (omega arith) (omega arith) in
      record {
        states = refl;
        arcs = refl;
        kept = record { few_states = counts.few_states; few_arcs = counts.few_arcs; ends = subst (AllByRecursion (Within n)) (sym arcs) q.0 };
        took = took_as (ap₂ (λ zs es. flat_map (state_words s) zs ++ flat_map (edge_words s) es) (ap₂ zip (sym first) (sym last)) (ap₂ zip (sym arcs) (sym weights))) (took_both p q.1);
      }
