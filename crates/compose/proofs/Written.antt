-- A body whose three parts were written.
use Rattle.std.proofs.Common.{◌≡◌, ℕ, ◌+◌, ◌-◌, ◌≤◌, List, map, length, take, None, Option, sym, ap, ◌∙◌, subst, arith, rules}
use borrow.Rule.Slice.PartMut.{put_mid}
use Rattle.std.specs.List.{zip, between, AllByRecursion}
use Rattle.std.proofs.ByRecursion.{All-map}
use Rattle.std.proofs.lemmas.List.Edits.{length-between}
use Rattle.std.proofs.lemmas.List.{places}
use Rattle.std.proofs.lemmas.Slice.Zip.{firsts-zip}
use Rattle.std.proofs.lemmas.Slice.{between-put_mid, drop-put_mid}
use Rattle.picture.specs.Bodies.{Body, Edge, Sound, Within}
use Rattle.picture.specs.Stored.{stored, Kept}
use Rattle.picture.specs.declared.body.Arc.{Arc}
use Rattle.picture.specs.declared.body.Record.{Record}
use Rattle.picture.proofs.Storing.{between_below}
use Rattle.compose.specs.Outcomes.{Made}
use Rattle.compose.specs.declared.limits.Fault.{Fault}

length_put_mid : {X : Type 0} (a n : ℕ) (xs ys : List X) → a + n ≤ length xs → length ys ≡ n → length (put_mid a n xs ys) ≡ length xs
length_put_mid a n xs ys h l = search (rules, places)

-- how long the part of the last weights is when the first weights are written
pub lasts_long : {X : Type 0} (n : ℕ) (out xs : List X) → length out ≡ 640 → n ≤ 64 → length xs ≡ n → length (between 64 (64 + n) (put_mid 0 (n - 0) out xs)) ≡ n
lasts_long n out xs l h lx =
    let long = length_put_mid 0 (n - 0) out xs (omega arith) (omega arith) in
    length-between (put_mid 0 (n - 0) out xs) 64 (64 + n) (omega arith) ∙ omega arith

-- the body that is stored once first, last and arc weights are written
stored_is : {W : Type 0} (b : Body W) (r : Record) (out xs ys ws : List W) → length out ≡ 640 → r.states ≤ 64 → r.count ≤ 512
    → length xs ≡ r.states → length ys ≡ r.states → length ws ≡ r.count
    → r.states ≡ b.states → xs ≡ b.first → ys ≡ b.last → zip (between 0 r.count r.arcs) ws ≡ b.arcs
    → stored r (put_mid 128 (128 + r.count - 128) (put_mid 64 (64 + r.states - 64) (put_mid 0 (r.states - 0) out xs) ys) ws) ≡ b
stored_is b r out xs ys ws l hn hm lx ly lw es ef el ea =
    let one = put_mid 0 (r.states - 0) out xs in
    let two = put_mid 64 (64 + r.states - 64) one ys in
    let one-long : length one ≡ 640 = length_put_mid 0 (r.states - 0) out xs (omega arith) (omega arith) ∙ l in
    let two-long : length two ≡ 640 = length_put_mid 64 (64 + r.states - 64) one ys (omega arith) (omega arith) ∙ one-long in
    let first : between 0 r.states (put_mid 128 (128 + r.count - 128) two ws) ≡ xs =
    between_below 128 _ two ws 0 r.states (omega arith) (omega arith) ∙ between_below 64 _ one ys 0 r.states (omega arith) (omega arith)
    ∙ between-put_mid 0 _ out xs r.states (omega arith) (omega arith) in
    let last : between 64 (64 + r.states) (put_mid 128 (128 + r.count - 128) two ws) ≡ ys =
    between_below 128 _ two ws 64 (64 + r.states) (omega arith) (omega arith) ∙ between-put_mid 64 _ one ys (64 + r.states) (omega arith) (omega arith) in
    let weights : between 128 (128 + r.count) (put_mid 128 (128 + r.count - 128) two ws) ≡ ws = between-put_mid 128 _ two ws (128 + r.count) (omega arith) (omega arith) in
    let arcs : zip (between 0 r.count r.arcs) (between 128 (128 + r.count) (put_mid 128 (128 + r.count - 128) two ws)) ≡ b.arcs = ap (zip (between 0 r.count r.arcs)) weights ∙ ea in
    λ i. record { states = es i; first = (first ∙ ef) i; last = (last ∙ el) i; arcs = arcs i }

-- a record whose arcs and weights are those of a sound body within the limits
pub body_made : {W : Type 0} (fault : Option Fault) (b : Body W) (r : Record) (arcs : List Arc) (out xs ys ws : List W) → fault ≡ None → Sound b → length out ≡ 640
    → r.states ≡ b.states → r.states ≤ 64 → r.count ≤ 512 → between 0 r.count r.arcs ≡ arcs → length arcs ≡ r.count → length ws ≡ r.count
    → xs ≡ b.first → ys ≡ b.last → zip arcs ws ≡ b.arcs
    → Made fault b (put_mid 128 (128 + r.count - 128) (put_mid 64 (64 + r.states - 64) (put_mid 0 (r.states - 0) out xs) ys) ws) r
body_made {W} fault b r arcs out xs ys ws ok sound lo es hn hm front la lw ex ey ea = record {
  accepted = ok;
  body = stored_is b r out xs ys ws lo hn hm (ap length ex ∙ sound.firsts ∙ sym es) (ap length ey ∙ sound.lasts ∙ sym es) lw es ex ey (ap (λ zs. zip zs ws) front ∙ ea);
  kept = record {
    few_states = hn;
    few_arcs = hm;
    ends =
        subst (AllByRecursion (Within r.states)) (ap (map (λ (e : Edge W). e.0)) (sym ea) ∙ firsts-zip arcs ws (lw ∙ sym la) ∙ sym front)
        (All-map (Within r.states) (λ (e : Edge W). e.0) b.arcs (subst (λ n. AllByRecursion (λ (e : Edge W). Within n e.0) b.arcs) (sym es) sound.ends));
  };
}

-- a part above what was written
between_above : {X : Type 0} (a n : ℕ) (xs ys : List X) (i j : ℕ) → a + n ≤ i → a ≤ length xs → length ys ≡ n → between i j (put_mid a n xs ys) ≡ between i j xs
between_above a n xs ys i j h l ly = ap (take (j - i)) (drop-put_mid a n xs ys i h l ly)

-- only the first weights of a body were written
pub firsts_made : {W : Type 0} (b : Body W) (r : Record) (mem out xs : List W) → Kept r → length mem ≡ 640 → out ≡ mem → length xs ≡ r.states
    → r.states ≡ b.states → xs ≡ b.first → (stored r mem).last ≡ b.last → (stored r mem).arcs ≡ b.arcs
    → stored r (put_mid 0 (r.states - 0) out xs) ≡ b
firsts_made b r mem out xs kept room e lx es ex el ea =
    let few = kept.few_states in
    let long : length out ≡ 640 = ap length e ∙ room in
    let first : between 0 r.states (put_mid 0 (r.states - 0) out xs) ≡ xs = between-put_mid 0 _ out xs r.states (omega arith) (omega arith) in
    let last : between 64 (64 + r.states) (put_mid 0 (r.states - 0) out xs) ≡ (stored r mem).last =
    between_above 0 _ out xs 64 (64 + r.states) (omega arith) (omega arith) (omega arith) ∙ ap (between 64 (64 + r.states)) e in
    let weights : between 128 (128 + r.count) (put_mid 0 (r.states - 0) out xs) ≡ between 128 (128 + r.count) mem =
    between_above 0 _ out xs 128 (128 + r.count) (omega arith) (omega arith) (omega arith) ∙ ap (between 128 (128 + r.count)) e in
    λ i. record { states = es i; first = (first ∙ ex) i; last = (last ∙ el) i; arcs = (ap (zip (between 0 r.count r.arcs)) weights ∙ ea) i }
