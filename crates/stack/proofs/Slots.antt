-- The slots of a stack: what a write leaves, and which slot holds the body at a place.
use Rattle.std.proofs.Common.{◌≡◌, ℕ, zero, suc, ◌+◌, ◌-◌, ◌*◌, ◌<◌, ◌≤◌, ◌≢◌, List, ◌∷◌, length, get_or, drop, set, sym, refl, ap, ◌∙◌, ap₂, add-one, arith, rules, get_or-set_other, get_or-set_same}
use native.Mathlib.Nat.{sub-zero, zero-sub, suc-sub-suc}
use borrow.Rule.Slice.PartMut.{put_mid}
use Rattle.std.proofs.lemmas.Slice.{overwrites, between_is, between-put_mid}
use Rattle.picture.specs.Stored.{stored}
use Rattle.picture.specs.declared.body.Record.{Record}
use Rattle.stack.specs.Waiting.{bay, no_record, waiting, body_at}

-- a write past a bay leaves it
pub bay_before : {W : Type 0} (i a k : ℕ) (memory ys : List W) → 640 * i + 640 ≤ a → a ≤ length memory → bay i (put_mid a k memory ys) ≡ bay i memory
bay_before i a k memory ys low long = search (rules, overwrites, between_is)

-- a write to the record and the bay of a slot leaves the bodies below it
waiting_below : {W : Type 0} (g h k : ℕ) (rs : List Record) (r : Record) (work ys : List W) → g ≤ h → 640 * h ≤ length work → waiting g (set rs h r) (put_mid (640 * h) k work ys) ≡ waiting g rs work
waiting_below zero h k rs r work ys low long = refl
waiting_below (suc g) h k rs r work ys low long =
    let ne : g ≢ h = omega arith in
    ap₂ ◌∷◌ (ap₂ stored (get_or-set_other rs h g r no_record ne) (bay_before g (640 * h) k work ys (omega arith) long))
    (waiting_below g h k rs r work ys (omega arith) long)

-- the bodies below the latest n
pub drop_waiting : {W : Type 0} (n h : ℕ) (rs : List Record) (work : List W) → drop n (waiting h rs work) ≡ waiting (h - n) rs work
drop_waiting zero h rs work = rw sub-zero
drop_waiting (suc n) zero rs work = rw zero-sub
drop_waiting (suc n) (suc h) rs work = rw suc-sub-suc (drop_waiting n h rs work)

-- a write to the slot of the oldest of n bodies puts its body in their place
pub put_bodies : {W : Type 0} (n h k : ℕ) (rs : List Record) (r : Record) (work ys weights : List W)
    → h - n < length rs → 640 * (h - n) ≤ length work → ys ≡ weights → length weights ≡ 640
    → waiting (h - n + 1) (set rs (h - n) r) (put_mid (640 * (h - n)) k work ys) ≡ stored r weights ∷ drop n (waiting h rs work)
put_bodies n h k rs r work ys weights low long same full =
    let s = h - n in
    rw add-one
    (ap₂ ◌∷◌
    (ap₂ stored (get_or-set_same rs s r no_record low) (between-put_mid (640 * s) k work ys (640 * s + 640) long (ap length same ∙ full ∙ omega arith) ∙ same))
    (waiting_below s s k rs r work ys (omega arith) long ∙ sym (drop_waiting n h rs work)))

-- the body with i later ones lies in the slot that they leave
pub body_in_slot : {W : Type 0} (h i s : ℕ) (rs : List Record) (work : List W) → h ≡ s + (i + 1) → body_at (waiting h rs work) i ≡ stored (get_or rs s no_record) (bay s work)
body_in_slot zero i s rs work e = absurd (omega arith)
body_in_slot (suc h) zero s rs work e = let same : h ≡ s = omega arith in ap (λ n. stored (get_or rs n no_record) (bay n work)) same
body_in_slot (suc h) (suc i) s rs work e = body_in_slot h i s rs work (omega arith)
