-- A body that is stored within the limits is sound.
use Rattle.std.proofs.Common.{◌≡◌, ℕ, ◌+◌, ◌≤◌, min, List, [], ◌∷◌, ◌++◌, length, take, sym, refl, ap, ◌∙◌, ap₂, subst, arith, rules}
use borrow.Rule.Slice.PartMut.{put_mid}
use Rattle.std.specs.List.{zip, between, AllByRecursion}
use Rattle.std.proofs.lemmas.List.Edits.{length-between}
use Rattle.std.proofs.lemmas.List.{take_at}
use Rattle.std.proofs.lemmas.Slice.{overwrites, between_is}
use Rattle.std.proofs.lemmas.Slice.Zip.{length-zip}
use Rattle.picture.specs.Bodies.{Within, Sound}
use Rattle.picture.specs.Lent.{lent, arcs_of}
use Rattle.picture.specs.Stored.{stored, Kept, Fits, Holds}
use Rattle.picture.specs.declared.body.Arc.{Arc}
use Rattle.picture.specs.declared.body.Record.{Record}
use Rattle.picture.specs.declared.stored.Stored.{Stored}

pub all_zipped : {A B : Type 0} (P : A → Type 0) (xs : List A) (ys : List B) → AllByRecursion P xs → AllByRecursion (λ (e : A × B). P e.0) (zip xs ys)
all_zipped P [] ys h = tt
all_zipped P (x ∷ xs) [] h = tt
all_zipped P (x ∷ xs) (y ∷ ys) h = (h.0, all_zipped P xs ys h.1)

pub stored_sound : {W : Type 0} (r : Record) (mem : List W) → Kept r → length mem ≡ 640 → Sound (stored r mem)
stored_sound r mem kept room = record {
  firsts = length-between mem 0 r.states (omega (arith, kept.few_states)) ∙ omega arith;
  lasts = length-between mem 64 (64 + r.states) (omega (arith, kept.few_states)) ∙ omega arith;
  ends = all_zipped _ _ (between 128 (128 + r.count) mem) kept.ends;
}

-- a record whose array begins with the arcs
pub holds_made : (n : ℕ) (arcs used rest : List Arc) → used ≡ arcs → Fits n arcs → Holds n arcs (record { states = n; count = length arcs; arcs = used ++ rest })
holds_made n arcs used rest e fits =
    let same : between 0 (length arcs) (used ++ rest) ≡ arcs =
    ap (λ m. take m (used ++ rest)) (omega arith) ∙ take_at used rest (length arcs) (ap length e) ∙ e in
    record {
      states = refl;
      count = refl;
      same = same;
      kept = record { few_states = fits.few_states; few_arcs = fits.few_arcs; ends = subst (AllByRecursion (Within n)) (sym same) fits.ends };
    }

-- and so is a body whose record and weights are lent together
pub lent_sound : {W : Type 0} (s : Stored W) → Sound (lent s)
lent_sound s = stored_sound s.record.now s.weights.now s.kept s.room

-- a part below what was written
pub between_below : {X : Type 0} (a n : ℕ) (xs ys : List X) (i j : ℕ) → j ≤ a → a ≤ length xs → between i j (put_mid a n xs ys) ≡ between i j xs
between_below a n xs ys i j h l = search (rules, overwrites, between_is)

-- a record within the limits has an arc weight for each arc that it counts, and as many arcs with their weights
module _ {W : Type 0} (r : Record) (mem : List W) (k : Kept r) (room : length mem ≡ 640) where
  pub stored_weights : length (between 128 (128 + r.count) mem) ≡ r.count
  stored_weights = length-between mem 128 (128 + r.count) (omega (arith, k.few_arcs)) ∙ omega arith

  pub stored_arcs : length (between 0 r.count r.arcs) ≡ r.count → length (stored r mem).arcs ≡ r.count
  stored_arcs e = length-zip (between 0 r.count r.arcs) (between 128 (128 + r.count) mem) ∙ ap₂ min e stored_weights ∙ omega arith

pub lent_count : {W : Type 0} (s : Stored W) (xs : List Arc) → xs ≡ arcs_of s → length xs ≡ s.record.now.count → length (lent s).arcs ≡ length xs
lent_count s xs is count = stored_arcs s.record.now s.weights.now s.kept s.room (ap length (sym is) ∙ count) ∙ sym count

pub lent_arcs : {W : Type 0} (s : Stored W) (xs : List Arc) (ws : List W) → xs ≡ arcs_of s → zip (arcs_of s) ws ≡ (lent s).arcs → zip xs ws ≡ (lent s).arcs
lent_arcs s xs ws is are = ap (λ zs. zip zs ws) is ∙ are
