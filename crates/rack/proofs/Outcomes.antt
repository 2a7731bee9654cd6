-- The outcome of a call, from what the layers below answer.
use Rattle.std.proofs.Common.{◌≡◌, ℕ, ◌+◌, ◌<◌, ◌≤◌, Bool, true, false, cond, ltb, List, ◌++◌, map, length, take, drop, Some, None, Ok, Err, Option, Result, sym, refl, ap, ◌∙◌, subst, arith, length-append, length-drop, MatchOption}
use Rattle.std.proofs.Math.Seq.{drop-append-add}
use Rattle.std.proofs.lemmas.List.{take_at}
use Rattle.std.proofs.lemmas.Slice.{drop-append-drop}
use Rattle.weight.specs.Kinds.{Kind}
use Rattle.weight.specs.Words.{Writing}
use Rattle.picture.specs.Bodies.{Body}
use Rattle.picture.specs.Cells.{tile}
use Rattle.picture.specs.Pictures.{picture}
use Rattle.words.specs.Calls.{Wrote}
use Rattle.words.specs.Faults.{Refused, Unwritten}
use Rattle.words.specs.Format.{words_of, SpellsBody}
use Rattle.words.specs.declared.fault.Fault.{Fault}
use Rattle.words.specs.declared.fault.WriteFault.{WriteFault}
use Rattle.words.specs.declared.fault.WriteFault.TheVariants.{TooWide, TooShort}
use Rattle.tile.specs.Outcomes.{Printed, Refused as NotTile}
use Rattle.tile.specs.declared.printing.Fault.{Fault as TileFault}
use Rattle.tile.specs.declared.printing.Fault.TheVariants.{NoTile, ShortOutput}
use Rattle.recipe.specs.Evaluations.{put}
use Rattle.recipe.specs.Places.{place}
use Rattle.recipe.specs.declared.place.Place.{Place}
use Rattle.stack.specs.Drawing.{blank}
use Rattle.book.specs.Calls.{Enter, Clear, Write, Print, Nothing, Words, Cells, Outcome, Places, answers, refused, Enters, entered, not_entered, Writes, too_wide, too_short, written, Prints, no_tile, no_room, printed, with_memory, at_place, Rules}
use Rattle.book.specs.Statements.{AllLimited, WritesBack, EntersAs}
use Rattle.book.specs.declared.refusal.Refusal.{Refusal}
use Rattle.book.specs.declared.refusal.Refusal.TheVariants.{ShortMemory, NoPlace, NotEntered, NotWritten, NotPrinted}
use Rattle.book.proofs.Wording.{entered_back, written_back}
use Rattle.rack.specs.Racks.{came_to, words_out, or_none, named}

-- a refusal is no answer
pub never : {X E T : Type 0} {x : X} {e : E} → ◌≡◌ {A = Result X E} (Err e) (Ok x) → T
never p = let z : ◌≡◌ {A = ℕ} 0 1 = cc in absurd (omega arith)

-- two answers that are one
same_ok : {X E : Type 0} {x y : X} → ◌≡◌ {A = Result X E} (Ok x) (Ok y) → x ≡ y
same_ok p = cc

-- a write to the scratch behind the places' bays leaves what lies beyond the memory
pub past_scratch : {X : Type 0} (memory bays work scratch : List X) → memory ≡ bays ++ work → length bays ≡ 5120 → length scratch ≡ 2688 → drop 10240 (bays ++ (scratch ++ drop 2688 work)) ≡ drop 10240 memory
past_scratch {X} memory bays work scratch split front full =
    let past : (zs : List X) → drop 10240 (bays ++ zs) ≡ drop 5120 zs = λ zs. subst (λ n. drop (n + 5120) (bays ++ zs) ≡ drop 5120 zs) front (drop-append-add bays zs 5120) in
    past (scratch ++ drop 2688 work) ∙ drop-append-drop 2688 work scratch 5120 (omega arith) full ∙ sym (past work) ∙ ap (drop 10240) (sym split)

-- if the buffer is as long as before, what was written to its front is as much as was counted
pub front_counted : {X : Type 0} (front out out' : List X) (count : ℕ) → length out' ≡ length out → count ≤ length out → out' ≡ front ++ drop count out → count ≡ length front
front_counted front out out' count kept fits wrote = let whole = ap length wrote ∙ length-append front (drop count out) in omega (arith, whole, length-drop count out)

taken : {X : Type 0} (front out out' : List X) (count : ℕ) → length out' ≡ length out → count ≤ length out → out' ≡ front ++ drop count out → take count out' ≡ front
taken front out out' count kept fits wrote = ap (take count) wrote ∙ take_at front (drop count out) count (sym (front_counted front out out' count kept fits wrote))

module _ {W : Type 0} (k : Kind W) (v : Writing W) (at : Places W) where
  at_found : (T : Place → Type 0) (o : Outcome W) (p : Place) (test : Bool) (q : Option Place) → cond test (Err ShortMemory) (or_none q) ≡ Ok p → T p
      → cond test (o ≡ refused at ShortMemory) (MatchOption q (o ≡ refused at NoPlace) T)
  at_found T o p true q is h = never is
  at_found T o p false None is h = never is
  at_found T o p false (Some r) is h = subst T (sym (same_ok is)) h

  -- what holds at the place that a call names
  pub at_named : (T : Place → Outcome W → Type 0) (p : Place) (memory n : ℕ) {o o' : Outcome W} → Ok p ≡ named memory n → T p o' → o' ≡ o → with_memory k v at memory o (at_place k v at n o (λ q. T q o))
  at_named T p memory n {o} is h same = at_found (λ q. T q o) o p (ltb memory 10240) (place n) (sym is) (subst (T p) same h)

  -- words that are entered, or refused
  module _ (p : Place) (memory n : ℕ) (given : List ℕ) (after : Places W) (is : Ok p ≡ named memory n) where
    pub is_entered : (b : Body W) → SpellsBody v b given → after ≡ put p b at → Rules k v at memory (Enter n given) (came_to (Ok 0) Nothing after)
    is_entered b spells done = at_named (λ q. Enters k v at q given) p memory n is (entered spells) (ap (came_to (Ok 0) Nothing) (sym done))

    pub is_not_entered : (f : Fault) → Refused v given f → after ≡ at → Rules k v at memory (Enter n given) (came_to (Err (NotEntered f)) Nothing after)
    is_not_entered f fault same = at_named (λ q. Enters k v at q given) p memory n is (not_entered fault) (ap (came_to (Err (NotEntered f)) Nothing) (sym same))

  -- entered words are written back
  pub back_again : (memory n : ℕ) (given : List ℕ) (r : Result ℕ Refusal) (after : Places W) → Rules k v at memory (Enter n given) (came_to r Nothing after) → (i : ℕ) → r ≡ Ok i → WritesBack k v after n given
  back_again memory n given r after rules i ok = entered_back k v at memory n i given (came_to r Nothing after) rules ok

  -- a cleared place
  pub cleared : (p : Place) (memory n : ℕ) (after : Places W) → Ok p ≡ named memory n → after ≡ put p blank at → Rules k v at memory (Clear n) (came_to (Ok 0) Nothing after)
  cleared p memory n after is done = at_named (λ q o. o ≡ answers (put q blank at) 0 Nothing) p memory n is refl (ap (came_to (Ok 0) Nothing) (sym done))

  -- the words of a place, written or not
  module _ (p : Place) (memory n : ℕ) (b : Body W) (out out' : List ℕ) (is : Ok p ≡ named memory n) (body : b ≡ at p) where
    pub is_written : (count : ℕ) → length out' ≡ length out → Wrote v (words_of v b) out out' (Ok count) → Rules k v at memory (Write n (length out)) (came_to (Ok count) (Words (take count out')) at)
    is_written count kept (narrow, counted, wrote) =
        let words = words_of v b in
        let same : words_of v (at p) ≡ words = ap (words_of v) (sym body) in
        let fits = ap length wrote ∙ length-append words (drop count out) in
        let room : length words ≤ length out = omega (arith, fits, length-drop count out) in
        let front : words ≡ take count out' = sym (ap (take count) wrote ∙ take_at words (drop count out) count (sym counted)) in
        at_named (λ q. Writes k v at q (length out)) p memory n is (written narrow (subst (λ ws. length ws ≤ length out) (sym same) room))
        (λ i. came_to (Ok ((ap length same ∙ sym counted) i)) (Words ((same ∙ front) i)) at)

    pub is_not_written : (f : WriteFault) → Unwritten v (length (words_of v b)) (length out) f → Rules k v at memory (Write n (length out)) (came_to (Err (NotWritten f)) Nothing at)
    is_not_written TooWide wide = at_named (λ q. Writes k v at q (length out)) p memory n is (too_wide wide) refl
    is_not_written TooShort (narrow, short) =
        at_named (λ q. Writes k v at q (length out)) p memory n is (too_short narrow (subst (λ c. length out < length (words_of v c)) body short)) refl

  -- words that are written enter again
  pub enters_again : AllLimited at → (memory n room : ℕ) (out : List ℕ) (r : Result ℕ Refusal)
      → Rules k v at memory (Write n room) (came_to r (words_out r out) at) → (i : ℕ) → r ≡ Ok i → EntersAs k v at n (take i out)
  enters_again limited memory n room out r rules i ok =
      written_back k v at limited memory n room i (take i out) (came_to r (words_out r out) at) rules ok (ap (λ s. words_out s out) ok)

  -- the cells of a tile of a place, printed or not
  module _ (p : Place) (memory n : ℕ) (b : Body W) (depth digits prefix : ℕ) (out out' : List W) (after : Places W) (is : Ok p ≡ named memory n) (body : b ≡ at p) (same : after ≡ at) where
    pub is_printed : (count : ℕ) → length out' ≡ length out → Printed (picture k b) depth digits prefix out out' count
        → Rules k v at memory (Print n depth digits prefix (length out)) (came_to (Ok count) (Cells (take count out')) after)
    is_printed count kept done =
        let cells = map (picture k b) (tile depth digits prefix) in
        let front = taken cells out out' count kept done.fits done.cells in
        let shown : map (picture k (at p)) (tile depth digits prefix) ≡ take count out' = ap (λ c. map (picture k c) (tile depth digits prefix)) (sym body) ∙ sym front in
        at_named (λ q. Prints k v at q depth digits prefix (length out)) p memory n is (printed done.printable (omega (arith, done.fits, done.counted)))
        (λ i. came_to (Ok (sym done.counted i)) (Cells (shown i)) (sym same i))

    pub is_not_printed : (f : TileFault) → NotTile (picture k b) depth digits prefix out out' f
        → Rules k v at memory (Print n depth digits prefix (length out)) (came_to (Err (NotPrinted f)) Nothing after)
    is_not_printed NoTile (not, kept) =
        at_named (λ q. Prints k v at q depth digits prefix (length out)) p memory n is (no_tile not) (ap (came_to (Err (NotPrinted NoTile)) Nothing) (sym same))
    is_not_printed ShortOutput (printable, short, kept) =
        at_named (λ q. Prints k v at q depth digits prefix (length out)) p memory n is (no_room printable short) (ap (came_to (Err (NotPrinted ShortOutput)) Nothing) (sym same))
