-- What the reader says of its own state, said of the script.
use Rattle.std.proofs.Common.{◌≡◌, ℕ, ◌+◌, ◌<◌, ◌≤◌, List, [], ◌∷◌, ◌++◌, length, get_or, take, drop, Some, sym, ap, ◌∙◌, subst, append_assoc, append-nil, arith}
use Rattle.std.proofs.lemmas.List.{drop_more, drop_all, take_at, take_more, get_or_at}
use Rattle.std.proofs.lemmas.List.{map-append, length-map}
use Rattle.recipe.specs.declared.reader.Reader.{Reader}
use Rattle.recipe.specs.declared.fault.Fault.{Fault}
use Rattle.recipe.specs.declared.fault.Fault.TheVariants.{TooLong, Grammar, Level, Waiting}
use Rattle.recipe.specs.Trees.{script, Tree, blank, text}
use Rattle.recipe.specs.Limits.{plain, counted, Within}
use Rattle.recipe.specs.Devices.Reading.{codes}
use Rattle.recipe.specs.Devices.Machine.{State, begin, run, Blocked, Opens, o_script}
use Rattle.recipe.specs.Devices.Reading.{first, Lost, byte_of}
use Rattle.recipe.specs.Outcomes.{Begins, WithinTo, byte_at, Refused}
use Rattle.recipe.proofs.Walks.{walk, none_begins}
use Rattle.recipe.proofs.Refusals.{spells, first_at}

module _ (a : Reader) (f : Fault) (p : a.pos ≡ 0) (w : a.waiting ≡ 0) (h : Lost script 0 a f) where
  abbrev src : List ℕ
  src = a.src.now

  abbrev i : ℕ
  i = byte_of f

  long : length h.before ≡ i
  long = omega (arith, h.at)

  wide : length (codes h.before) ≡ i
  wide = length-map h.before _ ∙ long

  parts : src ≡ codes h.before ++ drop i src
  parts = ap (λ v. drop v a.src.now) (sym p) ∙ h.split

  front : take i src ≡ codes h.before
  front = ap (take i) parts ∙ take_at (codes h.before) (drop i src) i wide

  is : counted h.tree 0 0 ≡ h.before ++ h.here ∷ h.after
  is = ap (counted h.tree 0) (sym w) ∙ h.is

  word : text h.tree ≡ codes h.before ++ h.here.code ∷ codes h.after
  word = sym (spells h.tree 0 0) ∙ ap codes is ∙ map-append _ h.before (h.here ∷ h.after)

  begins : Begins h.tree src i
  begins = (h.here.code ∷ codes h.after, word ∙ ap (λ v. v ++ h.here.code ∷ codes h.after) (sym front))

  fine : WithinTo h.tree i
  fine = subst Within (sym (ap (take i) is ∙ take_at h.before (h.here ∷ h.after) i long)) h.fine

  here_is : byte_at h.tree i ≡ h.here
  here_is = ap (λ v. get_or v i (plain 0)) is ∙ get_or_at h.before h.here h.after (plain 0) i long

  further : first (drop i src) ≡ Some h.here.code → (i < length src) × Begins h.tree src (i + 1)
  further e =
      let q = first_at src i h.here.code e in
      (q.0, (codes h.after, word ∙ (λ j. sym front j ++ sym q.1 j ∷ codes h.after) ∙ sym (append_assoc (take i src) (get_or src i 0 ∷ []) (codes h.after)) ∙ ap (λ v. v ++ codes h.after) (sym (take_more src i 0 q.0))))

  blocked : ((σ : State) → Opens script σ → Blocked (run σ (codes h.before)) (drop i src)) → Blocked (run (begin blank) (codes h.before)) (drop i src)
  blocked g = g (begin blank) o_script

  no_more : Blocked (run (begin blank) (codes h.before)) (drop i src) → i < length src → (t : Tree script) → Begins t src (i + 1) → ⊥
  no_more g lt t b =
      none_begins (codes h.before) (get_or src i 0) b.0
      (subst (Blocked (run (begin blank) (codes h.before))) (drop_more src i 0 lt) g)
      t
      (b.1 ∙ ap (λ v. v ++ b.0) (take_more src i 0 lt) ∙ append_assoc (take i src) (get_or src i 0 ∷ []) b.0 ∙ ap (λ v. v ++ get_or src i 0 ∷ b.0) front)

  no_end : Blocked (run (begin blank) (codes h.before)) (drop i src) → i ≡ length src → (t : Tree script) → text t ≡ src → ⊥
  no_end g e t b =
      let none : drop i src ≡ [] = drop_all i src (omega arith) in
      subst (Blocked (run (begin blank) (codes h.before))) none g t
      (ap (run (begin blank)) (sym (b ∙ parts ∙ ap (λ v. codes h.before ++ v) none ∙ append-nil (codes h.before))) ∙ walk t)

pub refusal : (a : Reader) (f : Fault) → length a.src.now ≤ 512 → a.pos ≡ 0 → a.waiting ≡ 0 → Lost script 0 a f → Refused a.src.now f
refusal a TooLong le p w h = absurd h.why
refusal a (Grammar n) le p w h =
    let g = blocked a (Grammar n) p w h h.why in (
      le,
      record {
        inside = h.inside;
        tree = h.tree;
        begins = begins a (Grammar n) p w h;
        within = fine a (Grammar n) p w h;
        no_byte = no_more a (Grammar n) p w h g;
        no_end = no_end a (Grammar n) p w h g;
      },
    )
refusal a (Level n) le p w h =
    let q = further a (Level n) p w h h.why.0 in (
      le,
      record {
        inside = q.0;
        tree = h.tree;
        begins = q.1;
        within = fine a (Level n) p w h;
        level = ap (λ v. v.level) (here_is a (Level n) p w h) ∙ h.why.1;
      },
    )
refusal a (Waiting n) le p w h =
    let q = further a (Waiting n) p w h h.why.0 in (
      le,
      record {
        inside = q.0;
        tree = h.tree;
        begins = q.1;
        within = fine a (Waiting n) p w h;
        waiting = ap (λ v. v.waiting) (here_is a (Waiting n) p w h) ∙ h.why.1;
      },
    )
