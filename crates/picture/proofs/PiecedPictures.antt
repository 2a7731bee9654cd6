-- The picture of a piecing.
use Rattle.std.proofs.Common.{◌≡◌, ℕ, ◌+◌, ◌<◌, ◌≤◌, Bool, true, false, cond, List, [], ◌∷◌, ◌++◌, map, length, replicate, sym, refl, ap, ◌∙◌, ap₂, one-add, arith}
use Rattle.std.specs.List.{range_with_len, flat_map, AllByRecursion}
use Rattle.std.proofs.lemmas.List.{length-append, length-replicate, append_assoc, get_or_append_left, get_or-append-add, get_or-replicate}
use Rattle.std.proofs.ByRecursion.{All-weaker, All-append, All-map}
use Rattle.std.proofs.lemmas.Bool.{ne_eqb}
use Rattle.weight.specs.Kinds.{Kind, Laws}
use Rattle.weight.specs.Sums.{total}
use Rattle.weight.proofs.Totals.{zero_plus, total_append, total_map, total_zero}
use Rattle.picture.specs.Bodies.{Body, Edge, Sound}
use Rattle.picture.specs.BodyOperations.{arc_from, raised, Part, parts, states_of, entries, pieced_arcs, pieced_body}
use Rattle.picture.specs.Operations.{whole_value}
use Rattle.picture.specs.OperationStatements.{Piecings}
use Rattle.picture.specs.Pictures.{picture}
use Rattle.picture.specs.Quadrants.{Address, same}
use Rattle.picture.specs.Steps.{spread, at_state}
use Rattle.picture.specs.declared.quadrant.Quadrant.{Quadrant}
use Rattle.picture.specs.declared.quadrant.Quadrant.TheVariants.{UpperLeft, UpperRight, LowerLeft, LowerRight}
use Rattle.picture.proofs.Embeddings.{Ends, Away, state_value, all_raised, total_none, away_none, part_value}
use Rattle.picture.proofs.States.{all_below, total_below}
use Rattle.picture.proofs.StateSums.{total_states_add}
use Rattle.picture.proofs.Values.{value_back}

abbrev Sounds : {W : Type 0} → List (Part W) → Type 0
Sounds ps = AllByRecursion (λ p. Sound p.1) ps

module _ {W : Type 0} (k : Kind W) (P : Edge W → Type 0) where
  all_entries : (s : ℕ) (p : Part W) → ((q : ℕ) → q < p.1.states → P (arc_from 0 (s + q) p.0, at_state k p.1.first q)) → AllByRecursion P (entries k s p)
  all_entries s p h = All-map P _ (range_with_len 0 p.1.states) (All-weaker (λ q. q < p.1.states) _ h _ (all_below p.1.states))

  -- what holds of the arcs that enter the states from s on, and of the arcs that leave them
  all_pieced : (s m : ℕ) (ps : List (Part W)) → Sounds ps → s + states_of ps ≤ m
      → ((q : ℕ) (d : Quadrant) (x : W) → s ≤ q → q < m → P (arc_from 0 q d, x))
      → ((e : Edge W) → s ≤ e.0.from → e.0.from < m → e.0.to < m → P e)
      → AllByRecursion P (pieced_arcs k s ps)
  all_pieced s m [] sound h f g = tt
  all_pieced s m (p ∷ ps) sound h f g =
      All-append P (entries k s p) _
      (all_entries s p (λ q l. f (s + q) p.0 (at_state k p.1.first q) (omega arith) (omega arith)))
      (All-append P (map (raised s) p.1.arcs) _
      (all_raised P s p.1.states p.1.arcs sound.0.ends (λ e x. g (raised s e) (omega arith) (omega (arith, x.0)) (omega (arith, x.1))))
      (all_pieced (s + p.1.states) m ps sound.1 (omega arith) (λ q d x l r. f q d x (omega arith) r) (λ e l r t. g e (omega arith) r t)))

length_lasts : {W : Type 0} (ps : List (Part W)) → Sounds ps → length (flat_map (λ p. p.1.last) ps) ≡ states_of ps
length_lasts [] sound = refl
length_lasts (p ∷ ps) sound = length-append p.1.last _ ∙ ap₂ ◌+◌ sound.0.lasts (length_lasts ps sound.1)

sounds : {W : Type 0} (f : Quadrant → Body W) → ((d : Quadrant) → Sound (f d)) → Sounds (parts f)
sounds f sound = (sound UpperLeft, (sound UpperRight, (sound LowerLeft, (sound LowerRight, tt))))

pub pieced_sound : {W : Type 0} (k : Kind W) (f : Quadrant → Body W) → ((d : Quadrant) → Sound (f d)) → Sound (pieced_body k f)
pieced_sound k f sound = record {
  firsts = omega (arith, length-replicate (states_of (parts f)) k.zero);
  lasts = omega (arith, length_lasts (parts f) (sounds f sound));
  ends =
      all_pieced k (Ends (1 + states_of (parts f))) 1 (1 + states_of (parts f)) (parts f) (sounds f sound) (omega arith)
      (λ q d x l h. (omega arith, h)) (λ e l h r. (h, r));
}

module _ {W : Type 0} {k : Kind W} (laws : Laws k) where
  total_cond_all : {A : Type 0} (t : Bool) (xs : List A) (f : A → W) → total k xs (λ x. cond t (f x) k.zero) ≡ cond t (total k xs f) k.zero
  total_cond_all true xs f = refl
  total_cond_all false xs f = total_zero laws xs

  -- what state 0 leads to, by the parts
  spread_parts : (arcs : List (Edge W)) (last : List W) (d : Quadrant) (w : Address) (ps : List (Part W)) → Sounds ps
      → (s : ℕ) (xs : List (Edge W)) (ls : List W) → 0 < s → AllByRecursion (λ e. e.0.from < s) xs → length ls ≡ s
      → arcs ≡ xs ++ pieced_arcs k s ps → last ≡ ls ++ flat_map (λ p. p.1.last) ps
      → spread k (pieced_arcs k s ps) (state_value k arcs last w) d 0 ≡ total k ps (λ p. cond (same d p.0) (picture k p.1 w) k.zero)
  spread_parts arcs last d w [] sound s xs ls pos hx hl ea el = refl
  spread_parts arcs last d w (p ∷ ps) sound s xs ls pos hx hl ea el =
      total_append laws enter (own ++ rest) _
      ∙ ap₂ k.plus
      (total_map laws _ (range_with_len 0 n) _
      ∙ total_cond_all (same d p.0) (range_with_len 0 n) _
      ∙ ap (λ x. cond (same d p.0) x k.zero)
      (total_below laws n _ _ (λ q h. ap (k.times (at_state k p.1.first q)) (inside q h)) ∙ sym (value_back laws p.1 sound.0 _ w)))
      (total_append laws own rest _
      ∙ ap₂ k.plus (away_none laws 0 1 own _ d 0 (omega arith) (all_raised (Away 0 1) s n p.1.arcs sound.0.ends (λ e x q h. ne_eqb _ _ (λ same. omega arith)))) refl
      ∙ zero_plus laws _
      ∙ spread_parts arcs last d w ps sound.1 (s + n) (xs ++ (enter ++ own)) (ls ++ p.1.last) (omega arith)
      (All-append (λ e. e.0.from < s + n) xs _
      (All-weaker (λ e. e.0.from < s) (λ e. e.0.from < s + n) (λ e x. omega (arith, x)) xs hx)
      (All-append (λ e. e.0.from < s + n) enter _
      (all_entries k (λ e. e.0.from < s + n) s p (λ q h. omega arith))
      (all_raised (λ e. e.0.from < s + n) s n p.1.arcs sound.0.ends (λ e x. omega (arith, x.0)))))
      (length-append ls p.1.last ∙ ap₂ ◌+◌ hl sound.0.lasts)
      (ea ∙ simp append_assoc) (el ∙ sym (append_assoc ls p.1.last _)))
    where
      n : ℕ
      n = p.1.states

      enter : List (Edge W)
      enter = entries k s p

      own : List (Edge W)
      own = map (raised s) p.1.arcs

      rest : List (Edge W)
      rest = pieced_arcs k (s + p.1.states) ps

      inside : (q : ℕ) → q < p.1.states → state_value k arcs last w (s + q) ≡ state_value k p.1.arcs p.1.last w q
      inside =
          part_value laws p.1 sound.0 s arcs (xs ++ entries k s p) (pieced_arcs k (s + p.1.states) ps) last
          (ea ∙ sym (append_assoc xs (entries k s p) _))
          (All-append (Away s p.1.states) xs _
          (All-weaker (λ e. e.0.from < s) (Away s p.1.states) (λ e x q h. ne_eqb _ _ (λ same. omega (arith, x))) xs hx)
          (all_entries k (Away s p.1.states) s p (λ q h r l. ne_eqb _ _ (λ same. omega arith))))
          (all_pieced k (Away s p.1.states) (s + p.1.states) (s + p.1.states + states_of ps) ps sound.1 (omega arith)
          (λ r e x l h q t. ne_eqb _ _ (λ same. omega arith)) (λ e l h j q t. ne_eqb _ _ (λ same. omega arith)))
          (λ q h. ap (λ l. at_state k l (s + q)) el ∙ ap (λ i. at_state k (ls ++ (p.1.last ++ flat_map (λ p. p.1.last) ps)) (i + q)) (sym hl)
          ∙ get_or-append-add ls _ q k.zero ∙ get_or_append_left p.1.last _ k.zero q (omega (arith, sound.0.lasts)))
          w

  -- only state 0 has a first weight
  pieced_start : (f : Quadrant → Body W) → ((d : Quadrant) → Sound (f d)) → (w : Address) → picture k (pieced_body k f) w ≡ state_value k (pieced_body k f).arcs (pieced_body k f).last w 0
  pieced_start f sound w =
      value_back laws (pieced_body k f) (pieced_sound k f sound) _ w
      ∙ total_states_add laws 1 (states_of (parts f)) _
      ∙ ap₂ k.plus (laws.plus_zero _ ∙ laws.one_times _)
      (total_none laws (λ q. q < states_of (parts f)) (range_with_len 0 (states_of (parts f))) _ (all_below (states_of (parts f)))
      (λ q h. ap₂ k.times (ap (at_state k (k.one ∷ replicate (states_of (parts f)) k.zero)) (one-add q) ∙ get_or-replicate _ q k.zero k.zero h) refl ∙ laws.zero_times _))
      ∙ laws.plus_zero _

  one_part : (x : Quadrant → W) (d : Quadrant) → k.plus (cond (same d UpperLeft) (x UpperLeft) k.zero) (k.plus (cond (same d UpperRight) (x UpperRight) k.zero) (k.plus (cond (same d LowerLeft) (x LowerLeft) k.zero) (k.plus (cond (same d LowerRight) (x LowerRight) k.zero) k.zero))) ≡ x d
  one_part x UpperLeft = simp (zero_plus laws, laws.plus_zero)
  one_part x UpperRight = simp (zero_plus laws, laws.plus_zero)
  one_part x LowerLeft = simp (zero_plus laws, laws.plus_zero)
  one_part x LowerRight = simp (zero_plus laws, laws.plus_zero)

  pub pieced_shows : Piecings k
  pieced_shows f sound [] = pieced_start f sound []
  pieced_shows f sound (d ∷ w) =
      pieced_start f sound (d ∷ w)
      ∙ spread_parts _ _ d w (parts f) (sounds f sound) 1 [] (whole_value k ∷ []) (omega arith) tt refl refl refl
      ∙ one_part (λ d. picture k (f d) w) d
