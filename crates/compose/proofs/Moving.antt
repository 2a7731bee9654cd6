-- The record of a turned or mirrored body.
use Rattle.std.proofs.Common.{◌≡◌, ℕ, ◌+◌, ◌-◌, List, map, length, sym, ap, ◌∙◌, subst, arith}
use Rattle.std.specs.List.{zip, between, AllByRecursion}
use Rattle.std.proofs.ByRecursion.{All-map}
use Rattle.std.proofs.lemmas.List.{length-map}
use Rattle.std.proofs.lemmas.Slice.{between-put_mid}
use Rattle.picture.specs.Bodies.{Within}
use Rattle.picture.specs.BodyOperations.{redirected, redirected_body}
use Rattle.picture.specs.Stored.{stored, Kept}
use Rattle.picture.specs.declared.body.Arc.{Arc}
use Rattle.picture.specs.declared.body.Record.{Record}
use Rattle.picture.specs.declared.quadrant.Quadrant.{Quadrant}
use Rattle.compose.proofs.Zipped.{zipped_map}
use borrow.Rule.Slice.PartMut.{put_mid}

-- the first n arcs of a record, all that it counts, are replaced
module _ (r : Record) (kept : Kept r) (n : ℕ) (en : n ≡ r.count) (count : length (between 0 r.count r.arcs) ≡ r.count)
    (g : Quadrant → Quadrant) (made : List Arc) (is : made ≡ map (redirected g) (between 0 n r.arcs)) where
  abbrev after : Record
  after = record { states = r.states; count = r.count; arcs = put_mid 0 (n - 0) r.arcs made }

  front : between 0 r.count after.arcs ≡ map (redirected g) (between 0 r.count r.arcs)
  front =
      let all : made ≡ map (redirected g) (between 0 r.count r.arcs) = is ∙ ap (λ m. map (redirected g) (between 0 m r.arcs)) en in
      let long : length made ≡ r.count = ap length all ∙ length-map (between 0 r.count r.arcs) (redirected g) ∙ count in
      between-put_mid 0 _ r.arcs made r.count (omega arith) (omega arith) ∙ all

  pub moved_kept : Kept after
  moved_kept = record {
    few_states = kept.few_states;
    few_arcs = kept.few_arcs;
    ends = subst (AllByRecursion (Within r.states)) (sym front) (All-map (Within r.states) (redirected g) _ kept.ends);
  }

  pub moved_stored : {W : Type 0} (mem out : List W) → out ≡ mem → stored after out ≡ redirected_body g (stored r mem)
  moved_stored mem out e =
      let arcs = ap (λ zs. zip zs (between 128 (128 + r.count) mem)) front ∙ zipped_map (redirected g) (between 0 r.count r.arcs) (between 128 (128 + r.count) mem) in
      ap (stored after) e ∙ (λ i. record { states = r.states; first = between 0 r.states mem; last = between 64 (64 + r.states) mem; arcs = arcs i })
