-- The arcs of one part, beside their weights.
use Rattle.std.proofs.Common.{◌≡◌, ℕ, List, ◌++◌, map, length, sym, ap, ◌∙◌, ap₂, arith}
use Rattle.std.specs.List.{zip, range_with_len}
use Rattle.std.proofs.lemmas.List.FromFn.{length-map-range_with_len, get_or-map-range_with_len, fill_by_all}
use Rattle.std.proofs.lemmas.Slice.Zip.{get_or-zip, length-zip}
use Rattle.weight.specs.Kinds.{Kind}
use Rattle.picture.specs.Bodies.{Body}
use Rattle.picture.specs.BodyOperations.{raised_arc, raised}
use Rattle.picture.specs.Steps.{at_state}
use Rattle.picture.specs.declared.body.Arc.{Arc}
use Rattle.picture.specs.declared.quadrant.Quadrant.{Quadrant}
use Rattle.compose.proofs.Zipped.{zipped_append, zipped_map}
use Rattle.piece.specs.Parts.{entry_arc, part_arcs}

module _ {W : Type 0} (k : Kind W) (s : ℕ) (d : Quadrant) where
  zipped_entries : (n : ℕ) (ws : List W) → length ws ≡ n → zip (map (entry_arc s d) (range_with_len 0 n)) ws ≡ map (λ q. (entry_arc s d q, at_state k ws q)) (range_with_len 0 n)
  zipped_entries n ws l =
      let long = length-map-range_with_len (entry_arc s d) 0 n in
      fill_by_all (λ q. (entry_arc s d q, at_state k ws q)) (zip (map (entry_arc s d) (range_with_len 0 n)) ws) n (entry_arc s d 0, k.zero)
      (length-zip (map (entry_arc s d) (range_with_len 0 n)) ws ∙ omega arith)
      (λ q h.
      get_or-zip (map (entry_arc s d) (range_with_len 0 n)) ws q (entry_arc s d 0, k.zero) (omega arith) (omega arith)
      ∙ ap (λ a. (a, at_state k ws q)) (get_or-map-range_with_len (entry_arc s d) 0 n q q (entry_arc s d 0) h (omega arith)))

  pub part_arcs_are : (b : Body W) (xs es os : List Arc) (vs ws : List W) → length b.first ≡ b.states → zip xs vs ≡ b.arcs
      → es ≡ map (entry_arc s d) (range_with_len 0 b.states) → os ≡ map (raised_arc s) xs → ws ≡ b.first ++ vs → zip (es ++ os) ws ≡ part_arcs k s d b
  part_arcs_are b xs es os vs ws long are ee eo ew =
      ap₂ zip (ap₂ ◌++◌ ee eo) ew
      ∙ zipped_append (map (entry_arc s d) (range_with_len 0 b.states)) (map (raised_arc s) xs) b.first vs (length-map-range_with_len (entry_arc s d) 0 b.states ∙ sym long)
      ∙ ap₂ ◌++◌ (zipped_entries b.states b.first long) (zipped_map (raised_arc s) xs vs ∙ ap (map (raised s)) are)
