-- A line of cells, each a row times a column, is a row of the picture.
use Rattle.std.proofs.Common.{◌≡◌, ℕ, zero, suc, ◌+◌, ◌*◌, ◌/◌, ◌^◌, ◌<◌, ◌≤◌, List, ◌∷◌, ◌++◌, map, length, sym, refl, ap, ◌∙◌, ap₂, arith}
use Rattle.std.specs.List.{range_with_len}
use Rattle.weight.specs.Kinds.{Kind, Laws}
use Rattle.picture.specs.Bodies.{Body, Edge, Sound}
use Rattle.picture.specs.Cells.{cell, base_four}
use Rattle.picture.specs.Pictures.{value}
use Rattle.picture.specs.Steps.{at_state, carried, backed}
use Rattle.picture.proofs.Carries.{length_carried, length_backed, value_meets}
use Rattle.tile.specs.Bands.{slot, meeting, rows_along, columns_along, interleaved, cells_in_row}
use Rattle.tile.proofs.Grids.{interleaved_below, prefix_interleaved, cell_split, coarse_below}
use Rattle.tile.proofs.Joins.{length_joined, slot_joined}

pub length_columns : {W : Type 0} (k : Kind W) (arcs : List (Edge W)) (n : ℕ) (column columns : List W) (l : ℕ) → length column ≡ n → columns ≡ columns_along k arcs n column l → length columns ≡ 4 ^ l * n
length_columns k arcs n column columns l long e = ap length e ∙ length_joined _ n (4 ^ l) (λ i h. length_backed k arcs n (base_four l i) column long)

map_from : {W : Type 0} (f g : ℕ → W) (a n : ℕ) → ((i : ℕ) → a ≤ i → i < a + n → f i ≡ g i) → map f (range_with_len a n) ≡ map g (range_with_len a n)
map_from f g a zero e = refl
map_from f g a (suc n) e = ap₂ ◌∷◌ (e a (omega arith) (omega arith)) (map_from f g (a + 1) n (λ i h l. e i (omega arith) (omega arith)))

pub map_below : {W : Type 0} (f g : ℕ → W) (n : ℕ) → ((i : ℕ) → i < n → f i ≡ g i) → map f (range_with_len 0 n) ≡ map g (range_with_len 0 n)
map_below f g n e = map_from f g 0 n (λ i h l. e i (omega arith))

module _ {W : Type 0} {k : Kind W} (laws : Laws k) (b : Body W) (sound : Sound b) (row : List W) (long : length row ≡ b.states) (c f y : ℕ) where
  pub line_is : (rows columns xs : List W) (z : ℕ) → f ≤ 2 → z / 2 ^ f ≡ y
      → rows ≡ rows_along k b.arcs b.states row c y → columns ≡ columns_along k b.arcs b.states b.last f
      → xs ≡ map (λ x. meeting k b.states (slot b.states (x / 2 ^ f) rows) (slot b.states (interleaved f x z) columns)) (range_with_len 0 (2 ^ (c + f)))
      → xs ≡ cells_in_row k b row (c + f) z
  line_is rows columns xs z few e er ec ex =
      ex ∙ map_below _ _ (2 ^ (c + f)) (λ x h.
      ap₂ (meeting k b.states)
      (ap (slot b.states (x / 2 ^ f)) er
      ∙ slot_joined (λ x. carried k b.arcs b.states (cell c x y) row) b.states (2 ^ c) (x / 2 ^ f) (λ i l. length_carried k b.arcs b.states (cell c i y) row long) (coarse_below c f x h))
      (ap (slot b.states (interleaved f x z)) ec
      ∙ slot_joined (λ i. backed k b.arcs b.states (base_four f i) b.last) b.states (4 ^ f) (interleaved f x z) (λ i l. length_backed k b.arcs b.states (base_four f i) b.last sound.lasts) (interleaved_below f x z)
      ∙ ap (λ w. backed k b.arcs b.states w b.last) (prefix_interleaved f x z few))
      ∙ value_meets laws b sound (cell c (x / 2 ^ f) y) (cell f x z) row
      ∙ ap (value k b (at_state k row)) (ap (λ v. cell c (x / 2 ^ f) v ++ cell f x z) (sym e) ∙ cell_split c f x z))
