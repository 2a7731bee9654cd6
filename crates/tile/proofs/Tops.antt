-- A row taken along a prefix, and the cells below it.
use Rattle.std.proofs.Common.{◌≡◌, ℕ, suc, ◌+◌, ◌-◌, ◌*◌, ◌/◌, ◌%◌, ◌^◌, ◌<◌, List, [], ◌∷◌, ◌++◌, map, length, take, sym, refl, ap, ◌∙◌, ap₂, arith, pow-add}
use mathlib.Core.Path.{fun_ext}
use mathlib.Core.List.{map-append, map-map}
use Rattle.std.specs.List.{range_with_len, flat_map}
use Rattle.weight.specs.Kinds.{Kind, Laws}
use Rattle.picture.specs.Bodies.{Body, Sound}
use Rattle.picture.specs.Cells.{cell, base_four, row_of_cells, cells_below}
use Rattle.picture.specs.Pictures.{value, picture}
use Rattle.picture.specs.Quadrants.{Address, named}
use Rattle.picture.specs.Steps.{at_state, stepped}
use Rattle.picture.proofs.Carries.{value_stepped}
use Rattle.tile.specs.Bands.{cells_in_row}
use Rattle.tile.proofs.Joins.{joined_product}
use Rattle.tile.proofs.Squares.{all_written}

module _ {W : Type 0} {k : Kind W} (laws : Laws k) (b : Body W) (sound : Sound b) where
  -- one digit more of a prefix
  pub follow_more : (row next : List W) (left p : ℕ) (r : Address → W) → 0 < left → next ≡ stepped k b.arcs b.states row (named (p / 4 ^ (left - 1) % 4))
      → ((w : Address) → value k b (at_state k row) (base_four left p ++ w) ≡ r w)
      → (w : Address) → value k b (at_state k next) (base_four (left - 1) p ++ w) ≡ r w
  follow_more row next left p r h e inv w =
      let f : suc (left - 1) ≡ left = omega arith in
      value_stepped laws b sound row next _ e (base_four (left - 1) p ++ w) ∙ ap (λ j. value k b (at_state k row) (base_four j p ++ w)) f ∙ inv w

-- all bands are all rows
pub bands_all : {W : Type 0} (row : ℕ → List W) (c f y count size : ℕ) (cells : List W) → y ≡ count → count ≡ 2 ^ c → size ≡ 2 ^ f * 2 ^ (c + f) → length cells ≡ 2 ^ c * (2 ^ f * 2 ^ (c + f))
    → take (y * size) cells ≡ flat_map (λ y. flat_map (λ i. row (y * 2 ^ f + i)) (range_with_len 0 (2 ^ f))) (range_with_len 0 y) → cells ≡ flat_map row (range_with_len 0 (2 ^ (c + f)))
bands_all row c f y count size cells ey ec es l h =
    all_written _ (2 ^ c) (2 ^ f * 2 ^ (c + f)) cells l
    (ap₂ (λ m s. take (m * s) cells) (sym (ey ∙ ec)) (sym es) ∙ h ∙ ap (λ m. flat_map (λ y. flat_map (λ i. row (y * 2 ^ f + i)) (range_with_len 0 (2 ^ f))) (range_with_len 0 m)) (ey ∙ ec))
    ∙ joined_product row (2 ^ f) (2 ^ c)
    ∙ ap (λ m. flat_map row (range_with_len 0 m)) (sym (pow-add 2 c f))

map_joined : {A B C : Type 0} (f : B → C) (g : A → List B) (xs : List A) → map f (flat_map g xs) ≡ flat_map (λ x. map f (g x)) xs
map_joined f g [] = refl
map_joined f g (x ∷ xs) = map-append f (g x) (flat_map g xs) ∙ ap (λ zs. map f (g x) ++ zs) (map_joined f g xs)

-- below the row along a prefix lie the picture's cells below the prefix
module _ {W : Type 0} (k : Kind W) (b : Body W) (row : List W) (u : Address) (depth : ℕ) (h : (w : Address) → value k b (at_state k row) w ≡ picture k b (u ++ w)) where
  pub row_is : (y : ℕ) → cells_in_row k b row depth y ≡ map (picture k b) (row_of_cells u depth y)
  row_is y =
      ap (λ v. map (λ x. v (cell depth x y)) (range_with_len 0 (2 ^ depth))) (fun_ext h)
      ∙ sym (map-map (picture k b) (λ x. u ++ cell depth x y) (range_with_len 0 (2 ^ depth)))

  pub tile_is : (cells : List W) → cells ≡ flat_map (cells_in_row k b row depth) (range_with_len 0 (2 ^ depth)) → cells ≡ map (picture k b) (cells_below u depth)
  tile_is cells e =
      e ∙ ap (λ g. flat_map g (range_with_len 0 (2 ^ depth))) (fun_ext row_is)
      ∙ sym (map_joined (picture k b) (row_of_cells u depth) (range_with_len 0 (2 ^ depth)))
