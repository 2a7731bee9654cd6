-- The pictures of a turn and of a mirror.
use Rattle.std.proofs.Common.{◌≡◌, ℕ, cond, ◌&&◌, eqb, [], ◌∷◌, map, sym, refl, ap, ◌∙◌, ap₂}
use mathlib.Core.Path.{fun_ext}
use Rattle.std.specs.List.{range_with_len}
use Rattle.std.proofs.ByRecursion.{All-map}
use Rattle.weight.specs.Kinds.{Kind, Laws}
use Rattle.weight.specs.Sums.{total}
use Rattle.weight.proofs.Totals.{total_map}
use Rattle.picture.specs.Bodies.{Body, Sound}
use Rattle.picture.specs.BodyOperations.{unturned, redirected_body}
use Rattle.picture.specs.Operations.{turned, mirrored, replaced}
use Rattle.picture.specs.OperationStatements.{Shows, Turns, Mirrors}
use Rattle.picture.specs.Pictures.{picture}
use Rattle.picture.specs.Quadrants.{Address, same}
use Rattle.picture.specs.Steps.{at_state}
use Rattle.picture.specs.declared.quadrant.Quadrant.{Quadrant}
use Rattle.picture.specs.declared.quadrant.Quadrant.TheVariants.{UpperLeft, UpperRight, LowerLeft, LowerRight}
use Rattle.picture.proofs.Embeddings.{Ends, state_value}
use Rattle.picture.proofs.LawsOfPictures.{each_quadrant}
use Rattle.picture.proofs.Values.{value_back}

-- a digit is what g gives of e exactly if f replaces it by e
abbrev pub Replaces : (f g : Quadrant → Quadrant) → Type 0
Replaces f g = (e d : Quadrant) → same d (g e) ≡ same (f d) e

pub turn_replaces : Replaces turned unturned
turn_replaces =
    let at : Quadrant → Quadrant → Type 0 = λ e d. same d (unturned e) ≡ same (turned d) e in
    each_quadrant (λ e. (d : Quadrant) → at e d)
    (each_quadrant (at UpperLeft) refl refl refl refl)
    (each_quadrant (at UpperRight) refl refl refl refl)
    (each_quadrant (at LowerLeft) refl refl refl refl)
    (each_quadrant (at LowerRight) refl refl refl refl)

pub mirror_replaces : Replaces mirrored mirrored
mirror_replaces =
    let at : Quadrant → Quadrant → Type 0 = λ e d. same d (mirrored e) ≡ same (mirrored d) e in
    each_quadrant (λ e. (d : Quadrant) → at e d)
    (each_quadrant (at UpperLeft) refl refl refl refl)
    (each_quadrant (at UpperRight) refl refl refl refl)
    (each_quadrant (at LowerLeft) refl refl refl refl)
    (each_quadrant (at LowerRight) refl refl refl refl)

pub redirected_sound : {W : Type 0} (g : Quadrant → Quadrant) (a : Body W) → Sound a → Sound (redirected_body g a)
redirected_sound g a sound = record { firsts = sound.firsts; lasts = sound.lasts; ends = All-map (Ends a.states) _ a.arcs sound.ends }

module _ {W : Type 0} {k : Kind W} (laws : Laws k) (f g : Quadrant → Quadrant) (u : Replaces f g) (a : Body W) where
  redirected_value : (w : Address) (p : ℕ) → state_value k (redirected_body g a).arcs a.last w p ≡ state_value k a.arcs a.last (map f w) p
  redirected_value [] p = refl
  redirected_value (d ∷ w) p =
      total_map laws _ a.arcs _
      ∙ ap (total k a.arcs) (fun_ext (λ e. ap₂ (λ t y. cond (eqb p e.0.from && t) (k.times e.1 y) k.zero) (u e.0.quadrant d) (redirected_value w e.0.to)))

  pub redirected_shows : Sound a → Shows k (redirected_body g a) (replaced f (picture k a))
  redirected_shows sound w =
      value_back laws (redirected_body g a) (redirected_sound g a sound) _ w
      ∙ ap (total k (range_with_len 0 a.states)) (fun_ext (λ p. ap (k.times (at_state k a.first p)) (redirected_value w p)))
      ∙ sym (value_back laws a sound _ (map f w))

module _ {W : Type 0} {k : Kind W} (laws : Laws k) where
  pub turn_shows : Turns k
  turn_shows = redirected_shows laws turned unturned turn_replaces

  pub mirror_shows : Mirrors k
  mirror_shows = redirected_shows laws mirrored mirrored mirror_replaces
