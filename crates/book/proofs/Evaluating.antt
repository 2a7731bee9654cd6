-- The body of a right side has the picture that the right side means.
use Rattle.std.proofs.Common.{◌≡◌, ℕ, ◌≤◌, Bool, true, false, cond, ltb, [], ◌∷◌, map, length, Some, None, Ok, Err, Result, sym, refl, ◌∙◌, subst, ap₂}
use Rattle.std.proofs.lemmas.List.{length-map}
use Rattle.std.proofs.lemmas.Bool.{ltb-false}
use Rattle.weight.specs.Kinds.{Kind, Laws}
use Rattle.picture.specs.Bodies.{Body, Sound}
use Rattle.picture.specs.BodyOperations.{sum_body, product_body, unturned, redirected_body, zoomed_body, pieced_body}
use Rattle.picture.specs.Operations.{four, mirrored, turned, pieced_picture}
use Rattle.picture.specs.OperationStatements.{Shows}
use Rattle.picture.specs.Pictures.{Picture, picture}
use Rattle.picture.specs.Quadrants.{Address}
use Rattle.picture.specs.declared.quadrant.Quadrant.{Quadrant}
use Rattle.picture.proofs.DigitPictures.{redirected_sound, turn_shows, mirror_shows}
use Rattle.picture.proofs.LawsOfPictures.{each_quadrant}
use Rattle.picture.proofs.PiecedPictures.{pieced_sound, pieced_shows}
use Rattle.picture.proofs.ProductPictures.{product_sound, product_shows}
use Rattle.picture.proofs.SumPictures.{sum_sound, sum_shows}
use Rattle.picture.proofs.ZoomPictures.{zoom_sound, zoom_shows}
use Rattle.compose.specs.Faults.{over_limit}
use Rattle.compose.specs.declared.limits.Fault.TheVariants.{NoExchange, ManyStates, ManyArcs}
use Rattle.words.specs.Format.{Limited}
use Rattle.recipe.specs.Expressions.{Expression, Named, Turned, Mirrored, Zoomed, Sum, Product, Pieced}
use Rattle.recipe.specs.Evaluations.{then, value}
use Rattle.stack.specs.Drawing.{unless, drawing}
use Rattle.stack.specs.declared.fault.StepFault.{StepFault}
use Rattle.book.specs.Calls.{Places}
use Rattle.book.specs.Meanings.{Book, meaning}
use Rattle.book.specs.Statements.{AllLimited}

-- the book in which each place has the picture of its body
abbrev pub pictures : {W : Type 0} → Kind W → Places W → Book W
pictures k at p = picture k (at p)

module _ {W : Type 0} (k : Kind W) where
  -- a body that may stand at a place, with the picture f
  pub record Draws (f : Picture W) (b : Body W) : Type 0 where
    pub limited : Limited b
    pub shows : Shows k b f

  -- a result, if there is one, draws f
  pub data Means (f : Picture W) : Result (Body W) StepFault → Type 0 where
    gives : {b : Body W} → Draws f b → Means f (Ok b)
    stops : {s : StepFault} → Means f (Err s)

  then_means : {f g : Picture W} {r : Result (Body W) StepFault} (c : Body W → Result (Body W) StepFault) → Means f r → ((b : Body W) → Draws f b → Means g (c b)) → Means g (then r c)
  then_means c (gives {b} h) on = on b h
  then_means c stops on = stops

  within : {f : Picture W} (i : ℕ) (b : Body W) → Sound b → Shows k b f → (s t : Bool) → ltb 64 b.states ≡ s → ltb 512 (length b.arcs) ≡ t
      → Means f (unless (cond s (Some ManyStates) (cond t (Some ManyArcs) None)) i b)
  within i b sound is true t p q = stops
  within i b sound is false true p q = stops
  within i b sound is false false p q = gives (record { limited = record { few_states = ltb-false _ _ p; few_arcs = ltb-false _ _ q; sound = sound }; shows = is })

  -- a body whose limits are looked at
  limits_mean : {f : Picture W} (i : ℕ) (b : Body W) → Sound b → Shows k b f → Means f (unless (over_limit b) i b)
  limits_mean i b sound is = within i b sound is _ _ refl refl

  exchange_means : {f : Picture W} (i : ℕ) (b : Body W) (t : Bool) → k.exchanges ≡ t → (k.exchanges ≡ true → Means f (unless (over_limit b) i b)) → Means f (unless (cond t (over_limit b) (Some NoExchange)) i b)
  exchange_means i b true e h = h e
  exchange_means i b false e h = stops

  redirected_limited : (g : Quadrant → Quadrant) (b : Body W) → Limited b → Limited (redirected_body g b)
  redirected_limited g b h = record {
    few_states = h.few_states;
    few_arcs = subst (λ n. n ≤ 512) (sym (length-map b.arcs _)) h.few_arcs;
    sound = redirected_sound g b h.sound;
  }

  zoomed_limited : (d : Quadrant) (b : Body W) → Limited b → Limited (zoomed_body k d b)
  zoomed_limited d b h = record { few_states = h.few_states; few_arcs = h.few_arcs; sound = zoom_sound k d b h.sound }

  -- equal parts piece to the same picture
  pieces_same : (f g : Quadrant → Picture W) → ((e : Quadrant) (w : Address) → f e w ≡ g e w) → (w : Address) → pieced_picture k f w ≡ pieced_picture k g w
  pieces_same f g h [] = refl
  pieces_same f g h (d ∷ w) = h d w

  module _ (laws : Laws k) (at : Places W) (limited : AllLimited at) where
    pub means : (f : Expression) → Means (meaning k (pictures k at) f) (value (drawing k) at f)
    means (Named p) = gives (record { limited = limited p; shows = λ w. refl })
    means (Turned f) =
        then_means _ (means f) (λ b h. gives (record { limited = redirected_limited unturned b h.limited; shows = λ w. turn_shows laws b h.limited.sound w ∙ h.shows (map turned w) }))
    means (Mirrored f) =
        then_means _ (means f) (λ b h. gives (record { limited = redirected_limited mirrored b h.limited; shows = λ w. mirror_shows laws b h.limited.sound w ∙ h.shows (map mirrored w) }))
    means (Zoomed d f) =
        then_means _ (means f) (λ b h. gives (record { limited = zoomed_limited d b h.limited; shows = λ w. zoom_shows laws d b h.limited.sound w ∙ h.shows (d ∷ w) }))
    means (Sum i f g) =
        then_means _ (means f) (λ a x.
        then_means _ (means g) (λ b y.
        limits_mean i (sum_body a b) (sum_sound a b x.limited.sound y.limited.sound)
        (λ w. sum_shows laws a b x.limited.sound y.limited.sound w ∙ ap₂ k.plus (x.shows w) (y.shows w))))
    means (Product i f g) =
        then_means _ (means f) (λ a x.
        then_means _ (means g) (λ b y.
        exchange_means i (product_body k a b) k.exchanges refl (λ e.
        limits_mean i (product_body k a b) (product_sound k a b x.limited.sound y.limited.sound)
        (λ w. product_shows laws e a b x.limited.sound y.limited.sound w ∙ ap₂ k.times (x.shows w) (y.shows w)))))
    means (Pieced i x y z u) =
        then_means _ (means x) (λ a p.
        then_means _ (means y) (λ b q.
        then_means _ (means z) (λ c r.
        then_means _ (means u) (λ d s.
        let sounds : (e : Quadrant) → Sound (four a b c d e) =
        each_quadrant (λ e. Sound (four a b c d e)) p.limited.sound q.limited.sound r.limited.sound s.limited.sound in
        limits_mean i (pieced_body k (four a b c d)) (pieced_sound k (four a b c d) sounds)
        (λ w. pieced_shows laws (four a b c d) sounds w ∙ pieces_same _ _ (each_quadrant (λ e. (v : Address) → picture k (four a b c d e) v ≡ four (meaning k (pictures k at) x) (meaning k (pictures k at) y) (meaning k (pictures k at) z) (meaning k (pictures k at) u) e v) p.shows q.shows r.shows s.shows) w)))))
