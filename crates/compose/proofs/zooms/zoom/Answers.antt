use Rattle.std.proofs.Common.{◌≡◌, ◌<◌, ◌-◌, length, sym, refl, ap, ◌∙◌, ap₂, subst, arith}
use borrow.Rule.Slice.PartMut.{put_mid}
use Rattle.std.specs.List.{zip, between, AllByRecursion}
use Rattle.std.proofs.ByRecursion.{All-weaker}
use Rattle.std.proofs.lemmas.List.Edits.{length-between}
use Rattle.std.proofs.lemmas.List.FromFn.{length-map-range_with_len}
use Rattle.picture.specs.BodyOperations.{zoomed_body}
use Rattle.picture.specs.Lent.{lent}
use Rattle.picture.specs.Pictures.{picture}
use Rattle.picture.specs.Steps.{stepped}
use Rattle.picture.specs.Stored.{stored}
use Rattle.picture.proofs.Embeddings.{Ends}
use Rattle.picture.proofs.Storing.{lent_sound, lent_arcs}
use Rattle.picture.proofs.ZoomPictures.{zoom_shows}
use Rattle.compose.proofs.Written.{firsts_made}
use Rattle.compose.proofs.zooms.zoom.Goals as goal

pub advance-requires : goal.advance-requires
advance-requires g c =
    let a = c.args.a in
    let sound = lent_sound a in
    let first = c.first.result.now in
    let arcs = lent_arcs a c.arcs.result.now c.arc_weights.result.now c.arcs.ensures.arcs c.arc_weights.ensures.arcs in
    let long : length first ≡ a.record.now.states = c.first.ensures.count in
    subst (AllByRecursion (λ e. e.0.from < length first)) (sym arcs) (All-weaker (Ends a.record.now.states) _ (λ e x. subst (λ n. e.0.from < n) (sym long) x.0) _ sound.ends)

pub returns : goal.returns
returns g c =
    let k = g.W.Weight.kind in
    let a = c.args.a in
    let r = a.record.now in
    let mem = a.weights.now in
    let few = a.kept.few_states in
    let room = a.room in
    let out = c.copy_from_slice.new.self in
    let n = c.states-n.result in
    let en : n ≡ r.states = c.states-n.ensures in
    let long : length out ≡ 640 = ap length c.copy_from_slice.ensures.after ∙ a.room in
    let arcs = lent_arcs a c.arcs.result.now c.arc_weights.result.now c.arcs.ensures.arcs c.arc_weights.ensures.arcs in
    let row : c.advance.new.next ≡ stepped k (zip c.arcs.result.now c.arc_weights.result.now) (length (between 0 n out)) c.first.result.now c.args.quadrant = c.advance.ensures in
    let wide : length (between 0 n out) ≡ r.states = length-between out 0 n (omega arith) ∙ omega arith in
    let first : c.advance.new.next ≡ (zoomed_body k c.args.quadrant (lent a)).first =
    row ∙ ap₂ (λ es s. stepped k es s c.first.result.now c.args.quadrant) arcs wide ∙ ap (λ xs. stepped k (lent a).arcs r.states xs c.args.quadrant) c.first.ensures.first in
    let body : stored r (put_mid 0 (n - 0) out c.advance.new.next) ≡ zoomed_body k c.args.quadrant (lent a) =
    ap (λ s. stored r (put_mid 0 (s - 0) out c.advance.new.next)) en
    ∙ firsts_made (zoomed_body k c.args.quadrant (lent a)) r mem out _ a.kept a.room c.copy_from_slice.ensures.after
    (ap length first ∙ length-map-range_with_len _ 0 r.states) refl first refl refl in
    record {
      body = body;
      kept = a.kept;
      shows = λ w. ap (λ b. picture k b w) body ∙ zoom_shows g.met.W.Weight.laws c.args.quadrant (lent a) (lent_sound a) w;
    }
