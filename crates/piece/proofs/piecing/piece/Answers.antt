use Rattle.std.proofs.Common.{◌≡◌, ◌+◌, ◌-◌, ◌∷◌, length, take, replicate, sym, refl, ap, ◌∙◌, ap₂, arith, rules}
use borrow.Rule.Slice.PartMut.{put_mid}
use Rattle.std.specs.List.{between}
use Rattle.std.proofs.lemmas.List.{length-take-le}
use Rattle.std.proofs.lemmas.Result.{err_from_is_err_and}
use Rattle.std.proofs.lemmas.Slice.{between-put_mid}
use Rattle.picture.specs.BodyOperations.{pieced_body}
use Rattle.picture.specs.Lent.{lent}
use Rattle.picture.specs.Pictures.{picture}
use Rattle.picture.specs.declared.quadrant.Quadrant.TheVariants.{UpperLeft, UpperRight, LowerLeft, LowerRight}
use Rattle.picture.proofs.PiecedPictures.{pieced_sound, pieced_shows}
use Rattle.compose.specs.Faults.{excess}
use Rattle.compose.proofs.Bounds.{within_limits}
use Rattle.compose.proofs.Written.{body_made}
use Rattle.piece.specs.Parts.{four_stored}
use Rattle.piece.proofs.FourParts.{four_long, four_sound, four_pictures}
use Rattle.piece.proofs.piecing.piece.Goals as goal

pub returns-in_err-check_limits-clause-body : goal.returns-in_err-check_limits-clause-body
returns-in_err-check_limits-clause-body g c =
    let p = err_from_is_err_and c.from_residual.result c.from_residual.ensures.1 in
    let states : (pieced_body g.W.Weight.kind (four_stored c.args.a c.args.b c.args.c c.args.d)).states ≡ 1 + (c.states.result + c.states-2.result + (c.states-3.result + c.states-4.result)) = omega arith in
    let sizes = ap₂ ◌+◌ (ap₂ ◌+◌ c.part_size.ensures.size c.part_size-2.ensures.size) (ap₂ ◌+◌ c.part_size-3.ensures.size c.part_size-4.ensures.size) in
    let count = four_long g.W.Weight.kind (UpperLeft, lent c.args.a) (UpperRight, lent c.args.b) (LowerLeft, lent c.args.c) (LowerRight, lent c.args.d) ∙ sym sizes in
    rw (p.1, p.2) (record { because = ap₂ excess states count ∙ sym c.in_err-check_limits.ensures; unchanged = refl })

pub enter_all-requires-clause-long : goal.enter_all-requires-clause-long
enter_all-requires-clause-long g c =
    let m = c.part_size.result + c.part_size-2.result + (c.part_size-3.result + c.part_size-4.result) in
    let sizes = ap₂ ◌+◌ (ap₂ ◌+◌ c.part_size.ensures.size c.part_size-2.ensures.size) (ap₂ ◌+◌ c.part_size-3.ensures.size c.part_size-4.ensures.size) in
    let fits = within_limits _ m (sym c.in_ok-check_limits.ensures) in
    let full : length c.args.a.record.now.arcs ≡ 512 = search rules in
    let long : length (take (m - 0) c.args.a.record.now.arcs) ≡ m = length-take-le (m - 0) c.args.a.record.now.arcs (omega arith) ∙ omega arith in
    long ∙ sizes ∙ sym (four_long g.W.Weight.kind (_, lent c.args.a) (_, lent c.args.b) (_, lent c.args.c) (_, lent c.args.d))

pub enter_all-requires-clause-wide : goal.enter_all-requires-clause-wide
enter_all-requires-clause-wide g c =
    let n = 1 + (c.states.result + c.states-2.result + (c.states-3.result + c.states-4.result)) in
    let m = c.part_size.result + c.part_size-2.result + (c.part_size-3.result + c.part_size-4.result) in
    let sizes = ap₂ ◌+◌ (ap₂ ◌+◌ c.part_size.ensures.size c.part_size-2.ensures.size) (ap₂ ◌+◌ c.part_size-3.ensures.size c.part_size-4.ensures.size) in
    let fits = within_limits n m (sym c.in_ok-check_limits.ensures) in
    let wide : length (between 128 (128 + m) (put_mid 64 (64 + n - 64) (put_mid 0 (n - 0) c.args.out.now c.write_firsts.new.out) c.write_lasts.new.out)) ≡ m = search rules in
    wide ∙ sizes ∙ sym (four_long g.W.Weight.kind (_, lent c.args.a) (_, lent c.args.b) (_, lent c.args.c) (_, lent c.args.d))

pub returns : goal.returns
returns g c =
    let k = g.W.Weight.kind in
    let f = four_stored c.args.a c.args.b c.args.c c.args.d in
    let sound = four_sound c.args.a c.args.b c.args.c c.args.d in
    let n = 1 + (c.states.result + c.states-2.result + (c.states-3.result + c.states-4.result)) in
    let m = c.part_size.result + c.part_size-2.result + (c.part_size-3.result + c.part_size-4.result) in
    let states : (pieced_body k f).states ≡ n = omega arith in
    let sizes = ap₂ ◌+◌ (ap₂ ◌+◌ c.part_size.ensures.size c.part_size-2.ensures.size) (ap₂ ◌+◌ c.part_size-3.ensures.size c.part_size-4.ensures.size) in
    let count = four_long k (UpperLeft, f UpperLeft) (UpperRight, f UpperRight) (LowerLeft, f LowerLeft) (LowerRight, f LowerRight) ∙ sym sizes in
    let ok = sym c.in_ok-check_limits.ensures in
    let fits = within_limits n m ok in
    let full : length c.args.a.record.now.arcs ≡ 512 = search rules in
    let long : length c.enter_all.new.arcs ≡ m = search rules in
    let made = body_made _ (pieced_body k f) _ _ c.args.out.now _ _ _
    (ap₂ excess states count ∙ ok) (pieced_sound k f sound) c.requires.room (sym states) fits.0 fits.1
    (between-put_mid 0 _ c.args.a.record.now.arcs c.enter_all.new.arcs m (omega arith) (omega arith)) long (search rules)
    (c.write_firsts.ensures ∙ ap (λ i. k.one ∷ replicate i k.zero) (omega (arith, length-take-le (n - 0) c.args.out.now (omega arith))))
    c.write_lasts.ensures
    c.enter_all.ensures in
    record {
      body = made;
      shows = λ w. ap (λ s. picture k s w) made.body ∙ pieced_shows g.met.W.Weight.laws f sound w ∙ four_pictures k (f UpperLeft) (f UpperRight) (f LowerLeft) (f LowerRight) w;
    }
