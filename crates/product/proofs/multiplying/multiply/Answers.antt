use Rattle.std.proofs.Common.{◌≡◌, ◌*◌, length, sym, refl, ap, ◌∙◌, ap₂, arith, rules}
use Rattle.std.proofs.lemmas.Result.{err_from_is_err_and}
use Rattle.std.proofs.lemmas.Slice.{between-put_mid}
use Rattle.picture.specs.BodyOperations.{product_body, paired}
use Rattle.picture.specs.Lent.{lent}
use Rattle.picture.specs.Pictures.{picture}
use Rattle.picture.proofs.ProductPictures.{product_sound, product_shows}
use Rattle.picture.proofs.Storing.{lent_sound}
use Rattle.compose.proofs.Bounds.{product_within}
use Rattle.compose.proofs.Written.{body_made, lasts_long}
use Rattle.product.proofs.Producing.{product_count, product_fault_is}
use Rattle.product.proofs.multiplying.multiply.Goals as goal

pub returns-in_err-check_product-clause-body : goal.returns-in_err-check_product-clause-body
returns-in_err-check_product-clause-body g c =
    let p = err_from_is_err_and c.from_residual.result c.from_residual.ensures.1 in
    let own = c.arcs-own.ensures in
    let others = c.arcs-others.ensures in
    let fault = product_fault_is g.W.Weight.kind c.args.a c.args.b _ _ own.arcs own.count others.arcs others.count _ _ _ c.states.ensures c.states-2.ensures c.count_matches-m.ensures in
    rw (p.1, p.2) (record { because = fault ∙ sym c.in_err-check_product.ensures; unchanged = refl })

pub pair_weights-requires-2 : goal.pair_weights-requires-2
pair_weights-requires-2 g c =
    let n = c.states.result * c.states-2.result in
    let fits = product_within g.W.Weight.kind n c.count_matches-m.result (sym c.in_ok-check_product.ensures) in
    let one : length c.pair_weights.new.out ≡ n = search rules in
    lasts_long n c.args.out.now c.pair_weights.new.out c.requires.room fits.1 one ∙ sym (ap₂ ◌*◌ (c.last.ensures.count ∙ sym c.states.ensures) (c.last-2.ensures.count ∙ sym c.states-2.ensures))

pub pair_arcs-requires-clause-room : goal.pair_arcs-requires-clause-room
pair_arcs-requires-clause-room g c =
    let k = g.W.Weight.kind in
    let own = c.arcs-own.ensures in
    let others = c.arcs-others.ensures in
    let fits = product_within k (c.states.result * c.states-2.result) c.count_matches-m.result (sym c.in_ok-check_product.ensures) in
    let full : length c.args.a.record.now.arcs ≡ 512 = search rules in
    product_count k c.args.a c.args.b _ _ own.arcs own.count others.arcs others.count ∙ sym c.count_matches-m.ensures ∙ search rules

pub returns : goal.returns
returns g c =
    let k = g.W.Weight.kind in
    let a = lent c.args.a in
    let b = lent c.args.b in
    let sa = lent_sound c.args.a in
    let sb = lent_sound c.args.b in
    let own = c.arcs-own.ensures in
    let others = c.arcs-others.ensures in
    let m = c.count_matches-m.result in
    let ok = sym c.in_ok-check_product.ensures in
    let fits = product_within k (c.states.result * c.states-2.result) m ok in
    let fault = product_fault_is k c.args.a c.args.b _ _ own.arcs own.count others.arcs others.count _ _ _ c.states.ensures c.states-2.ensures c.count_matches-m.ensures in
    let full : length c.args.a.record.now.arcs ≡ 512 = search rules in
    let long : length c.pair_arcs.new.out ≡ m = search rules in
    let made = body_made _ (product_body k a b) _ _ c.args.out.now _ _ _
    (fault ∙ ok) (product_sound k _ _ sa sb) c.requires.room (ap₂ ◌*◌ c.states.ensures c.states-2.ensures) fits.1 fits.2
    (between-put_mid 0 _ c.args.a.record.now.arcs c.pair_arcs.new.out m (omega arith) (omega arith)) long (search rules)
    (c.pair_weights.ensures ∙ ap₂ (paired k.times) c.first.ensures.first c.first-2.ensures.first)
    (c.pair_weights-2.ensures ∙ ap₂ (paired k.times) c.last.ensures.last c.last-2.ensures.last)
    c.pair_arcs.ensures in
    record {
      body = made;
      shows = λ w. ap (λ s. picture k s w) made.body ∙ product_shows g.met.W.Weight.laws fits.0 a b sa sb w;
    }
