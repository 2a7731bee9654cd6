use Rattle.std.proofs.Common.{◌≡◌, ◌+◌, ◌++◌, map, length, sym, refl, ap, ◌∙◌, ap₂, arith, rules}
use Rattle.std.proofs.ByRecursion.{All-weaker}
use Rattle.std.proofs.lemmas.List.{length-append, length-map}
use Rattle.std.proofs.lemmas.Result.{err_from_is_err_and}
use Rattle.picture.specs.Bodies.{Within}
use Rattle.picture.specs.BodyOperations.{sum_body, raised_arc}
use Rattle.picture.specs.Lent.{lent}
use Rattle.picture.specs.Pictures.{picture}
use Rattle.picture.proofs.Storing.{lent_sound, lent_arcs}
use Rattle.picture.proofs.SumPictures.{sum_sound, sum_shows}
use Rattle.compose.proofs.Adding.{sum_excess, sum_arcs, arcs_after}
use Rattle.compose.proofs.Bounds.{within_limits}
use Rattle.compose.proofs.Written.{body_made, lasts_long}
use Rattle.compose.proofs.sums.add.Goals as goal

pub returns-in_err-check_limits-clause-body : goal.returns-in_err-check_limits-clause-body
returns-in_err-check_limits-clause-body g c =
    let p = err_from_is_err_and c.from_residual.result c.from_residual.ensures.1 in
    let own = c.arcs-own.ensures in
    let others = c.arcs-others.ensures in
    let passed = sum_excess c.args.a c.args.b _ _ _ _ c.states.ensures c.states-2.ensures own.arcs own.count others.arcs others.count in
    rw (p.1, p.2) (record { because = passed ∙ sym c.in_err-check_limits.ensures; unchanged = refl })

pub join-requires-2 : goal.join-requires-2
join-requires-2 g c =
    let n = c.states.result + c.states-2.result in
    let fits = within_limits n (length c.arcs-own.result.now + length c.arcs-others.result.now) (sym c.in_ok-check_limits.ensures) in
    let one : length c.join.new.out ≡ n = search rules in
    lasts_long n c.args.out.now c.join.new.out c.requires.room fits.0 one ∙ omega arith

pub raise-requires-clause-small : goal.raise-requires-clause-small
raise-requires-clause-small g c =
    let fits = within_limits (c.states.result + c.states-2.result) (length c.arcs-own.result.now + length c.arcs-others.result.now) (sym c.in_ok-check_limits.ensures) in
    let na : c.states.result ≡ c.args.a.record.now.states = c.states.ensures in
    let nb : c.states-2.result ≡ c.args.b.record.now.states = c.states-2.ensures in
    rw c.arcs-others.ensures.arcs (All-weaker (Within c.args.b.record.now.states) _ (λ x h. (omega (arith, h.0, fits.0), omega (arith, h.1, fits.0))) _ c.args.b.kept.ends)

pub returns : goal.returns
returns g c =
    let k = g.W.Weight.kind in
    let a = lent c.args.a in
    let b = lent c.args.b in
    let sa = lent_sound c.args.a in
    let sb = lent_sound c.args.b in
    let own = c.arcs-own.ensures in
    let others = c.arcs-others.ensures in
    let xs = c.arcs-own.result.now in
    let ys = c.arcs-others.result.now in
    let ok = sym c.in_ok-check_limits.ensures in
    let fits = within_limits (c.states.result + c.states-2.result) (length xs + length ys) ok in
    let passed = sum_excess c.args.a c.args.b _ _ _ _ c.states.ensures c.states-2.ensures own.arcs own.count others.arcs others.count in
    let tail : c.raise.new.out ≡ map (raised_arc a.states) ys = c.raise.ensures in
    let tail_long : length c.raise.new.out ≡ length ys = ap length tail ∙ length-map ys (raised_arc a.states) in
    let us : length c.arc_weights.result.now ≡ length xs = c.arc_weights.ensures.count ∙ sym (ap length own.arcs) in
    let vs : length c.arc_weights-2.result.now ≡ length ys = c.arc_weights-2.ensures.count ∙ sym (ap length others.arcs) in
    let ea = lent_arcs c.args.a xs c.arc_weights.result.now own.arcs c.arc_weights.ensures.arcs in
    let eb = lent_arcs c.args.b ys c.arc_weights-2.result.now others.arcs c.arc_weights-2.ensures.arcs in
    let made = body_made _ (sum_body a b) _ (xs ++ map (raised_arc a.states) ys) c.args.out.now _ _ c.join-3.new.out
    (passed ∙ ok) (sum_sound _ _ sa sb) c.requires.room (ap₂ ◌+◌ c.states.ensures c.states-2.ensures) fits.0 fits.1
    (arcs_after c.args.a.record.now.arcs xs c.raise.new.out _ _ own.arcs own.count tail_long ∙ ap (λ zs. xs ++ zs) tail)
    (length-append xs _ ∙ ap (λ n. length xs + n) (length-map ys (raised_arc a.states)))
    (ap length c.join-3.ensures ∙ length-append c.arc_weights.result.now c.arc_weights-2.result.now ∙ ap₂ ◌+◌ us vs)
    (c.join.ensures ∙ ap₂ ◌++◌ c.first.ensures.first c.first-2.ensures.first)
    (c.join-2.ensures ∙ ap₂ ◌++◌ c.last.ensures.last c.last-2.ensures.last)
    (sum_arcs a b xs ys _ _ _ ea eb us c.join-3.ensures) in
    record {
      body = made;
      shows = λ w. ap (λ s. picture k s w) made.body ∙ sum_shows g.met.W.Weight.laws a b sa sb w;
    }
