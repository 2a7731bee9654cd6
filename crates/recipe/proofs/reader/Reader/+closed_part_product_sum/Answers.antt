use Rattle.std.proofs.Common.{◌≡◌, Some, sym, ap, ◌∙◌, subst, arith}
use Rattle.recipe.specs.Trees.{product, sum}
use Rattle.recipe.specs.Devices.Reading.{Got, first, left}
use Rattle.recipe.proofs.Moves.{got_prefixed, got_pieces, got_single, got_one, got_times, got_plus, long_prefix, room_after, room_more}
use Rattle.recipe.proofs.Parts.{passed, lost_single, lost_one, lost_times, lost_plus, lost_prefixed, lost_closed, closed_reads, round_reads, started, lost_first, lost_second, lost_third, lost_fourth}
use Rattle.recipe.proofs.reader.Reader.+closed_part_product_sum.Goals as goal

pub closed-returns-in_err-sum : goal.closed-returns-in_err-sum
closed-returns-in_err-sum t c = passed _ _ c.from_residual.ensures.1 (lost_closed _ c.in_err-sum.ensures)

pub closed-returns : goal.closed-returns
closed-returns t c =
    let g = c.in_ok-sum.ensures in
    closed_reads _ _ c.expect.result g.0 g.1 c.expect.ensures

pub part-returns-in-Some : goal.part-returns-in-Some
part-returns-in-Some t c = c.name.ensures c.args.nesting.around

pub part-returns-in_err-part-in-Ahead : goal.part-returns-in_err-part-in-Ahead
part-returns-in_err-part-in-Ahead t c =
    let s = started _ _ _ c.in-Ahead.is c.in_ok-start.ensures in
    passed _ _ c.from_residual-in_err-part-in-Ahead.ensures.1 (lost_prefixed s c.in_err-part-in-Ahead.ensures)

pub part-push-requires-clause-room : goal.part-push-requires-clause-room
part-push-requires-clause-room t c =
    let s = started _ _ _ c.in-Ahead.is c.in_ok-start.ensures in
    room_after (long_prefix s.0.0) s.0.2 c.in_ok-part-in-Ahead.ensures.0

pub part-returns-in_err-closed-in-Pieces : goal.part-returns-in_err-closed-in-Pieces
part-returns-in_err-closed-in-Pieces t c =
    let s = started _ _ _ c.in-Pieces.is c.in_ok-start.ensures in
    passed _ _ c.from_residual-in_err-closed-in-Pieces.ensures.1 (lost_first s c.in_err-closed-in-Pieces.ensures)

pub part-returns-in_err-closed-in-Pieces-2 : goal.part-returns-in_err-closed-in-Pieces-2
part-returns-in_err-closed-in-Pieces-2 t c =
    let s = started _ _ _ c.in-Pieces.is c.in_ok-start.ensures in
    passed _ _ c.from_residual-in_err-closed-in-Pieces-2.ensures.1 (lost_second s c.in_ok-closed-in-Pieces.ensures.0 c.in_err-closed-in-Pieces-2.ensures)

pub part-returns-in_err-closed-in-Pieces-3 : goal.part-returns-in_err-closed-in-Pieces-3
part-returns-in_err-closed-in-Pieces-3 t c =
    let s = started _ _ _ c.in-Pieces.is c.in_ok-start.ensures in
    passed _ _ c.from_residual-in_err-closed-in-Pieces-3.ensures.1 (lost_third s c.in_ok-closed-in-Pieces.ensures.0 c.in_ok-closed-in-Pieces-2.ensures.0 c.in_err-closed-in-Pieces-3.ensures)

pub part-returns-in_err-closed-in-Pieces-4 : goal.part-returns-in_err-closed-in-Pieces-4
part-returns-in_err-closed-in-Pieces-4 t c =
    let s = started _ _ _ c.in-Pieces.is c.in_ok-start.ensures in
    passed _ _ c.from_residual-in_err-closed-in-Pieces-4.ensures.1 (lost_fourth s c.in_ok-closed-in-Pieces.ensures.0 c.in_ok-closed-in-Pieces-2.ensures.0 c.in_ok-closed-in-Pieces-3.ensures.0 c.in_err-closed-in-Pieces-4.ensures)

pub part-push-requires-in-Pieces-clause-room : goal.part-push-requires-in-Pieces-clause-room
part-push-requires-in-Pieces-clause-room t c =
    let s = started _ _ _ c.in-Pieces.is c.in_ok-start.ensures in
    let g₁ = c.in_ok-closed-in-Pieces.ensures.0 in
    let g₂ = c.in_ok-closed-in-Pieces-2.ensures.0 in
    let g₃ = c.in_ok-closed-in-Pieces-3.ensures.0 in
    let g₄ = c.in_ok-closed-in-Pieces-4.ensures.0 in
    room_more (room_more (room_more (room_after (omega arith) s.0 g₁) g₂) g₃) g₄

pub part-returns-in_ok-part-in-Ahead : goal.part-returns-in_ok-part-in-Ahead
part-returns-in_ok-part-in-Ahead t c =
    let s = started _ _ _ c.in-Ahead.is c.in_ok-start.ensures in
    (got_prefixed s c.in_ok-part-in-Ahead.ensures.0 c.push.ensures, tt)

pub part-returns-in-Bracket : goal.part-returns-in-Bracket
part-returns-in-Bracket t c =
    let s = started _ _ _ c.in-Bracket.is c.in_ok-start.ensures in
    round_reads _ c.closed.result s c.closed.ensures

pub part-returns-in_ok-closed-in-Pieces-4 : goal.part-returns-in_ok-closed-in-Pieces-4
part-returns-in_ok-closed-in-Pieces-4 t c =
    let s = started _ _ _ c.in-Pieces.is c.in_ok-start.ensures in
    (got_pieces s c.in_ok-closed-in-Pieces.ensures.0 c.in_ok-closed-in-Pieces-2.ensures.0 c.in_ok-closed-in-Pieces-3.ensures.0 c.in_ok-closed-in-Pieces-4.ensures.0 c.push-in-Pieces.ensures, tt)

pub product-returns-in_err-part : goal.product-returns-in_err-part
product-returns-in_err-part t c = passed _ _ c.from_residual.ensures.1 (lost_single c.in_err-part.ensures)

pub product-returns-in_err-part-2 : goal.product-returns-in_err-part-2
product-returns-in_err-part-2 t c = passed _ _ c.from_residual-in_err-part-2.ensures.1 (lost_times (c.loop-nesting.invariant.1 _ (got_single c.in_ok-part.ensures.0)) c.loop-nesting-test.ensures c.in_err-part-2.ensures)

pub product-push-requires-clause-room : goal.product-push-requires-clause-room
product-push-requires-clause-room t c = room_after (omega arith) c.loop-nesting-test.ensures c.in_ok-part-2.ensures.0

pub product-loop-nesting-preserved : goal.product-loop-nesting-preserved
product-loop-nesting-preserved t c =
    let g = c.in_ok-part-2.ensures.0 in
    let k = c.loop-nesting-test.ensures in
    (c.push.ensures.did.same ∙ g.did.same ∙ k.did.same ∙ c.loop-nesting.invariant.0, λ a q. got_times (c.loop-nesting.invariant.1 a q) k g c.push.ensures)

pub product-returns : goal.product-returns
product-returns t c =
    let k = c.loop-nesting-test.ensures in
    subst (λ v. Got product c.args.nesting.around c.args.self.now v × (first (left v) ≡ Some 42 → ⊥)) (sym k.0)
    (c.loop-nesting.invariant.1 _ (got_single c.in_ok-part.ensures.0), k.1)

pub sum-returns-in_err-product : goal.sum-returns-in_err-product
sum-returns-in_err-product t c = passed _ _ c.from_residual.ensures.1 (lost_one c.in_err-product.ensures)

pub sum-returns-in_err-product-2 : goal.sum-returns-in_err-product-2
sum-returns-in_err-product-2 t c = passed _ _ c.from_residual-in_err-product-2.ensures.1 (lost_plus (c.loop-nesting.invariant.1 _ (got_one c.in_ok-product.ensures.0)) c.loop-nesting-test.ensures c.in_err-product-2.ensures)

pub sum-push-requires-clause-room : goal.sum-push-requires-clause-room
sum-push-requires-clause-room t c = room_after (omega arith) c.loop-nesting-test.ensures c.in_ok-product-2.ensures.0

pub sum-loop-nesting-preserved : goal.sum-loop-nesting-preserved
sum-loop-nesting-preserved t c =
    let g = c.in_ok-product-2.ensures in
    let k = c.loop-nesting-test.ensures in
    (c.push.ensures.did.same ∙ g.0.did.same ∙ k.did.same ∙ c.loop-nesting.invariant.0, λ a q. got_plus (c.loop-nesting.invariant.1 a q) k g.0 c.push.ensures, λ e. g.1 (ap first c.push.ensures.did.split ∙ e))

pub sum-returns : goal.sum-returns
sum-returns t c =
    let k = c.loop-nesting-test.ensures in
    subst (λ v. Got sum c.args.nesting.around c.args.self.now v × ((first (left v) ≡ Some 42 → ⊥) × (first (left v) ≡ Some 43 → ⊥))) (sym k.0)
    (c.loop-nesting.invariant.1 _ (got_one c.in_ok-product.ensures.0), (c.loop-nesting.invariant.2, k.1))
