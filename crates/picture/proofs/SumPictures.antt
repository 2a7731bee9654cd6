-- The picture of a sum.
use Rattle.std.proofs.Common.{◌≡◌, ℕ, ◌+◌, ◌<◌, [], ◌++◌, map, sym, ap, ◌∙◌, ap₂, zero-add, arith}
use Rattle.std.proofs.lemmas.List.{length-append, append-nil, get_or_append_left, get_or-append-add}
use Rattle.std.proofs.ByRecursion.{All-weaker, All-append}
use Rattle.std.proofs.lemmas.Bool.{ne_eqb}
use Rattle.weight.specs.Kinds.{Kind, Laws}
use Rattle.picture.specs.Bodies.{Body, Sound}
use Rattle.picture.specs.BodyOperations.{raised, sum_body}
use Rattle.picture.specs.OperationStatements.{Sums}
use Rattle.picture.specs.Steps.{at_state}
use Rattle.picture.proofs.Embeddings.{Ends, Away, state_value, raised_none, all_raised, ends_raised, part_value}
use Rattle.picture.proofs.States.{total_below}
use Rattle.picture.proofs.StateSums.{total_states_add}
use Rattle.picture.proofs.Values.{value_back}

pub sum_sound : {W : Type 0} (a b : Body W) → Sound a → Sound b → Sound (sum_body a b)
sum_sound a b sa sb = record {
  firsts = length-append a.first b.first ∙ ap₂ ◌+◌ sa.firsts sb.firsts;
  lasts = length-append a.last b.last ∙ ap₂ ◌+◌ sa.lasts sb.lasts;
  ends =
      All-append (Ends (a.states + b.states)) a.arcs _
      (All-weaker (Ends a.states) (Ends (a.states + b.states)) (λ e x. (omega (arith, x.0), omega (arith, x.1))) a.arcs sa.ends)
      (ends_raised a.states b.states (a.states + b.states) b.arcs (omega arith) sb.ends);
}

module _ {W : Type 0} {k : Kind W} (laws : Laws k) where
  pub sum_shows : Sums k
  sum_shows a b sa sb w =
      value_back laws (sum_body a b) (sum_sound a b sa sb) _ w
      ∙ total_states_add laws a.states b.states _
      ∙ ap₂ k.plus
      (total_below laws a.states _ _ (λ q h. ap₂ k.times (get_or_append_left a.first b.first k.zero q (omega (arith, sa.firsts))) (left q h))
      ∙ sym (value_back laws a sa _ w))
      (total_below laws b.states _ _ (λ q h. ap₂ k.times
      (ap (λ n. at_state k (a.first ++ b.first) (n + q)) (sym sa.firsts) ∙ get_or-append-add a.first b.first q k.zero)
      (right q h))
      ∙ sym (value_back laws b sb _ w))
    where
      v : ℕ → W
      v = state_value k (sum_body a b).arcs (a.last ++ b.last) w

      left : (q : ℕ) → q < a.states → v q ≡ state_value k a.arcs a.last w q
      left q h =
          ap v (sym (zero-add q))
          ∙ part_value laws a sa 0 _ [] (map (raised a.states) b.arcs) (a.last ++ b.last)
          (ap (λ es. es ++ map (raised a.states) b.arcs) (sym (raised_none a.arcs))) tt
          (all_raised (Away 0 a.states) a.states b.states b.arcs sb.ends (λ e x r hr. ne_eqb _ _ (λ same. omega arith)))
          (λ r hr. ap (at_state k (a.last ++ b.last)) (zero-add r) ∙ get_or_append_left a.last b.last k.zero r (omega (arith, sa.lasts)))
          w q h

      right : (q : ℕ) → q < b.states → v (a.states + q) ≡ state_value k b.arcs b.last w q
      right q h =
          part_value laws b sb a.states _ a.arcs [] (a.last ++ b.last)
          (ap (λ es. a.arcs ++ es) (sym (append-nil (map (raised a.states) b.arcs))))
          (All-weaker (Ends a.states) _ (λ e x r hr. ne_eqb _ _ (λ same. omega (arith, x.0))) a.arcs sa.ends) tt
          (λ r hr. ap (λ n. at_state k (a.last ++ b.last) (n + r)) (sym sa.lasts) ∙ get_or-append-add a.last b.last r k.zero)
          w q h
