-- The arcs of a product.
use Rattle.std.proofs.Common.{◌≡◌, ℕ, ◌*◌, List, length, sym, ap, ◌∙◌, ap₂}
use Rattle.weight.specs.Kinds.{Kind}
use Rattle.picture.specs.BodyOperations.{product_body}
use Rattle.picture.specs.Lent.{lent, arcs_of}
use Rattle.picture.specs.declared.body.Arc.{Arc}
use Rattle.picture.specs.declared.stored.Stored.{Stored}
use Rattle.product.specs.Counts.{matches}
use Rattle.product.proofs.Counting.{product_length}
use Rattle.picture.proofs.Storing.{stored_weights}
use Rattle.compose.specs.Faults.{product_excess, product_fault}

module _ {W : Type 0} (k : Kind W) (a b : Stored W) (xs ys : List Arc) (ex : xs ≡ arcs_of a) (cx : length xs ≡ a.record.now.count) (ey : ys ≡ arcs_of b) (cy : length ys ≡ b.record.now.count) where
  pub product_count : length (product_body k (lent a) (lent b)).arcs ≡ matches xs ys
  product_count =
      product_length k (lent b).states (arcs_of a) (arcs_of b) _ _ (sym (ap length ex) ∙ cx ∙ sym (stored_weights a.record.now a.weights.now a.kept a.room)) (sym (ap length ey) ∙ cy ∙ sym (stored_weights b.record.now b.weights.now b.kept b.room))
      ∙ ap₂ matches (sym ex) (sym ey)

  -- why the product is refused
  pub product_fault_is : (n m count : ℕ) → n ≡ (lent a).states → m ≡ (lent b).states → count ≡ matches xs ys
      → product_fault k (product_body k (lent a) (lent b)) ≡ product_excess k (n * m) count
  product_fault_is n m count en em ec = ap₂ (product_excess k) (ap₂ ◌*◌ (sym en) (sym em)) (product_count ∙ sym ec)
