use Rattle.std.proofs.Common.{◌≡◌, ◌+◌, ◌-◌, ◌*◌, length, Some}
use Rattle.recipe.specs.declared.reader.Reader.{Reader}
use Rattle.recipe.specs.Trees.{sum, product}
use Rattle.recipe.specs.Devices.Reading.{Got, first, left}
use Rattle.recipe.proofs.reader.Reader.+closed_part_product_sum.Given as goal

abbrev pub decreases-part : goal.decreases-part
decreases-part l = 4 * (16 - l.nesting.around)

abbrev pub decreases-product : goal.decreases-product
decreases-product l = 4 * (16 - l.nesting.around) + 1

abbrev pub decreases-sum : goal.decreases-sum
decreases-sum l = 4 * (16 - l.nesting.around) + 2

abbrev pub decreases-closed : goal.decreases-closed
decreases-closed l = 4 * (16 - l.nesting.around) + 3

-- whatever product ended where the loop began has grown to one that ends here
abbrev pub invariant-product-loop-nesting : goal.invariant-product-loop-nesting
invariant-product-loop-nesting l =
    (l.self.src.now ≡ l.initial.self.src.now)
    × ((a : Reader) → Got product l.nesting.around a l.initial.self → Got product l.nesting.around a l.self)

abbrev pub decreases-product-loop-nesting : goal.decreases-product-loop-nesting
decreases-product-loop-nesting l = length l.initial.self.src.now - l.self.pos

abbrev pub invariant-sum-loop-nesting : goal.invariant-sum-loop-nesting
invariant-sum-loop-nesting l =
    (l.self.src.now ≡ l.initial.self.src.now)
    × ((a : Reader) → Got sum l.nesting.around a l.initial.self → Got sum l.nesting.around a l.self)
    × (first (left l.self) ≡ Some 42 → ⊥)

abbrev pub decreases-sum-loop-nesting : goal.decreases-sum-loop-nesting
decreases-sum-loop-nesting l = length l.initial.self.src.now - l.self.pos
