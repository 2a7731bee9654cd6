-- A cell by the row that came along its address.
use Rattle.std.proofs.Common.{◌≡◌, List, [], length, ap, ◌∙◌, append-nil}
use Rattle.std.specs.List.{range_with_len}
use Rattle.weight.specs.Kinds.{Kind, Laws}
use Rattle.weight.specs.Sums.{total}
use Rattle.picture.specs.Bodies.{Body, Sound}
use Rattle.picture.specs.Pictures.{picture}
use Rattle.picture.specs.Quadrants.{Address}
use Rattle.picture.specs.Steps.{at_state, carried}
use Rattle.picture.proofs.Carries.{length_carried, value_carried}

-- what a cell is, from the row that came along its address
pub cell_is : {W : Type 0} {k : Kind W} (laws : Laws k) (b : Body W) → Sound b → (w : Address) (row : List W) (x : W)
    → row ≡ carried k b.arcs b.states w b.first
    → x ≡ total k (range_with_len 0 (length row)) (λ q. k.times (at_state k row q) (at_state k b.last q)) → x ≡ picture k b w
cell_is {k = k} laws b sound w row x e h =
    let long : length row ≡ b.states = ap length e ∙ length_carried k b.arcs b.states w b.first sound.firsts in
    h ∙ ap (λ n. total k (range_with_len 0 n) (λ q. k.times (at_state k row q) (at_state k b.last q))) long
    ∙ ap (λ r. total k (range_with_len 0 b.states) (λ q. k.times (at_state k r q) (at_state k b.last q))) e
    ∙ value_carried laws b sound w [] b.first ∙ ap (picture k b) (append-nil w)
