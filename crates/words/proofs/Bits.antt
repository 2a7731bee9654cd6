-- The fields of head words and arc words.
use Rattle.std.proofs.Common.{◌≡◌, ℕ, ◌+◌, ◌*◌, ◌^◌, ◌<◌, ◌≤◌, sym, refl, ap, ◌∙◌, arith}
use Rattle.weight.specs.Words.{Writing}
use Rattle.picture.specs.Bodies.{Within}
use Rattle.picture.specs.Quadrants.{digit, named}
use Rattle.picture.specs.declared.body.Arc.{Arc}
use Rattle.picture.specs.declared.quadrant.Quadrant.{Quadrant}
use Rattle.picture.specs.declared.quadrant.Quadrant.TheVariants.{UpperLeft, UpperRight, LowerLeft, LowerRight}
use Rattle.picture.proofs.Digits.{digit_below}
use Rattle.words.specs.Format.{head_word, arc_word}
use Rattle.words.specs.Layout.{bits, HeadLayout, ArcLayout}

named_digit : (q : Quadrant) → named (digit q) ≡ q
named_digit UpperLeft = refl
named_digit UpperRight = refl
named_digit LowerLeft = refl
named_digit LowerRight = refl

fields_one : (d f t d' f' t' : ℕ) → f < 64 → t < 64 → f' < 64 → t' < 64
    → 0x2000_0000 + d * 0x400_0000 + f * 0x100 + t ≡ 0x2000_0000 + d' * 0x400_0000 + f' * 0x100 + t' → (d ≡ d') × (f ≡ f') × (t ≡ t')
fields_one d f t d' f' t' h k h' k' e = (omega arith, omega arith, omega arith)

-- an arc word is the word of one arc
pub arc_one : (n : ℕ) (a b : Arc) → n ≤ 64 → Within n a → Within n b → arc_word a ≡ arc_word b → a ≡ b
arc_one n a b few h k e =
    let same = fields_one (digit a.quadrant) a.from a.to (digit b.quadrant) b.from b.to (omega (arith, h.0)) (omega (arith, h.1)) (omega (arith, k.0)) (omega (arith, k.1)) e in
    let q = sym (named_digit a.quadrant) ∙ ap named same.0 ∙ named_digit b.quadrant in
    λ i. record { from = same.1 i; to = same.2 i; quadrant = q i }

-- a head word names one pair of counts
pub head_one : {W : Type 0} (s : Writing W) (n m n' m' : ℕ) → m ≤ 512 → m' ≤ 512 → head_word s n m ≡ head_word s n' m' → (n ≡ n') × (m ≡ m')
head_one s n m n' m' h k e = (omega arith, omega arith)

pub head_layout : {W : Type 0} (s : Writing W) → s.code ≤ 15 → s.width ≤ 9 → HeadLayout s
head_layout s hc hw n m w hn hm h = (
  (λ e. record { tag = omega arith; code = omega arith; width = omega arith; spare = omega arith; states = omega arith; arcs = omega arith }),
  λ b. omega arith,
)

arc_fields : (d f t w : ℕ) → d < 4 → f < 64 → t < 64 → w ≡ 0x2000_0000 + d * 0x400_0000 + f * 0x100 + t → (bits 28 4 w ≡ 2) × (bits 26 2 w ≡ d) × (bits 16 10 w ≡ 0) × (bits 8 8 w ≡ f) × (bits 0 8 w ≡ t)
arc_fields d f t w hd hf ht e = (omega arith, omega arith, omega arith, omega arith, omega arith)

arc_number : (d f t w : ℕ) → w < 2 ^ 32 → bits 28 4 w ≡ 2 → bits 26 2 w ≡ d → bits 16 10 w ≡ 0 → bits 8 8 w ≡ f → bits 0 8 w ≡ t → w ≡ 0x2000_0000 + d * 0x400_0000 + f * 0x100 + t
arc_number d f t w h a b s x y = omega arith

pub arc_layout : ArcLayout
arc_layout n a w few ends h = (
  (λ e.
      let fs = arc_fields (digit a.quadrant) a.from a.to w (digit_below a.quadrant) (omega (arith, ends.0)) (omega (arith, ends.1)) e in
      record { tag = fs.0; quadrant = fs.1; spare = fs.2; from = fs.3; to = fs.4 }),
  λ b. arc_number (digit a.quadrant) a.from a.to w h b.tag b.quadrant b.spare b.from b.to,
)
