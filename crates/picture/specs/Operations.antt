-- The operations on pictures.
use Rattle.std.specs.Prelude.{[], ◌∷◌, map}
use Rattle.weight.specs.Kinds.{Kind}
use Rattle.picture.specs.Pictures.{Picture}
use Rattle.picture.specs.declared.quadrant.Quadrant.{Quadrant}
use Rattle.picture.specs.declared.quadrant.Quadrant.TheVariants.{UpperLeft, UpperRight, LowerLeft, LowerRight}

-- what a clockwise quarter turn replaces a digit by: 0 by 2, 1 by 0, 2 by 3, 3 by 1
abbrev pub turned : Quadrant → Quadrant
turned UpperLeft = LowerLeft
turned UpperRight = UpperLeft
turned LowerLeft = LowerRight
turned LowerRight = UpperRight

-- what a left-right mirror replaces a digit by: 0 by 1, 1 by 0, 2 by 3, 3 by 2
abbrev pub mirrored : Quadrant → Quadrant
mirrored UpperLeft = UpperRight
mirrored UpperRight = UpperLeft
mirrored LowerLeft = LowerRight
mirrored LowerRight = LowerLeft

-- one of four by its quadrant
abbrev pub four : {A : Type 0} → A → A → A → A → Quadrant → A
four a b c d UpperLeft = a
four a b c d UpperRight = b
four a b c d LowerLeft = c
four a b c d LowerRight = d

-- the weights added at each address
abbrev pub sum_picture : {W : Type 0} → Kind W → Picture W → Picture W → Picture W
sum_picture k f g w = k.plus (f w) (g w)

-- the weights multiplied at each address, f's factor first
abbrev pub product_picture : {W : Type 0} → Kind W → Picture W → Picture W → Picture W
product_picture k f g w = k.times (f w) (g w)

-- a picture looked at with every digit of the address replaced
abbrev pub replaced : {W : Type 0} → (Quadrant → Quadrant) → Picture W → Picture W
replaced g f w = f (map g w)

-- a clockwise quarter turn
abbrev pub turned_picture : {W : Type 0} → Picture W → Picture W
turned_picture f = replaced turned f

-- left and right exchanged
abbrev pub mirrored_picture : {W : Type 0} → Picture W → Picture W
mirrored_picture f = replaced mirrored f

-- quadrant d, as the whole picture
abbrev pub zoomed_picture : {W : Type 0} → Quadrant → Picture W → Picture W
zoomed_picture d f w = f (d ∷ w)

-- the value of a piecing at the empty address
abbrev pub whole_value : {W : Type 0} → Kind W → W
whole_value k = k.zero

-- four pictures, each one digit deeper
abbrev pub pieced_picture : {W : Type 0} → Kind W → (Quadrant → Picture W) → Picture W
pieced_picture k f [] = whole_value k
pieced_picture k f (d ∷ w) = f d w
