-- What an Euler order and three angles promise, as a quaternion and as columns of a matrix.
use Rattle.std.specs.Prelude.{Float}
use Rattle.exact.specs.Fraction.{Frac, 0ᶠ, 1ᶠ, part}
use Rattle.exact.specs.Vector.{Vec, vec, exact_image}
use Rattle.exact.specs.Turn.{exact_turn}
use Rattle.rounding.specs.Value.{val}
use Rattle.rounding.specs.Theorems.{Rounded}
use Rattle.numeric.specs.Laws.{Angle}
use Rattle.euler.specs.Orders.{letters, order}
use Rattle.euler.specs.declared.Axis.{Axis}
use Rattle.euler.specs.declared.Axis.TheVariants.{X, Y, Z}
use Rattle.euler.specs.declared.EulerRot.{EulerRot}
use Rattle.drift.specs.Turns.{by_order}
use Rattle.drift.specs.Columns.{column}
use Rattle.drift.specs.Laws.{Fair}

-- the turn of the name n by the angles x, y and z is fair. Each of the six sines and cosines is 2⁻⁴⁴ off, so each of the three turns √2 · 2⁻⁴⁴,
-- and with the roundings all is below 5 · 2⁻⁴⁴, so that the squared length is 10 · 2⁻⁴⁴ off at most; 2⁻³⁸ leaves room
abbrev pub OrderTurnLaw : Type 0
OrderTurnLaw = (n : EulerRot) (x y z : Float) → Angle x → Angle y → Angle z → Fair (by_order (order n) x y z) (exact_turn (letters n) (val x) (val y) (val z))

-- each number of v is finite and within 2⁻³⁸ of that of w. A sine or cosine is 2⁻⁴⁴ off; two products and a sum for each of three turns make of it 24 · 2⁻⁴⁴ at most
pub record IsColumn (v : Vec Float) (w : Vec Frac) : Type 0 where
  pub x : Rounded v.x w.x (part 38)
  pub y : Rounded v.y w.y (part 38)
  pub z : Rounded v.z w.z (part 38)

-- 1 along an axis
abbrev pub unit : {A : Type 0} → A → A → Axis → Vec A
unit nil one X = vec one nil nil
unit nil one Y = vec nil one nil
unit nil one Z = vec nil nil one

abbrev pub EulerColumnLaw : Type 0
EulerColumnLaw = (n : EulerRot) (x y z : Float) → Angle x → Angle y → Angle z → (axis : Axis) → IsColumn (column (order n) x y z axis) (exact_image (exact_turn (letters n) (val x) (val y) (val z)) (unit 0ᶠ 1ᶠ axis))
