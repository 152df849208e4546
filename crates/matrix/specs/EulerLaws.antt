-- What the matrix of an Euler order and three angles promises.
use Rattle.std.specs.Prelude.{Float}
use Rattle.exact.specs.Fraction.{Frac, 0ᶠ, 1ᶠ}
use Rattle.exact.specs.Quat.{Quat}
use Rattle.exact.specs.Vector.{vec, exact_image}
use Rattle.exact.specs.Turn.{exact_turn}
use Rattle.rounding.specs.Value.{val}
use Rattle.numeric.specs.Laws.{Angle}
use Rattle.vectors.specs.Vectors.{parts}
use Rattle.euler.specs.Orders.{letters}
use Rattle.euler.specs.declared.EulerRot.{EulerRot}
use Rattle.drift.specs.EulerLaws.{IsColumn}
use Rattle.matrix.specs.declared.dmat3.DMat3.{DMat3}
use Rattle.matrix.specs.Angles.{from_euler}

-- the columns of m are the images of X, Y and Z under q
pub record TurnsBy (q : Quat Frac) (m : DMat3) : Type 0 where
  pub x_axis : IsColumn (parts m.x_axis) (exact_image q (vec 1ᶠ 0ᶠ 0ᶠ))
  pub y_axis : IsColumn (parts m.y_axis) (exact_image q (vec 0ᶠ 1ᶠ 0ᶠ))
  pub z_axis : IsColumn (parts m.z_axis) (exact_image q (vec 0ᶠ 0ᶠ 1ᶠ))

-- m is the matrix of the name n and the angles x, y and z
abbrev pub IsEulerMatrix : EulerRot → Float → Float → Float → DMat3 → Type 0
IsEulerMatrix n x y z m = TurnsBy (exact_turn (letters n) (val x) (val y) (val z)) m

abbrev pub EulerMatrixLaw : Type 0
EulerMatrixLaw = (n : EulerRot) (x y z : Float) → Angle x → Angle y → Angle z → IsEulerMatrix n x y z (from_euler n x y z)
