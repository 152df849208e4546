-- The matrix of an Euler order and three angles, and back, by glam's float steps.
use Rattle.std.specs.Prelude.{ℕ, Bool, true, false, cond, Float}
use Rattle.std.specs.Float.Ieee.{neg, lt}
use Rattle.std.specs.Float.{sqrt, binary64}
use Rattle.rounding.specs.Value.{floats}
use Rattle.numeric.specs.Floats.{◌⊕◌, ◌⊗◌, bits}
use Rattle.numeric.specs.ArcTangent.{atan2_float}
use Rattle.vectors.specs.Vectors.{vector}
use Rattle.euler.specs.Orders.{order, angle_order, signed, as_read}
use Rattle.euler.specs.declared.Axis.TheVariants.{X, Y, Z}
use Rattle.euler.specs.declared.EulerRot.{EulerRot}
use Rattle.euler.specs.declared.Order.{Order}
use Rattle.drift.specs.Columns.{Nine, nine, placed_column, sin_cos}
use Rattle.matrix.specs.declared.dmat3.DMat3.{DMat3}
use Rattle.matrix.specs.Matrices.{matrix, entry}

-- ---- from angles

abbrev pub placed : Order → Nine Float → DMat3
placed o n = matrix (vector (placed_column o n X)) (vector (placed_column o n Y)) (vector (placed_column o n Z))

-- with Ex the angles are read backwards; all are taken at the opposite where the parity is even
unfoldable pub by_order : Order → Float → Float → Float → DMat3
by_order o x y z =
    let ends : Float × Float = cond o.frame_static (x, z) (z, x) in
    let even = o.parity_even in
    placed o (nine floats o.initial_repeated (sin_cos (signed even ends.0)) (sin_cos (signed even y)) (sin_cos (signed even ends.1)))

unfoldable pub from_euler : EulerRot → Float → Float → Float → DMat3
from_euler n x y z = by_order (order n) x y z

-- ---- to angles

abbrev pub Angles : Type 0
Angles = Float × Float × Float

-- where the last letter repeats the first: unless the sine of the middle angle is lost, at the border
abbrev pub repeated_angles : (ℕ → ℕ → Float) → ℕ → ℕ → ℕ → Float → Angles
repeated_angles e i j k border =
    let s = sqrt binary64 (e i j ⊗ e i j ⊕ e i k ⊗ e i k) in
    cond (lt border s)
    (atan2_float (e i j) (e i k), atan2_float s (e i i), atan2_float (e j i) (neg (e k i)))
    (atan2_float (neg (e j k)) (e j j), atan2_float s (e i i), bits 0)

-- where it does not: unless the cosine of the middle angle is lost
abbrev pub plain_angles : (ℕ → ℕ → Float) → ℕ → ℕ → ℕ → Float → Angles
plain_angles e i j k border =
    let c = sqrt binary64 (e i i ⊗ e i i ⊕ e j i ⊗ e j i) in
    cond (lt border c)
    (atan2_float (e k j) (e k k), atan2_float (neg (e k i)) c, atan2_float (e j i) (e i i))
    (atan2_float (neg (e j k)) (e j j), atan2_float (neg (e k i)) c, bits 0)

abbrev pub angles_of : Bool → (ℕ → ℕ → Float) → ℕ × ℕ × ℕ → Float → Angles
angles_of true e n border = repeated_angles e n.0 n.1 n.2 border
angles_of false e n border = plain_angles e n.0 n.1 n.2 border

abbrev pub opposite : Bool → Angles → Angles
opposite even t = cond even (neg t.0, neg t.1, neg t.2) t

unfoldable pub to_euler : Float → DMat3 → EulerRot → Angles
to_euler border m n = let o = order n in as_read o.frame_static (opposite o.parity_even (angles_of o.initial_repeated (entry m) (angle_order o) border))

-- 16 · 2^-52
abbrev pub pole : Float
pole = bits 0x3CF0_0000_0000_0000
