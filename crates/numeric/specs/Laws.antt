-- What the four functions promise, against the exact sine and cosine of specs/Sine of `exact`.
use Rattle.std.specs.Prelude.{◌≡◌, pos, Float}
use Rattle.std.specs.Float.{sqrt, binary64}
use Rattle.exact.specs.Fraction.{Frac, ◌over◌, whole, part, ◌+ᶠ◌, ◌-ᶠ◌, ◌*ᶠ◌, ◌≤ᶠ◌}
use Rattle.exact.specs.Distance.{Size, Close}
use Rattle.exact.specs.Sine.{sine, cosine}
use Rattle.rounding.specs.Value.{val, Is}
use Rattle.rounding.specs.Theorems.{Rounded, magnitude}
use Rattle.numeric.specs.Floats.{bits, zero, two}
use Rattle.numeric.specs.Sine.{sin_float, cos_float}
use Rattle.numeric.specs.ArcTangent.{atan2_float, in_unit, other_side, acos_float}

-- ---- sine and cosine

-- what passes the test of an angle
pub record Angle (v : Float) : Type 0 where
  pub is : Is v
  pub size : Size (val v) (whole (pos 1000))

-- s is the sine of v, within 2^-44; and for |v| ≤ 1 within 2^-44 |v|
pub record IsSine (s v : Float) : Type 0 where
  pub near : Rounded s (sine (val v)) (part 44)
  pub sharp : Size (val v) (whole (pos 1)) → Close (val s) (part 44 *ᶠ magnitude (val v)) (sine (val v))

-- c is the cosine of v, within 2^-44
abbrev pub IsCosine : Float → Float → Type 0
IsCosine c v = Rounded c (cosine (val v)) (part 44)

abbrev pub SineLaw : Type 0
SineLaw = (v : Float) → Angle v → IsSine (sin_float v) v

abbrev pub CosineLaw : Type 0
CosineLaw = (v : Float) → Angle v → IsCosine (cos_float v) v

-- ---- arc tangent

infix 50 ◌<ᶠ◌
abbrev pub ◌<ᶠ◌ : Frac → Frac → Type 0
x <ᶠ y = y ≤ᶠ x → ⊥

abbrev pub nought : Frac
nought = whole (pos 0)

-- x² + y²
abbrev pub squared : Float → Float → Frac
squared y x = val x *ᶠ val x +ᶠ val y *ᶠ val y

-- y c − x s for the sine s and the cosine c of t: 0 where (x, y) lies in the direction t or the opposite one
abbrev pub aside : Float → Float → Float → Frac
aside t y x = val y *ᶠ cosine (val t) -ᶠ val x *ᶠ sine (val t)

-- y s + x c: above 0 where it is not the opposite one
abbrev pub along : Float → Float → Float → Frac
along t y x = val y *ᶠ sine (val t) +ᶠ val x *ᶠ cosine (val t)

-- t is the angle of the point (x, y)
pub record IsAngle (t y x : Float) : Type 0 where
  pub is : Is t
  -- at most 3.15 in size
  pub size : Size (val t) (pos 63 over 20)
  -- but at the origin
  pub near : nought <ᶠ squared y x → aside t y x *ᶠ aside t y x ≤ᶠ part 88 *ᶠ squared y x
  pub ahead : nought <ᶠ squared y x → nought <ᶠ along t y x
  pub origin : squared y x ≤ᶠ nought → t ≡ zero
  -- the sign is never opposite to that of y
  pub up : nought <ᶠ val y → nought ≤ᶠ val t
  pub down : val y <ᶠ nought → val t ≤ᶠ nought
  -- positive where y is a zero of either sign and x is negative
  pub back : nought ≤ᶠ val y → val x <ᶠ nought → nought <ᶠ val t
  -- in proportion to y where y is small beside x
  pub sharp : nought <ᶠ val x → part 60 *ᶠ val x ≤ᶠ magnitude (val y) → magnitude (val y) ≤ᶠ val x → aside t y x *ᶠ aside t y x ≤ᶠ part 88 *ᶠ (val y *ᶠ val y)

abbrev pub AngleLaw : Type 0
AngleLaw = (y x : Float) → Is y → Is x → IsAngle (atan2_float y x) y x

-- t is the arc cosine of f: the angle of the point of the upper half circle that lies above f, or at the end next to f
pub record IsArcCosine (t f : Float) : Type 0 where
  pub angle : IsAngle t (other_side (in_unit f)) (in_unit f)
  pub above : nought ≤ᶠ val (other_side (in_unit f))
  -- the square of its distance from the origin is 1, within 2^-50
  pub circle : Close (squared (other_side (in_unit f)) (in_unit f)) (part 50) (whole (pos 1))
  pub inside : Size (val f) (whole (pos 1)) → in_unit f ≡ f

abbrev pub ArcCosineLaw : Type 0
ArcCosineLaw = (f : Float) → Is f → IsArcCosine (acos_float f) f

-- ---- the root

abbrev pub RootExample : Type 0
RootExample = sqrt binary64 two ≡ bits 0x3FF6_A09E_667F_3BCD
