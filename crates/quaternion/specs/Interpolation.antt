-- Ways from one rotation to another, by glam's float steps.
use Rattle.std.specs.Prelude.{ℕ, Bool, cond, ◌&&◌, Ok, Option, Result, Float}
use Rattle.std.specs.Float.Ieee.{neg, lt, le}
use Rattle.std.specs.Float.{float_clamp}
use Rattle.fault.specs.Answers.{within, ◌⨾◌, answer}
use Rattle.fault.specs.declared.NumberFault.{NumberFault}
use Rattle.fault.specs.declared.RotationFault.{RotationFault}
use Rattle.fault.specs.declared.RotationFault.TheVariants.{Number}
use Rattle.exact.specs.Quat.{Quat, dot, plus, scale}
use Rattle.rounding.specs.Value.{floats}
use Rattle.numeric.specs.Floats.{◌⊖◌, ◌⊗◌, ◌⊘◌, bits, size, zero, one, minus_one, two}
use Rattle.numeric.specs.Tests.{size_fault, angle_fault}
use Rattle.numeric.specs.Sine.{sin_float}
use Rattle.numeric.specs.ArcTangent.{acos_float}
use Rattle.vectors.specs.Vectors.{normal, normal_fault}
use Rattle.quaternion.specs.declared.dquat.DQuat.{DQuat}
use Rattle.drift.specs.Tests.{finite_fault4, length_fault4}
use Rattle.quaternion.specs.Quaternions.{whole}

-- ---- tests

-- 1, then 2 above 300 in size
abbrev pub share_fault : ℕ → Float → Option NumberFault
share_fault at s = size_fault (bits 0x4072_C000_0000_0000) at s

-- two quaternions and a number of at most `largest` in size
abbrev pub way_fault : Float → Quat Float → Quat Float → Float → Option RotationFault
way_fault largest p q s = within Number (finite_fault4 0 p ⨾ finite_fault4 1 q ⨾ size_fault largest 2 s) ⨾ length_fault4 0 p ⨾ length_fault4 1 q

-- two quaternions and a share
abbrev pub pair_fault : Quat Float → Quat Float → Float → Option RotationFault
pair_fault p q s = within Number (finite_fault4 0 p ⨾ finite_fault4 1 q ⨾ share_fault 2 s) ⨾ length_fault4 0 p ⨾ length_fault4 1 q

abbrev pub between_fault : Quat Float → Quat Float → Option RotationFault
between_fault p q = within Number (finite_fault4 0 p ⨾ finite_fault4 1 q) ⨾ length_fault4 0 p ⨾ length_fault4 1 q

abbrev pub towards_fault : Quat Float → Quat Float → Float → Option RotationFault
towards_fault p q m = within Number (finite_fault4 0 p ⨾ finite_fault4 1 q ⨾ angle_fault 2 m) ⨾ length_fault4 0 p ⨾ length_fault4 1 q

-- ---- the angle between two rotations: 2 arccos |p·q|

abbrev pub between : Quat Float → Quat Float → Float
between p q = acos_float (size (dot floats p q)) ⊗ two

-- ---- lerp: p (1 − s) + q s, normalised

abbrev pub mixed : Quat Float → Quat Float → Float → Quat Float
mixed p q s = plus floats (scale floats p (one ⊖ s)) (scale floats q s)

unfoldable pub mixed_answer : Quat Float → Quat Float → Float → Result DQuat RotationFault
mixed_answer p q s = answer (normal_fault (mixed p q s)) (whole (normal (mixed p q s)))

-- q, or its opposite where it lies more than a quarter turn away
abbrev pub biased : Quat Float → Quat Float → Quat Float
biased p q = scale floats q (cond (le zero (dot floats p q)) one minus_one)

unfoldable pub lerp_answer : Quat Float → Quat Float → Float → Result DQuat RotationFault
lerp_answer p q s = mixed_answer p (biased p q) s

-- ---- slerp: (p sin (θ (1 − s)) + q sin (θ s)) / sin θ, at θ = arccos d

unfoldable pub swept : Quat Float → Quat Float → Float → Float → Quat Float
swept p q d s =
    let t = acos_float d in
    scale floats (plus floats (scale floats p (sin_float (t ⊗ (one ⊖ s)))) (scale floats q (sin_float (t ⊗ s)))) (one ⊘ sin_float t)

-- 1 − 2^-52: nearer than that the sine of the angle is lost, and lerp serves
abbrev pub nearer : Float → Bool
nearer d = lt (bits 0x3FEF_FFFF_FFFF_FFFE) d

abbrev pub way : Quat Float → Quat Float → Float → Float → Bool → Result DQuat RotationFault
way p q d s straight = cond straight (mixed_answer p q s) (Ok (whole (swept p q d s)))

-- by the shorter way: to the opposite of q where p·q is below 0
unfoldable pub slerp_answer : Quat Float → Quat Float → Float → Result DQuat RotationFault
slerp_answer p q s =
    let d = dot floats p q in
    cond (lt d zero) (let e = neg d in way p (scale floats q minus_one) e s (nearer e)) (way p q d s (nearer d))

unfoldable pub slerp_long_answer : Quat Float → Quat Float → Float → Result DQuat RotationFault
slerp_long_answer p q s = let d = dot floats p q in way p q d s (nearer (size d))

-- ---- rotate towards: at most the angle m of the way

-- 10⁻⁴: so near, q itself is the answer, if m reaches it
abbrev pub reaches : Float → Float → Bool
reaches a m = le a (bits 0x3F1A_36E2_EB1C_432D) && le a m

unfoldable pub towards_answer : Quat Float → Quat Float → Float → Result DQuat RotationFault
towards_answer p q m = let a = between p q in cond (reaches a m) (Ok (whole q)) (slerp_answer p q (float_clamp (m ⊘ a) minus_one one))
