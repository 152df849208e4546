-- Quaternions from and to axes and angles, from three axes, and from one direction to another, by glam's float steps.
use Rattle.std.specs.Prelude.{ℕ, Bool, cond, ◌&&◌, ◌||◌, Ok, Option, Result, Float}
use Rattle.std.specs.Float.Ieee.{neg, lt, le, eq}
use Rattle.std.specs.Float.{sqrt, binary64}
use Rattle.fault.specs.Answers.{unless, within, ◌⨾◌, answer, tested}
use Rattle.fault.specs.declared.NumberFault.{NumberFault}
use Rattle.fault.specs.declared.NumberFault.TheVariants.{NotFinite, TooLarge}
use Rattle.fault.specs.declared.RotationFault.{RotationFault}
use Rattle.fault.specs.declared.RotationFault.TheVariants.{Number, NotNormalized}
use Rattle.exact.specs.Quat.{Quat}
use Rattle.exact.specs.Vector.{Vec, vector, dot3, cross3, scale3}
use Rattle.rounding.specs.Value.{floats}
use Rattle.numeric.specs.Floats.{◌⊕◌, ◌⊖◌, ◌⊗◌, ◌⊘◌, bits, size, zero, half, one, two}
use Rattle.numeric.specs.Tests.{angle_fault, largest_angle}
use Rattle.numeric.specs.Sine.{sin_float, cos_float}
use Rattle.numeric.specs.ArcTangent.{atan2_float}
use Rattle.vectors.specs.Vectors as V
use Rattle.vectors.specs.Vectors.{vec3, over3, finite2, finite3, dot2, unit, recip, orthonormal, normal, normal_fault}
use Rattle.vectors.specs.declared.dvec2.DVec2.{DVec2}
use Rattle.vectors.specs.declared.dvec3.DVec3.{DVec3}
use Rattle.quaternion.specs.declared.dquat.DQuat.{DQuat}
use Rattle.drift.specs.Tests.{finite_fault4}
use Rattle.quaternion.specs.Quaternions.{quat, whole, identity}

-- ---- tests of a vector

abbrev pub finite_fault : ℕ → Vec Float → Option NumberFault
finite_fault at v = unless (finite3 v) (NotFinite at)

abbrev pub length_fault : ℕ → Vec Float → Option RotationFault
length_fault at v = unless (unit (dot3 floats v v)) (NotNormalized at)

-- ---- an axis and an angle

-- (v sin t/2, cos t/2)
abbrev pub axis_turn : Vec Float → Float → Quat Float
axis_turn v t = let s = sin_float (t ⊗ half) in record { x = v.x ⊗ s; y = v.y ⊗ s; z = v.z ⊗ s; w = cos_float (t ⊗ half) }

abbrev pub axis_fault : Vec Float → Float → Option RotationFault
axis_fault v t = within Number (finite_fault 0 v ⨾ angle_fault 1 t) ⨾ length_fault 0 v

abbrev pub length3 : Vec Float → Float
length3 v = sqrt binary64 (dot3 floats v v)

-- 1, then 2 where a component or the length is above 1000 in size
abbrev pub at_most_angle : Vec Float → Bool
at_most_angle v = le (size v.x) largest_angle && le (size v.y) largest_angle && le (size v.z) largest_angle && le (length3 v) largest_angle

abbrev pub scaled_fault : Vec Float → Option RotationFault
scaled_fault v = within Number (finite_fault 0 v ⨾ unless (at_most_angle v) (TooLarge 0))

-- the turn about v by its length; v/2 and 1 where v is too small to be scaled to length 1
abbrev pub about_scaled : Vec Float → Quat Float
about_scaled v =
    let a = over3 v (length3 v) in
    cond (unit (dot3 floats a a)) (axis_turn a (length3 v)) (record { x = v.x ⊗ half; y = v.y ⊗ half; z = v.z ⊗ half; w = one })

unfoldable pub scaled_turn : Vec Float → DQuat
scaled_turn v = cond (eq (length3 v) zero) identity (whole (about_scaled v))

-- 1, then 2 where a component is above 10¹⁰⁰ in size
abbrev pub at_most_1e100 : Quat Float → Bool
at_most_1e100 q = let m = bits 0x54B2_49AD_2594_C37D in le (size q.x) m && le (size q.y) m && le (size q.z) m && le (size q.w) m

abbrev pub axis_angle_fault : Quat Float → Option RotationFault
axis_angle_fault q = within Number (finite_fault4 0 q ⨾ unless (at_most_1e100 q) (TooLarge 0))

-- v / |v| and 2 atan2 (|v|, w); (X, 0) unless |v| ≥ 10⁻⁸
unfoldable pub axis_angle : Quat Float → DVec3 × Float
axis_angle q =
    let v = vector q in
    cond (le (bits 0x3E45_798E_E230_8C3A) (length3 v)) (V.vector (over3 v (length3 v)), two ⊗ atan2_float (length3 v) q.w) (vec3 one zero zero, zero)

abbrev pub scaled_axis : Quat Float → DVec3
scaled_axis q = let p = axis_angle q in V.vector (scale3 floats (V.parts p.0) p.1)

-- ---- three axes

abbrev pub axes_fault : Vec Float → Vec Float → Vec Float → Option RotationFault
axes_fault x y z = within Number (finite_fault 0 x ⨾ finite_fault 1 y ⨾ finite_fault 2 z) ⨾ length_fault 0 x ⨾ length_fault 1 y ⨾ length_fault 2 z

-- by the largest of x², y², z² and w², four times which is s, and i = 1 / (2 √s)
abbrev pub most_x : Vec Float → Vec Float → Vec Float → Quat Float
most_x x y z =
    let s = one ⊖ z.z ⊖ (y.y ⊖ x.x) in
    let i = half ⊘ sqrt binary64 s in
    record { x = s ⊗ i; y = (x.y ⊕ y.x) ⊗ i; z = (x.z ⊕ z.x) ⊗ i; w = (y.z ⊖ z.y) ⊗ i }

abbrev pub most_y : Vec Float → Vec Float → Vec Float → Quat Float
most_y x y z =
    let s = one ⊖ z.z ⊕ (y.y ⊖ x.x) in
    let i = half ⊘ sqrt binary64 s in
    record { x = (x.y ⊕ y.x) ⊗ i; y = s ⊗ i; z = (y.z ⊕ z.y) ⊗ i; w = (z.x ⊖ x.z) ⊗ i }

abbrev pub most_z : Vec Float → Vec Float → Vec Float → Quat Float
most_z x y z =
    let s = one ⊕ z.z ⊖ (y.y ⊕ x.x) in
    let i = half ⊘ sqrt binary64 s in
    record { x = (x.z ⊕ z.x) ⊗ i; y = (y.z ⊕ z.y) ⊗ i; z = s ⊗ i; w = (x.y ⊖ y.x) ⊗ i }

abbrev pub most_w : Vec Float → Vec Float → Vec Float → Quat Float
most_w x y z =
    let s = one ⊕ z.z ⊕ (y.y ⊕ x.x) in
    let i = half ⊘ sqrt binary64 s in
    record { x = (y.z ⊖ z.y) ⊗ i; y = (z.x ⊖ x.z) ⊗ i; z = (x.y ⊖ y.x) ⊗ i; w = s ⊗ i }

unfoldable pub from_axes : Vec Float → Vec Float → Vec Float → Quat Float
from_axes x y z =
    cond (le z.z zero)
    (cond (le (y.y ⊖ x.x) zero) (most_x x y z) (most_y x y z))
    (cond (le (y.y ⊕ x.x) zero) (most_z x y z) (most_w x y z))

-- ---- from one direction to another

-- 1 − 2^-51, P and 2^-48
abbrev pub nearly_one : Float
nearly_one = bits 0x3FEF_FFFF_FFFF_FFFC

abbrev pub half_circle : Float
half_circle = bits 0x4009_21FB_5444_2D18

abbrev pub tiny_square : Float
tiny_square = bits 0x3CF0_0000_0000_0000

-- opposite: the dot product d is below −1 + 2^-51, or below 0 with a cross product of squared length c at most 2^-48
abbrev pub opposed : Float → Float → Bool
opposed d c = lt d (neg nearly_one) || (lt d zero && le c tiny_square)

abbrev pub arc_fault : Vec Float → Vec Float → Option RotationFault
arc_fault f t = within Number (finite_fault 0 f ⨾ finite_fault 1 t) ⨾ length_fault 0 f ⨾ length_fault 1 t

-- half a turn about an axis that is orthogonal to f; 3 where that comes out too long
unfoldable pub around : DVec3 → Result DQuat RotationFault
around f = let a = V.parts (orthonormal f) in answer (length_fault 0 a) (whole (axis_turn a half_circle))

-- (f × t, 1 + f·t), normalised
abbrev pub across : Vec Float → Vec Float → Quat Float
across f t = let c = cross3 floats f t in record { x = c.x; y = c.y; z = c.z; w = one ⊕ dot3 floats f t }

unfoldable pub across_answer : Vec Float → Vec Float → Result DQuat RotationFault
across_answer f t = answer (normal_fault (across f t)) (whole (normal (across f t)))

unfoldable pub arc_answer : DVec3 → DVec3 → Result DQuat RotationFault
arc_answer f t =
    let d = dot3 floats (V.parts f) (V.parts t) in
    let c = cross3 floats (V.parts f) (V.parts t) in
    cond (lt nearly_one d) (Ok identity) (cond (opposed d (dot3 floats c c)) (around f) (across_answer (V.parts f) (V.parts t)))

unfoldable pub arc_to : DVec3 → DVec3 → Result DQuat RotationFault
arc_to f t = tested (arc_fault (V.parts f) (V.parts t)) (arc_answer f t)

-- by the shorter of the arcs to t and to its opposite
abbrev pub colinear : DVec3 → DVec3 → Result DQuat RotationFault
colinear f t = cond (lt (dot3 floats (V.parts f) (V.parts t)) zero) (arc_to f (V.vector (V.opposite3 (V.parts t)))) (arc_to f t)

-- in the plane: about Z
abbrev pub arc_fault2 : DVec2 → DVec2 → Option RotationFault
arc_fault2 f t =
    unless (finite2 f) (Number (NotFinite 0)) ⨾ unless (finite2 t) (Number (NotFinite 1)) ⨾ unless (unit (dot2 f f)) (NotNormalized 0) ⨾ unless (unit (dot2 t t)) (NotNormalized 1)

abbrev pub cross2 : DVec2 → DVec2 → Float
cross2 f t = f.x ⊗ t.y ⊖ t.x ⊗ f.y

abbrev pub across2 : DVec2 → DVec2 → DQuat
across2 f t =
    let z = cross2 f t in
    let w = one ⊕ dot2 f t in
    let r = recip (z ⊗ z ⊕ w ⊗ w) in
    quat zero zero (z ⊗ r) (w ⊗ r)

unfoldable pub arc2 : DVec2 → DVec2 → DQuat
arc2 f t =
    let z = cross2 f t in
    cond (lt nearly_one (dot2 f t)) identity (cond (opposed (dot2 f t) (z ⊗ z)) (quat zero zero one zero) (across2 f t))
