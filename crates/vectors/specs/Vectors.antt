-- Vectors of floats by glam's formulas, each operation rounded once in the order written.
use Rattle.std.specs.Prelude.{ℕ, zero, suc, Bool, cond, ◌&&◌, ◌||◌, List, Option, is_nan, slice_index_or, Float}
use Rattle.std.specs.Float.Ieee.{neg, le, lt}
use Rattle.std.specs.Float.{float_is_finite, float_is_infinite, float_signum, nan}
use Rattle.fault.specs.Answers.{unless, ◌⨾◌}
use Rattle.fault.specs.declared.NumberFault.TheVariants.{NotFinite}
use Rattle.fault.specs.declared.RotationFault.{RotationFault}
use Rattle.fault.specs.declared.RotationFault.TheVariants.{Number, NotNormalized, NotNormalizable}
use Rattle.exact.specs.Quat.{Quat, square, minus, scale}
use Rattle.exact.specs.Vector.{Vec, dot3}
use Rattle.rounding.specs.Value.{floats}
use Rattle.numeric.specs.Floats.{◌⊕◌, ◌⊖◌, ◌⊗◌, ◌⊘◌, bits, one, size}
pub use Rattle.vectors.specs.Lengths.{unit, recip}
use Rattle.vectors.specs.Masks.{mask, every}
use Rattle.vectors.specs.declared.bvec4.BVec4.{BVec4}
use Rattle.vectors.specs.declared.dvec2.DVec2.{DVec2}
use Rattle.vectors.specs.declared.dvec3.DVec3.{DVec3}
use Rattle.vectors.specs.declared.dvec4.DVec4.{DVec4}

-- ---- two components

abbrev pub vec2 : Float → Float → DVec2
vec2 x y = record { x = x; y = y }

abbrev pub dot2 : DVec2 → DVec2 → Float
dot2 u v = u.x ⊗ v.x ⊕ u.y ⊗ v.y

abbrev pub finite2 : DVec2 → Bool
finite2 v = float_is_finite v.x && float_is_finite v.y

abbrev pub nan2 : DVec2 → Bool
nan2 v = is_nan v.x || is_nan v.y

-- ---- three components

abbrev pub vec3 : Float → Float → Float → DVec3
vec3 x y z = record { x = x; y = y; z = z }

abbrev pub parts : DVec3 → Vec Float
parts v = record { x = v.x; y = v.y; z = v.z }

abbrev pub vector : Vec Float → DVec3
vector v = vec3 v.x v.y v.z

abbrev pub listed3 : List Float → DVec3
listed3 a = vec3 (slice_index_or a 0 nan) (slice_index_or a 1 nan) (slice_index_or a 2 nan)

abbrev pub component : DVec3 → ℕ → Float
component v zero = v.x
component v (suc zero) = v.y
component v (suc (suc i)) = v.z

abbrev pub minus3 : Vec Float → Vec Float → Vec Float
minus3 u v = record { x = u.x ⊖ v.x; y = u.y ⊖ v.y; z = u.z ⊖ v.z }

abbrev pub over3 : Vec Float → Float → Vec Float
over3 v s = record { x = v.x ⊘ s; y = v.y ⊘ s; z = v.z ⊘ s }

abbrev pub opposite3 : Vec Float → Vec Float
opposite3 v = record { x = neg v.x; y = neg v.y; z = neg v.z }

abbrev pub finite3 : Vec Float → Bool
finite3 v = float_is_finite v.x && float_is_finite v.y && float_is_finite v.z

abbrev pub nan3 : Vec Float → Bool
nan3 v = is_nan v.x || is_nan v.y || is_nan v.z

-- what turns away a vector that has to be normalised, as an argument: 1, then 3
abbrev pub unit_fault : ℕ → Vec Float → Option RotationFault
unit_fault at v = unless (finite3 v) (Number (NotFinite at)) ⨾ unless (unit (dot3 floats v v)) (NotNormalized at)

-- (x y a, sign + y y a, −y) for the sign of z and a = −1 / (sign + z)
abbrev pub orthonormal : DVec3 → DVec3
orthonormal v =
    let sign = float_signum v.z in
    let a = neg one ⊘ (sign ⊕ v.z) in
    vec3 (v.x ⊗ v.y ⊗ a) (sign ⊕ v.y ⊗ v.y ⊗ a) (neg v.y)

-- ---- four components

abbrev pub vec4 : Float → Float → Float → Float → DVec4
vec4 x y z w = record { x = x; y = y; z = z; w = w }

abbrev pub parts4 : DVec4 → Quat Float
parts4 v = record { x = v.x; y = v.y; z = v.z; w = v.w }

abbrev pub vector4 : Quat Float → DVec4
vector4 q = vec4 q.x q.y q.z q.w

abbrev pub over4 : Quat Float → Float → Quat Float
over4 v s = record { x = v.x ⊘ s; y = v.y ⊘ s; z = v.z ⊘ s; w = v.w ⊘ s }

abbrev pub opposite4 : Quat Float → Quat Float
opposite4 v = record { x = neg v.x; y = neg v.y; z = neg v.z; w = neg v.w }

abbrev pub size4 : Quat Float → Quat Float
size4 v = record { x = size v.x; y = size v.y; z = size v.z; w = size v.w }

abbrev pub finite4 : Quat Float → Bool
finite4 v = float_is_finite v.x && float_is_finite v.y && float_is_finite v.z && float_is_finite v.w

abbrev pub nan4 : Quat Float → Bool
nan4 v = is_nan v.x || is_nan v.y || is_nan v.z || is_nan v.w

abbrev pub at_most : DVec4 → DVec4 → BVec4
at_most u v = mask (le u.x v.x) (le u.y v.y) (le u.z v.z) (le u.w v.w)

-- every difference is at most m in size
abbrev pub close4 : Quat Float → Quat Float → Float → Bool
close4 u v m = every (at_most (vector4 (size4 (minus floats u v))) (vec4 m m m m))

-- ---- normalising

-- finite components with an infinite squared length; a squared length that is subnormal
abbrev pub overflows : Quat Float → Bool
overflows v = float_is_infinite (square floats v) && finite4 v

abbrev pub underflows : Quat Float → Bool
underflows v = lt (bits 0) (square floats v) && lt (square floats v) (bits 0x0010_0000_0000_0000)

-- times 2^-600 and 2^600 there
abbrev pub scaled : Quat Float → Quat Float
scaled v = cond (overflows v) (scale floats v (bits 0x1A70_0000_0000_0000)) (cond (underflows v) (scale floats v (bits 0x6570_0000_0000_0000)) v)

unfoldable pub normal : Quat Float → Quat Float
normal v = let u = scaled v in scale floats u (recip (square floats u))

abbrev pub normal_fault : Quat Float → Option RotationFault
normal_fault v = unless (finite4 (normal v)) (NotNormalizable 0)
