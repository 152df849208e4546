-- Quaternions of floats: their parts, the turns about one axis, and slices.
use Rattle.std.specs.Prelude.{◌≡◌, ℕ, Bool, List, length, Some, None, Ok, Err, Option, Result, nat_le, slice_index_or, slice_set, Float}
use Rattle.std.specs.Float.{nan}
use Rattle.std.specs.Float.Ieee.{lt}
use Rattle.fault.specs.Answers.{unless}
use Rattle.fault.specs.declared.RotationFault.{RotationFault}
use Rattle.fault.specs.declared.RotationFault.TheVariants.{TooShort}
use Rattle.exact.specs.Quat.{Quat}
use Rattle.numeric.specs.Floats.{◌⊗◌, bits, size, zero, half, one}
use Rattle.numeric.specs.Sine.{sin_float, cos_float}
use Rattle.quaternion.specs.declared.dquat.DQuat.{DQuat}

abbrev pub quat : Float → Float → Float → Float → DQuat
quat x y z w = record { x = x; y = y; z = z; w = w }

abbrev pub parts : DQuat → Quat Float
parts q = record { x = q.x; y = q.y; z = q.z; w = q.w }

abbrev pub whole : Quat Float → DQuat
whole q = quat q.x q.y q.z q.w

abbrev pub identity : DQuat
identity = quat zero zero zero one

-- the four numbers of a list
abbrev pub listed : List Float → DQuat
listed a = quat (slice_index_or a 0 nan) (slice_index_or a 1 nan) (slice_index_or a 2 nan) (slice_index_or a 3 nan)

-- ---- a turn about one axis

abbrev pub about_x : Float → DQuat
about_x angle = quat (sin_float (angle ⊗ half)) zero zero (cos_float (angle ⊗ half))

abbrev pub about_y : Float → DQuat
about_y angle = quat zero (sin_float (angle ⊗ half)) zero (cos_float (angle ⊗ half))

abbrev pub about_z : Float → DQuat
about_z angle = quat zero zero (sin_float (angle ⊗ half)) (cos_float (angle ⊗ half))

-- |w| > 1 − 10⁻¹⁴
abbrev pub near_identity : Quat Float → Bool
near_identity q = lt (bits 0x3FEF_FFFF_FFFF_FFA6) (size q.w)

-- ---- slices

abbrev pub four_fault : ℕ → List Float → Option RotationFault
four_fault at a = unless (nat_le 4 (length a)) (TooShort at)

-- the first four numbers of a slice are written, or nothing is
abbrev pub WroteBy : Option RotationFault → Quat Float → List Float → Result (Unit {0}) RotationFault → List Float → Type 0
WroteBy (Some f) q before r after = (r ≡ Err f) × (after ≡ before)
WroteBy None q before r after = (r ≡ Ok tt) × (after ≡ slice_set (slice_set (slice_set (slice_set before 0 q.x) 1 q.y) 2 q.z) 3 q.w)

abbrev pub Wrote : Quat Float → List Float → Result (Unit {0}) RotationFault → List Float → Type 0
Wrote q before r after = WroteBy (four_fault 1 before) q before r after
