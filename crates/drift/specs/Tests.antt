-- What turns a rotation away, by its numbers.
use Rattle.std.specs.Prelude.{ℕ, Option, Float}
use Rattle.fault.specs.Answers.{unless, within, ◌⨾◌}
use Rattle.fault.specs.declared.NumberFault.{NumberFault}
use Rattle.fault.specs.declared.NumberFault.TheVariants.{NotFinite}
use Rattle.fault.specs.declared.RotationFault.{RotationFault}
use Rattle.fault.specs.declared.RotationFault.TheVariants.{Number, NotNormalized}
use Rattle.exact.specs.Quat.{Quat, square}
use Rattle.exact.specs.Vector.{Vec}
use Rattle.rounding.specs.Value.{floats}
use Rattle.numeric.specs.Tests.{angle_fault, angles_fault}
use Rattle.vectors.specs.Vectors.{finite3, finite4, unit}

-- one angle
abbrev pub turn_fault : Float → Option RotationFault
turn_fault angle = within Number (angle_fault 0 angle)

-- three angles, in the order written
abbrev pub euler_fault : Float → Float → Float → Option RotationFault
euler_fault x y z = within Number (angles_fault 1 x y z)

abbrev pub finite_fault4 : ℕ → Quat Float → Option NumberFault
finite_fault4 at q = unless (finite4 q) (NotFinite at)

abbrev pub length_fault4 : ℕ → Quat Float → Option RotationFault
length_fault4 at q = unless (unit (square floats q)) (NotNormalized at)

-- a quaternion that has to be normalised: 1, then 3
abbrev pub unit_fault4 : ℕ → Quat Float → Option RotationFault
unit_fault4 at q = within Number (finite_fault4 at q) ⨾ length_fault4 at q

-- what turns away the image of a vector: 1 for the quaternion, 1 for the vector, 3 for the quaternion
abbrev pub image_fault : Quat Float → Vec Float → Option RotationFault
image_fault q v = within Number (finite_fault4 0 q) ⨾ unless (finite3 v) (Number (NotFinite 1)) ⨾ length_fault4 0 q
