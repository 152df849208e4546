-- The quaternion of an Euler order and three angles, by glam's float steps.
use Rattle.std.specs.Prelude.{Float}
use Rattle.euler.specs.Orders.{order}
use Rattle.euler.specs.declared.EulerRot.{EulerRot}
use Rattle.drift.specs.Turns.{by_order}
use Rattle.quaternion.specs.Quaternions.{whole}
use Rattle.quaternion.specs.declared.dquat.DQuat.{DQuat}

unfoldable pub from_euler : EulerRot → Float → Float → Float → DQuat
from_euler n x y z = whole (by_order (order n) x y z)
