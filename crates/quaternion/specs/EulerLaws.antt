-- What the quaternion of an Euler order and three angles promises.
use Rattle.std.specs.Prelude.{Float}
use Rattle.exact.specs.Fraction.{part}
use Rattle.exact.specs.Quat.{Quat}
use Rattle.exact.specs.Distance.{Near}
use Rattle.exact.specs.Turn.{exact_turn}
use Rattle.rounding.specs.Value.{val}
use Rattle.numeric.specs.Laws.{Angle}
use Rattle.euler.specs.Orders.{letters}
use Rattle.euler.specs.declared.EulerRot.{EulerRot}
use Rattle.quaternion.specs.Quaternions.{parts}
use Rattle.quaternion.specs.Euler.{from_euler}
use Rattle.drift.specs.Laws.{exact, Kept}

-- q is the turn of the name n by the angles x, y and z. Each of the six sines and cosines is 2⁻⁴⁴ off, so each of the three turns √2 · 2⁻⁴⁴,
-- and with the roundings all is below 5 · 2⁻⁴⁴, so that the squared length is 10 · 2⁻⁴⁴ off at most; 2⁻³⁸ leaves room
pub record IsEulerTurn (n : EulerRot) (x y z : Float) (q : Quat Float) : Type 0 where
  pub kept : Kept q
  pub near : Near (exact q) (part 38) (exact_turn (letters n) (val x) (val y) (val z))

abbrev pub EulerTurnLaw : Type 0
EulerTurnLaw = (n : EulerRot) (x y z : Float) → Angle x → Angle y → Angle z → IsEulerTurn n x y z (parts (from_euler n x y z))
