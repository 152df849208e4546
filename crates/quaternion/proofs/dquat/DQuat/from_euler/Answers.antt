use Rattle.std.proofs.Common.{IfOk, sym, subst, rules}
use Rattle.drift.proofs.EulerTests.{angles_pass}
use Rattle.quaternion.specs.Quaternions.{parts}
use Rattle.quaternion.specs.Euler.{from_euler}
use Rattle.drift.proofs.EulerTurns.{order_turn}
use Rattle.quaternion.specs.EulerLaws.{IsEulerTurn, EulerTurnLaw}
use Rattle.quaternion.proofs.dquat.DQuat.from_euler.Goals as goal

euler_turn : EulerTurnLaw
unfolding from_euler
euler_turn n x y z hx hy hz = let t = order_turn n x y z hx hy hz in record { kept = t.kept; near = t.near }

pub returns-clause-near : goal.returns-clause-near
returns-clause-near c =
    let n = c.args.euler in
    let x = c.args.a in
    let y = c.args.b in
    let z = c.args.c in
    subst (λ r. IfOk r (λ q. IsEulerTurn n x y z (parts q))) (sym c.from_euler_angles.ensures) (angles_pass (λ q. IsEulerTurn n x y z (parts q)) (from_euler n x y z) (search rules) (search rules) (search rules) (euler_turn n x y z))
