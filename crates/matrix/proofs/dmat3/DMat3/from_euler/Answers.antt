use Rattle.std.proofs.Common.{IfOk, sym, subst, rules}
use Rattle.euler.specs.declared.Axis.TheVariants.{X, Y, Z}
use Rattle.drift.proofs.EulerTests.{angles_pass}
use Rattle.drift.proofs.EulerColumns.{euler_column}
use Rattle.matrix.specs.Angles.{by_order, from_euler}
use Rattle.matrix.specs.EulerLaws.{IsEulerMatrix, EulerMatrixLaw}
use Rattle.matrix.proofs.dmat3.DMat3.from_euler.Goals as goal

euler_matrix : EulerMatrixLaw
unfolding from_euler by_order
euler_matrix n x y z hx hy hz = let column = euler_column n x y z hx hy hz in record { x_axis = column X; y_axis = column Y; z_axis = column Z }

pub returns-clause-near : goal.returns-clause-near
returns-clause-near c =
    let n = c.args.order in
    let x = c.args.a in
    let y = c.args.b in
    let z = c.args.c in
    subst (λ r. IfOk r (IsEulerMatrix n x y z)) (sym c.from_euler_angles.ensures) (angles_pass (IsEulerMatrix n x y z) (from_euler n x y z) (search rules) (search rules) (search rules) (euler_matrix n x y z))
