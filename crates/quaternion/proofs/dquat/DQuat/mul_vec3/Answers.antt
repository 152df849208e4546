use Rattle.std.proofs.Common.{Ok, rules}
use Rattle.vectors.specs.Vectors as V
use Rattle.quaternion.specs.Quaternions.{parts}
use Rattle.quaternion.proofs.Accepted.{images}
use Rattle.quaternion.proofs.dquat.DQuat.mul_vec3.Goals as goal

pub returns-in_err-check_finite-clause-near : goal.returns-in_err-check_finite-clause-near
returns-in_err-check_finite-clause-near c = images (parts c.args.self) (V.parts c.args.rhs) c.from_residual.result (search rules)

pub returns-in_err-check_finite-2-clause-near : goal.returns-in_err-check_finite-2-clause-near
returns-in_err-check_finite-2-clause-near c = images (parts c.args.self) (V.parts c.args.rhs) c.from_residual-in_err-check_finite-2.result (search rules)

pub returns-in_err-check_normalized-clause-near : goal.returns-in_err-check_normalized-clause-near
returns-in_err-check_normalized-clause-near c = images (parts c.args.self) (V.parts c.args.rhs) c.from_residual-in_err-check_normalized.result (search rules)

pub returns-clause-near : goal.returns-clause-near
returns-clause-near c = images (parts c.args.self) (V.parts c.args.rhs) (Ok c.add-2.result) (search rules)
