use Rattle.std.proofs.Common.{sym, ap, subst}
use Rattle.quaternion.specs.Quaternions.{parts}
use Rattle.drift.specs.Laws.{IsProduct}
use Rattle.drift.proofs.Floats.{is_product}
use Rattle.quaternion.proofs.dquat.DQuat.mul_quat.Goals as goal

pub returns-clause-near : goal.returns-clause-near
returns-clause-near c = subst (IsProduct (parts c.args.self) (parts c.args.rhs)) (sym (ap parts c.from_xyzw.ensures)) (is_product _ _)
