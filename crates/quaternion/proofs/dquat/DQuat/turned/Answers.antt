use Rattle.std.proofs.Common.{rules}
use Rattle.quaternion.specs.Quaternions.{parts}
use Rattle.quaternion.proofs.Accepted.{turns_on}
use Rattle.quaternion.proofs.dquat.DQuat.turned.Goals as goal

pub returns-clause-near : goal.returns-clause-near
returns-clause-near c = turns_on (parts c.args.self) (parts c.args.rhs) c.normalize.result (search rules)
