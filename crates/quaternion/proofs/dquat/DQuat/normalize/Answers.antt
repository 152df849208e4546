use Rattle.std.proofs.Common.{Ok, rules}
use Rattle.quaternion.specs.Quaternions.{parts}
use Rattle.quaternion.proofs.Accepted.{normalises}
use Rattle.quaternion.proofs.dquat.DQuat.normalize.Goals as goal

pub returns-in_err-v-clause-unit : goal.returns-in_err-v-clause-unit
returns-in_err-v-clause-unit c = normalises (parts c.args.self) c.from_residual.result (search rules)

pub returns-clause-unit : goal.returns-clause-unit
returns-clause-unit c = normalises (parts c.args.self) (Ok c.from_vec4.result) (search rules)
