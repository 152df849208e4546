use Rattle.std.proofs.Common.{Ok, rules}
use Rattle.euler.specs.Orders.{letter}
use Rattle.quaternion.proofs.Accepted.{turns}
use Rattle.quaternion.proofs.dquat.about.Goals as goal

pub returns-in_err-check_angle-clause-turn : goal.returns-in_err-check_angle-clause-turn
returns-in_err-check_angle-clause-turn c = turns (letter c.args.axis) c.args.angle c.from_residual.result (search rules)

pub returns-clause-turn : goal.returns-clause-turn
returns-clause-turn c = turns (letter c.args.axis) c.args.angle (Ok c.along.result) (search rules)
