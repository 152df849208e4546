use Rattle.drift.proofs.EulerTurns.{order_turn}
use Rattle.drift.proofs.EulerColumns.{euler_column}
use Rattle.drift.proofs.orders_stand.Goals as goal

pub returns : goal.returns
returns c = record { turn = order_turn; column = euler_column }
