use Rattle.exact.proofs.Turns.{no_turn, half_turns}
use Rattle.exact.proofs.turn_examples_stand.Goals as goal

pub returns : goal.returns
returns c = record { none = no_turn; half = half_turns }
