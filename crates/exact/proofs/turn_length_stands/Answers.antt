use Rattle.exact.proofs.Shown.{axis_turn_length, letters_turn_length, exact_turn_long}
use Rattle.exact.proofs.turn_length_stands.Goals as goal

pub returns : goal.returns
returns c = record { axis = axis_turn_length; letters = letters_turn_length; long = exact_turn_long }
