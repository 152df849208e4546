use Rattle.exact.proofs.Shown.{nearest_turns, any_turns, any_turns_wide}
use Rattle.exact.proofs.quarter_turns_stand.Goals as goal

pub returns : goal.returns
returns c = record { nearest = nearest_turns; any = any_turns; wide = any_turns_wide }
