use Rattle.std.proofs.Common.{rules}
use Rattle.numeric.specs.ArcTangent.{atan2_float}
use Rattle.numeric.proofs.Angles.{angle_near}
use Rattle.numeric.proofs.arctangent.atan2_raw.Goals as goal

pub returns-then-y-clause-near : goal.returns-then-y-clause-near
unfolding atan2_float
returns-then-y-clause-near c = angle_near _ _ _ (search rules)

pub returns-else-y-clause-near : goal.returns-else-y-clause-near
unfolding atan2_float
returns-else-y-clause-near c = angle_near _ _ _ (search rules)
