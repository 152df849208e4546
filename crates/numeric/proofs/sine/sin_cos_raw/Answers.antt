use Rattle.std.proofs.Common.{rules}
use Rattle.numeric.proofs.Sines.{both_near}
use Rattle.numeric.proofs.sine.sin_cos_raw.Goals as goal

pub returns-clause-near : goal.returns-clause-near
returns-clause-near c = both_near c.args.v (search rules) (search rules)
