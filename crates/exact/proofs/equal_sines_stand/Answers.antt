use Rattle.exact.proofs.Shown.{equal_sines}
use Rattle.exact.proofs.equal_sines_stand.Goals as goal

pub returns : goal.returns
returns c = equal_sines
