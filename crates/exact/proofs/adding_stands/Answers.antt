use Rattle.exact.proofs.Shown.{adding, doubling, halving}
use Rattle.exact.proofs.adding_stands.Goals as goal

pub returns : goal.returns
returns c = record { sum = adding; double = doubling; half = halving }
