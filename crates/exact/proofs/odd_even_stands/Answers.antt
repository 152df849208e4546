use Rattle.exact.proofs.Shown.{odd_even}
use Rattle.exact.proofs.odd_even_stands.Goals as goal

pub returns : goal.returns
returns c = odd_even
