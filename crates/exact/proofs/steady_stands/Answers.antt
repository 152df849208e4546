use Rattle.exact.proofs.Shown.{steady, sine_steady}
use Rattle.exact.proofs.steady_stands.Goals as goal

pub returns : goal.returns
returns c = record { series = steady; angle = sine_steady }
