use Rattle.exact.proofs.Shown.{circle_stands, sine_circle, sizes}
use Rattle.exact.proofs.circle_stands.Goals as goal

pub returns : goal.returns
returns c = record { series = circle_stands; angle = sine_circle; sizes = sizes }
