use Rattle.exact.proofs.Shown.{triangle, triangle3, times_right, times_left}
use Rattle.exact.proofs.distance_stands.Goals as goal

pub returns : goal.returns
returns c = record { triangle = triangle; vectors = triangle3; right = times_right; left = times_left }
