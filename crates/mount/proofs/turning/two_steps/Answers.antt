use Rattle.std.proofs.Common.{rules}
use Rattle.drift.proofs.Floats.{product_sound}
use Rattle.mount.proofs.turning.two_steps.Goals as goal

pub step-requires-clause-below : goal.step-requires-clause-below
step-requires-clause-below c = let sound = product_sound c.requires.below c.requires.first in search rules
