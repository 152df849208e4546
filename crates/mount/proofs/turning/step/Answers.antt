use Rattle.std.proofs.Common.{rules}
use Rattle.vectors.specs.Vectors.{normal}
use Rattle.drift.proofs.Step.{turned_law}
use Rattle.quaternion.specs.Quaternions.{parts}
use Rattle.mount.proofs.turning.step.Goals as goal

pub returns : goal.returns
unfolding normal
returns c = let e = (turned_law (parts c.args.below) (parts c.args.turn)).1 c.requires.below c.requires.turn in search rules
