use Rattle.drift.proofs.Floats.{kept_sound}
use Rattle.mount.proofs.turning.SettingTurning.over.Goals as goal

pub step-requires-clause-below : goal.step-requires-clause-below
step-requires-clause-below c = kept_sound c.requires
