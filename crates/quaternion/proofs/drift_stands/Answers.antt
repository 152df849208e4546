use Rattle.drift.proofs.Fair.{axis_fair}
use Rattle.drift.proofs.Drift.{told}
use Rattle.drift.proofs.Images.{beamed}
use Rattle.quaternion.proofs.Drift.{stepped, drift, lamp}
use Rattle.quaternion.proofs.drift_stands.Goals as goal

pub returns : goal.returns
returns c = record { step = stepped; fair = axis_fair; drift = drift; told = told; lamp = lamp; beam = beamed }
