use Rattle.drift.proofs.Fair.{axis_fair}
use Rattle.drift.proofs.Drift.{hung_stands, turn_drifts, told}
use Rattle.drift.proofs.Images.{beamed}
use Rattle.drift.proofs.drift_stands.Goals as goal

pub returns : goal.returns
returns c = record { axis = axis_fair; hung = hung_stands; turn = turn_drifts; told = told; beam = beamed }
