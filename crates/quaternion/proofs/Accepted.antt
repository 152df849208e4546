-- The laws of the float steps, on answers that no test refuses.
use Rattle.std.proofs.Common.{◌≡◌, Result}
use lib.Ieee.{Float}
use Rattle.fault.specs.Answers.{answer}
use Rattle.fault.specs.declared.RotationFault.{RotationFault}
use Rattle.exact.specs.Quat.{Quat, product}
use Rattle.exact.specs.Vector.{Vec, rotated}
use Rattle.exact.specs.Turn.{Axis}
use Rattle.rounding.specs.Value.{floats}
use Rattle.numeric.specs.Floats.{two}
use Rattle.numeric.specs.Laws.{Angle}
use Rattle.vectors.specs.Vectors.{normal, normal_fault, vector}
use Rattle.vectors.specs.Vectors.{parts as parts3}
use Rattle.vectors.specs.declared.dvec3.DVec3.{DVec3}
use Rattle.drift.specs.Tests.{turn_fault, image_fault}
use Rattle.drift.specs.Turns.{about}
use Rattle.drift.specs.Laws.{Ample, Normalised, Turned, turned, IsTurn, Kept, Sound, Units, IsImage, Gives}
use Rattle.drift.proofs.Tests.{accepted}
use Rattle.drift.proofs.Normalize.{ample_broad, normal_law}
use Rattle.drift.proofs.Step.{turned_law}
use Rattle.drift.proofs.About.{turn_law}
use Rattle.drift.proofs.Images.{image_law}
use Rattle.quaternion.specs.declared.dquat.DQuat.{DQuat}
use Rattle.quaternion.specs.Quaternions.{parts, whole}

abbrev Answer : Type 0
Answer = Result DQuat RotationFault

pub normalises : (q : Quat Float) (r : Answer) → r ≡ answer (normal_fault q) (whole (normal q)) → Ample q → Gives (λ n. Normalised q (parts n)) r
normalises q r e h = let l = normal_law q (ample_broad h) in accepted (λ n. Normalised q (parts n)) r e l.1 l.0

pub turns_on : (k t : Quat Float) (r : Answer) → r ≡ answer (normal_fault (product floats k t)) (whole (turned k t)) → Sound k → Kept t → Gives (λ n. Turned k t (parts n)) r
turns_on k t r e h g = let l = turned_law k t in accepted (λ n. Turned k t (parts n)) r e (l.1 h g) (l.0 h g)

pub turns : (axis : Axis) (v : Float) (r : Answer) → r ≡ answer (turn_fault v) (whole (about axis v)) → Angle v → Gives (λ q. IsTurn axis v (parts q)) r
turns axis v r e a = let l = turn_law axis v a in accepted (λ q. IsTurn axis v (parts q)) r e l.1 l.0

pub images : (q : Quat Float) (v : Vec Float) (r : Result DVec3 RotationFault) → r ≡ answer (image_fault q v) (vector (rotated floats two q v)) → Kept q → Units v → Gives (λ u. IsImage q v (parts3 u)) r
images q v r e h k = let l = image_law q v h k in accepted (λ u. IsImage q v (parts3 u)) r e l.1 l.0
