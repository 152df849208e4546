-- The image of a vector is the product q v q*.
use mathlib.Core.Path.{◌≡◌}
use lib.IntN.{pos}
use Rattle.exact.specs.Fraction.{Frac, whole}
use Rattle.exact.specs.Quat.{Quat, image}
use Rattle.exact.specs.Vector.{Vec, vec, pure, rotated}
use Rattle.exact.proofs.Ring.{con}
use Rattle.exact.proofs.Rational.{ℚ, cls, ∅, ◌▸◌, ◌▹◌}
use Rattle.exact.proofs.Within.{0#, 0ₑ, num}
use Rattle.exact.proofs.Quats.{ops, exs, ◌≗◌, ring4}

abbrev pub classes3 : Vec Frac → Vec ℚ
classes3 v = vec (cls v.x) (cls v.y) (cls v.z)

pub rotated_is : (q : Quat ℚ) (v : Vec ℚ) → pure 0# (rotated ops (num 2) q v) ≡ image ops q (pure 0# v)
rotated_is q v = ring4 (q ▹ v.x ▸ v.y ▸ v.z ▸ ∅) (λ q x y z. pure 0ₑ (rotated exs (con (whole (pos 2))) q (vec x y z)) ≗ image exs q (pure 0ₑ (vec x y z))) tt
