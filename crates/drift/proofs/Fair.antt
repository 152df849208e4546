-- Exact turns are of length 1, nearly; a turn about an axis, as it is made, is fair to the exact one.
use Rattle.exact.specs.Fraction.{Frac, 1ᶠ, part, ◌+ᶠ◌}
use Rattle.exact.specs.Quat.{Quat, square}
use Rattle.exact.specs.Distance.{Long}
use Rattle.exact.specs.Turn.{about}
use Rattle.exact.proofs.Within.{1#, 2⁻, closed, computes, ◌≈⟨◌⟩◌, near_≤}
use Rattle.exact.proofs.Quats.{ops, upto_one, upto_≤, ~_≤}
use Rattle.exact.proofs.Distance.{classes, near, back, long_back}
use Rattle.exact.proofs.Turns.{about_length}
use Rattle.rounding.specs.Value.{val}
use Rattle.drift.specs.Drift.{AxisFair}

pub turn_long : (τ : Quat Frac) → square ops (classes τ) ≈⟨ 2⁻ 60 ⟩ 1# → Long τ (1ᶠ +ᶠ part 40)
unfolding computes
turn_long τ h = long_back τ (1ᶠ +ᶠ part 40) (upto_≤ (upto_one (classes τ) h (closed tt)) (closed tt))

pub axis_fair : AxisFair
unfolding computes
axis_fair axis v q h = record { kept = h.kept; near = back _ _ _ (~_≤ (near h.near) (closed tt)); long = turn_long (about axis (val v)) (near_≤ (about_length axis (val v)) (closed tt)) }
