-- What passed the tests of a layer passes those of its turns.
use Rattle.std.specs.Prelude.{◌≡◌, ℕ, true, T, pos, None, refl, Float}
use Rattle.std.proofs.Common.{rules}
use Rattle.std.specs.Float.Ieee.{fits, le, of_bits}
use Rattle.std.specs.Float.{binary64}
use Rattle.fault.specs.Answers.{clear}
use Rattle.exact.specs.Fraction.{whole}
use Rattle.exact.proofs.Within.{num, closed, computes, within_≤}
use Rattle.exact.proofs.Distance.{size_back}
use Rattle.rounding.specs.Value.{val}
use Rattle.rounding.proofs.Rounds.{Exact, own}
use Rattle.rounding.proofs.Compare.{le_yes}
use Rattle.rounding.proofs.Convert.{literal_exact}
use Rattle.numeric.specs.Floats.{bits, size}
use Rattle.numeric.specs.Tests.{angle_fault}
use Rattle.numeric.specs.Laws.{Angle}
use Rattle.numeric.proofs.Tests.{number_is, angle_is}
use Rattle.numeric.proofs.Sines.{sized, size_within}
use Rattle.exact.specs.Turn.{X, Z, exact_turn}
use Rattle.euler.specs.Orders.{letters, order}
use Rattle.drift.specs.Tests.{turn_fault, euler_fault}
use Rattle.drift.specs.Turns as F
use Rattle.drift.specs.Laws.{IsTurn, Fair}
use Rattle.drift.proofs.About.{turn_law}
use Rattle.drift.proofs.EulerTurns.{order_turn}
use Rattle.mount.specs.Facts.{angles_fault, swing_fault, swings_fault}
use Rattle.mount.specs.declared.settings.Setting.{Setting}
use Rattle.mount.specs.declared.settings.Aim.{Aim}

-- ---- a bracket's angles

angle_again : (i j : ℕ) (v : Float) → clear (angle_fault i v) ≡ true → angle_fault j v ≡ None
angle_again i j v h = search rules

pub set_passes : (a b c : Float) → clear (angles_fault a b c) ≡ true → euler_fault a b c ≡ None
set_passes a b c h = search rules

-- each of them is an angle
pub set_angles : (a b c : Float) → T (fits binary64 a) → T (fits binary64 b) → T (fits binary64 c) → clear (angles_fault a b c) ≡ true → Angle a × Angle b × Angle c
set_angles a b c fa fb fc h = (angle_is a (number_is a fa (search rules)) (search rules), angle_is b (number_is b fb (search rules)) (search rules), angle_is c (number_is c fc (search rules)) (search rules))

-- so that its turn is fair
pub set_fair : (s : Setting) → Fair (F.by_order (order s.name) s.a s.b s.c) (exact_turn (letters s.name) (val s.a) (val s.b) (val s.c))
set_fair s =
    let angles = set_angles s.a s.b s.c s.fits_a s.fits_b s.fits_c s.fine in
    order_turn s.name s.a s.b s.c angles.0 angles.1 angles.2

-- ---- a yoke's

ten : Exact (bits 0x4024_0000_0000_0000) (num 10)
unfolding of_bits fits
ten = literal_exact tt refl

swing_angle : (at : ℕ) (v : Float) → T (fits binary64 v) → clear (swing_fault at v) ≡ true → Angle v
unfolding computes
swing_angle at v f h =
    let i = number_is v f (search rules) in
    let l : le (size v) (bits 0x4024_0000_0000_0000) ≡ true = search rules in
    record { is = i; size = size_back (val v) (whole (pos 1000)) (within_≤ (size_within i (le_yes (own (sized v i).0) ten l)) (closed tt)) }

pub aim_angles : (pan tilt : Float) → T (fits binary64 pan) → T (fits binary64 tilt) → clear (swings_fault pan tilt) ≡ true → Angle pan × Angle tilt
aim_angles pan tilt fp ft h = (swing_angle 1 pan fp (search rules), swing_angle 2 tilt ft (search rules))

-- so that its turns are made
module _ (s : Aim) where
  angles : Angle s.pan × Angle s.tilt
  angles = aim_angles s.pan s.tilt s.fits_pan s.fits_tilt s.fine

  pub pan_is : IsTurn Z s.pan (F.about Z s.pan)
  pan_is = (turn_law Z s.pan angles.0).0

  pub tilt_is : IsTurn X s.tilt (F.about X s.tilt)
  tilt_is = (turn_law X s.tilt angles.1).0

  pub pan_passes : turn_fault s.pan ≡ None
  pan_passes = (turn_law Z s.pan angles.0).1

  pub tilt_passes : turn_fault s.tilt ≡ None
  tilt_passes = (turn_law X s.tilt angles.1).1

pub ruleset aim_turns = (pan_is, tilt_is, pan_passes, tilt_passes)
