-- What passes the tests of three angles.
use Rattle.std.proofs.Common.{◌≡◌, ℕ, Bool, true, false, T, IfOk, Some, None, Option, refl}
use lib.Ieee.{Float, binary64, fits, le}
use Rattle.std.specs.Float.{float_is_finite}
use Rattle.fault.specs.Answers.{answer, unless, within, ◌⨾◌}
use Rattle.fault.specs.declared.NumberFault.{NumberFault}
use Rattle.fault.specs.declared.NumberFault.TheVariants.{NotFinite, TooLarge}
use Rattle.fault.specs.declared.RotationFault.TheVariants.{Number}
use Rattle.numeric.specs.Floats.{size}
use Rattle.numeric.specs.Tests.{largest_angle, angle_fault}
use Rattle.numeric.specs.Laws.{Angle}
use Rattle.numeric.proofs.Tests.{number_is, angle_is}

module _ {A : Type 0} (P : A → Type 0) (a : A) where
  -- what a call that makes a answers after the tests o
  abbrev After : Option NumberFault → Type 0
  After o = IfOk (answer (within Number o) a) P

  one_passes : (place : ℕ) {v : Float} → T (fits binary64 v) → (o : Option NumberFault) → (Angle v → After o) → After (angle_fault place v ⨾ o)
  one_passes place {v} fit o h = go (float_is_finite v) (le (size v) largest_angle) refl refl
    where
      go : (p q : Bool) → float_is_finite v ≡ p → le (size v) largest_angle ≡ q → After ((unless p (NotFinite place) ⨾ unless q (TooLarge place)) ⨾ o)
      go true true e f = h (angle_is v (number_is v fit e) f)
      go true false e f = tt
      go false q e f = tt

  then_none : (o : Option NumberFault) → After (o ⨾ None) → After o
  then_none (Some f) h = h
  then_none None h = h

  pub angles_pass : {x y z : Float} → T (fits binary64 x) → T (fits binary64 y) → T (fits binary64 z) → (Angle x → Angle y → Angle z → P a) → After (angle_fault 1 x ⨾ angle_fault 2 y ⨾ angle_fault 3 z)
  angles_pass {x} {y} {z} fx fy fz h = one_passes 1 fx (angle_fault 2 y ⨾ angle_fault 3 z) (λ hx. one_passes 2 fy (angle_fault 3 z) (λ hy. then_none (angle_fault 3 z) (one_passes 3 fz None (λ hz. h hx hy hz))))
