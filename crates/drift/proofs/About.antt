-- Turns about one axis: by the laws of sine and cosine at half the angle.
use Rattle.std.proofs.Common.{◌≡◌, false, None, sym, ap, ap₂}
use lib.Ieee.{Float, binary64, mul}
use Rattle.fault.specs.Answers.{unless, ◌⨾◌, within as inside}
use Rattle.fault.specs.declared.NumberFault.TheVariants.{NotFinite, TooLarge}
use Rattle.fault.specs.declared.RotationFault.TheVariants.{Number}
use Rattle.exact.specs.Quat.{Quat, square, minus}
use Rattle.exact.specs.Turn.{Axis, X, Y, Z, along, about}
use Rattle.exact.proofs.Ring.{◌⊕◌, ◌⊗◌, ◌⊝◌}
use Rattle.exact.proofs.Rational.{cls, ◌+◌, ◌*◌, ◌-◌, ∅, ◌▸◌, ◌≐◌, ring}
use Rattle.exact.proofs.Within.{0#, 0ₑ, 2⁻, closed, computes, ≤_trans, ≤_of, ≤_+, near_≤, near_trans}
use Rattle.exact.proofs.Within.{apart as gap}
use Rattle.exact.proofs.Quats.{ops, exs, ◌~⟨◌⟩◌, ~_same, square_near, upto_one}
use Rattle.exact.proofs.Distance.{classes, back, size}
use Rattle.exact.proofs.Pairs.{Pair}
use Rattle.exact.proofs.Sines.{exact}
use Rattle.exact.proofs.Turns.{along_cls, about_length}
use Rattle.rounding.specs.Value.{val, Is}
use Rattle.rounding.proofs.Values.{#◌}
use Rattle.rounding.proofs.Rounds.{own}
use Rattle.rounding.proofs.Literals.{zero_exact}
use Rattle.numeric.proofs.Tests.{thousand}
use Rattle.numeric.specs.Laws.{Angle}
use Rattle.numeric.proofs.Sines.{sized, size_≤}
use Rattle.drift.proofs.EulerAngles.{Sines, sines_of, halved, ε, signed_half_sines}
use Rattle.numeric.specs.Floats.{zero, half}
use Rattle.drift.specs.Tests.{turn_fault}
use Rattle.drift.specs.Turns as F
use Rattle.drift.specs.Laws.{Are, IsTurn, TurnLaw}
use Rattle.drift.proofs.Tests.{is_finite, at_most}
use Rattle.drift.proofs.Floats.{values, unit_within, square_of}

-- ---- s and c along an axis

along_are : (axis : Axis) {s c : Float} → Is s → Is c → Are (along zero axis s c)
along_are X s c = record { x = s; y = zero_exact.is; z = zero_exact.is; w = c }
along_are Y s c = record { x = zero_exact.is; y = s; z = zero_exact.is; w = c }
along_are Z s c = record { x = zero_exact.is; y = zero_exact.is; z = s; w = c }

along_values : (axis : Axis) (s c : Float) → values (along zero axis s c) ≡ along 0# axis (# s) (# c)
along_values X s c = ap (λ o. along o X (# s) (# c)) zero_exact.value
along_values Y s c = ap (λ o. along o Y (# s) (# c)) zero_exact.value
along_values Z s c = ap (λ o. along o Z (# s) (# c)) zero_exact.value

pub along_apart : (i : Axis) (v w : Pair) → square ops (minus ops (along 0# i v.s v.c) (along 0# i w.s w.c)) ≡ (v.s - w.s) * (v.s - w.s) + (v.c - w.c) * (v.c - w.c)
along_apart X v w = ring (v.s ▸ v.c ▸ w.s ▸ w.c ▸ ∅) (λ s c s' c'. square exs (minus exs (along 0ₑ X s c) (along 0ₑ X s' c')) ≐ (s ⊝ s') ⊗ (s ⊝ s') ⊕ (c ⊝ c') ⊗ (c ⊝ c')) tt
along_apart Y v w = ring (v.s ▸ v.c ▸ w.s ▸ w.c ▸ ∅) (λ s c s' c'. square exs (minus exs (along 0ₑ Y s c) (along 0ₑ Y s' c')) ≐ (s ⊝ s') ⊗ (s ⊝ s') ⊕ (c ⊝ c') ⊗ (c ⊝ c')) tt
along_apart Z v w = ring (v.s ▸ v.c ▸ w.s ▸ w.c ▸ ∅) (λ s c s' c'. square exs (minus exs (along 0ₑ Z s c) (along 0ₑ Z s' c')) ≐ (s ⊝ s') ⊗ (s ⊝ s') ⊕ (c ⊝ c') ⊗ (c ⊝ c')) tt

-- ---- how near it is

module _ {v : Float} (a : Angle v) (axis : Axis) where
  abbrev q : Quat Float
  q = F.about axis v

  halves : Sines (sines_of (mul binary64 v half)) (exact (halved (val v))) (cls ε)
  halves = signed_half_sines false a

  -- 2 · ε² ≤ (2⁻⁴³)²
  near_about : values q ~⟨ 2⁻ 43 ⟩ classes (about axis (val v))
  unfolding computes
  near_about = ~_same (sym (along_values axis _ _)) (sym (along_cls axis _ _)) (record {
    nonneg = closed tt;
    most = ≤_trans (≤_of (along_apart axis _ (exact (halved (val v))))) (≤_trans (≤_+ (square_of (gap halves.s.near)) (square_of (gap halves.c.near))) (closed tt));
  })

  is_turn : IsTurn axis v q
  unfolding computes
  is_turn =
      let l = about_length axis (val v) in
      record {
        kept = unit_within (along_are axis halves.s.is halves.c.is) (near_≤ (near_trans (square_near (upto_one (classes (about axis (val v))) l (closed tt)) near_about) l) (closed tt));
        near = back _ _ _ near_about;
      }

-- ---- an angle is not refused

angle_passes : {v : Float} → Angle v → turn_fault v ≡ None
angle_passes {v} a = ap₂ (λ b c. inside Number (unless b (NotFinite 0) ⨾ unless c (TooLarge 0))) (is_finite v a.is) (at_most (own (sized v a.is).0) thousand (size_≤ a.is (size a.size)))

pub turn_law : TurnLaw
turn_law axis v a = (is_turn a axis, angle_passes a)
