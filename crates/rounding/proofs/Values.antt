-- The value of a float as a rational number, `# x`, and the same in ticks.
use Rattle.std.proofs.Common.{◌≡◌, ℕ, Bool, T, ℤ, pos, ◌*ℤ◌, sym, refl, ap, ◌∙◌, ap₂}
use mathlib.Core.Quot.{sound}
use Prim.Native.Nat as N
use lib.Ieee as F
use lib.Ieee.{Float, nan, inf, fin, binary64, up, down}
use lib.Ieee.Exact.{HasValue}
use lib.Ieee.Fits.{down_pos, neg-fits}
use lib.Ieee.Scale.{finite}
use Rattle.exact.specs.Fraction.{Frac, ◌over◌, whole}
use Rattle.exact.specs.Fraction.{neg as negᶠ}
use Rattle.exact.proofs.Ring.{◌⊗◌}
use Rattle.exact.proofs.Rational.{ℚ, cls, ◌*◌, neg, neg_cls, ∅, ◌▸◌, ◌≐◌, ring, whole_*}
use Rattle.exact.proofs.Within.{0#, 1#, num, 2⁻, computes}
use Rattle.exact.proofs.Order.{◌<◌}
use Rattle.exact.proofs.Numbers.{over_num, as_over, 0<num, cancel_≡}
use Rattle.rounding.specs.Value.{signed, top, bottom, val, L, ticks, Is}
use Rattle.rounding.proofs.Signs.{signed_scale}
use Rattle.rounding.proofs.Ticks.{L_pos, bottom_pos, value_ticks, neg_top, neg_finite}

-- a whole number as a rational number
abbrev pub W : ℤ → ℚ
W z = cls (whole z)

infix 90 #◌
abbrev pub #◌ : Float → ℚ
# x = cls (val x)

pub neg_val : (x : Float) → val (F.neg x) ≡ negᶠ (val x)
neg_val x = ap₂ (λ (n : ℤ) (d : ℕ). n over d) (neg_top x).0 (neg_top x).1

pub neg_value : (x : Float) → # F.neg x ≡ neg (# x)
neg_value x = ap (λ (f : Frac). cls f) (neg_val x) ∙ neg_cls (val x)

pub neg_is : {x : Float} → Is x → Is (F.neg x)
neg_is {x} i = record { fit = neg-fits binary64 x i.fit; fin = neg_finite x i.fin }

-- a float of the size a / c
pub of_value : (x : Float) (s : Bool) (a c : ℕ) → N.◌<◌ 0 c → HasValue x s a c → T (finite x) × (# x ≡ cls (signed s a over c))
of_value nan s a c C v = absurd v
of_value (inf t) s a c C v = absurd v
of_value (fin t m e) s a c C v = (
  tt,
  as_over (signed t (N.◌*◌ m (up e))) (down e) (down_pos e)
      (cancel_≡ (0<num c C) (sym (whole_* (signed t (N.◌*◌ m (up e))) (pos c)) ∙ ap W crossed ∙ whole_* (signed s a) (pos (down e)) ∙ ap (λ w. w * num (down e)) (sym (over_num (signed s a) c C))
      ∙ ring (cls (signed s a over c) ▸ num c ▸ num (down e) ▸ ∅) (λ q c d. q ⊗ c ⊗ d ≐ q ⊗ d ⊗ c) tt)),
)
  where
    crossed : signed t (N.◌*◌ m (up e)) *ℤ pos c ≡ signed s a *ℤ pos (down e)
    crossed = ap (λ (b : Bool). signed b (N.◌*◌ m (up e)) *ℤ pos c) v.0 ∙ signed_scale s (N.◌*◌ m (up e)) c ∙ ap (signed s) v.1 ∙ sym (signed_scale s a (down e))

-- ---- ticks: Λ of them are one, and each is λ₁

abbrev pub Λ : ℚ
Λ = num L

abbrev pub λ₁ : ℚ
λ₁ = 2⁻ 1074

pub ticks_in_one : Λ * λ₁ ≡ 1#
unfolding computes L
ticks_in_one = sound refl

pub 0<Λ : 0# < Λ
0<Λ = 0<num L L_pos

pub of_ticks : {x : Float} → Is x → W (ticks x) ≡ # x * Λ
of_ticks {x} i = cancel_≡ (0<num (bottom x) (bottom_pos x))
    (sym (whole_* (ticks x) (pos (bottom x))) ∙ ap W (value_ticks x i.fit i.fin) ∙ whole_* (top x) (pos L) ∙ ap (λ w. w * Λ) (sym (over_num (top x) (bottom x) (bottom_pos x)))
    ∙ ring (# x ▸ num (bottom x) ▸ Λ ▸ ∅) (λ x b Λ. x ⊗ b ⊗ Λ ≐ x ⊗ Λ ⊗ b) tt)
