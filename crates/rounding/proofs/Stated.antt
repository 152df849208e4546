-- From rational numbers to fractions: the laws as specs/Theorems.antt states them.
use Rattle.std.proofs.Common.{◌≡◌, ℕ, ◌^◌, ◌⊎◌, ℤ, pos, negsuc, ◌*ℤ◌, nat_abs, sym, refl, ap, ◌∙◌, inl, inr}
use lib.Ieee.{Float}
use Rattle.exact.specs.Fraction.{Frac, whole, magnitude}
use Rattle.exact.proofs.Rational.{cls, ◌*◌, neg, neg_cls}
use Rattle.exact.proofs.Within.{0#}
use Rattle.exact.proofs.Numbers.{over_num, as_over}
use Rattle.exact.proofs.Distance.{close_back, from_≈, same_frac}
use Rattle.rounding.specs.Value.{val, L}
use Rattle.rounding.specs.Theorems.{Rounded, Exactly, Nonzero, Held}
use Rattle.rounding.proofs.Ticks.{L_pos}
use Rattle.rounding.proofs.Values.{#◌, Λ}
use Rattle.rounding.proofs.Rounds.{Rounds, Exact}
use Rattle.rounding.proofs.Exact.{Short}

pub rounded : {r : Float} (t e : Frac) → Rounds r (cls t) (cls e) → Rounded r t e
rounded {r} t e h = (h.is, close_back (val r) e t h.near)

pub exactly : {r : Float} (t : Frac) → Exact r (cls t) → Exactly r t
exactly {r} t h = (h.is, same_frac (val r) t h.value)

pub nonzero : (y : Float) → Nonzero y → # y ≡ 0# → ⊥
nonzero y h e = h (same_frac (val y) (whole (pos 0)) e)

pub short : {t : Frac} → Held t → Short (cls t)
short {t} h = record {
  digits = h.digits;
  zeros = h.zeros;
  is = sym (ap (λ z. z * Λ) (from_≈ t _ h.is) ∙ over_num (h.digits *ℤ pos (2 ^ h.zeros)) L L_pos);
  small = h.small;
  below = h.below;
}

pub held : (t : Frac) → Short (cls t) → Held t
held t h = record {
  digits = h.digits;
  zeros = h.zeros;
  is = same_frac t _ (sym (as_over (h.digits *ℤ pos (2 ^ h.zeros)) L L_pos h.is));
  small = h.small;
  below = h.below;
}

-- |t| is t or −t
pub either : (t : Frac) → (cls (magnitude t) ≡ cls t) ⊎ (cls (magnitude t) ≡ neg (cls t))
either t = go t.num t.low
  where
    go : (z : ℤ) (l : ℕ) → (cls (record { num = pos (nat_abs z); low = l }) ≡ cls (record { num = z; low = l })) ⊎ (cls (record { num = pos (nat_abs z); low = l }) ≡ neg (cls (record { num = z; low = l })))
    go (pos n) l = inl refl
    go (negsuc n) l = inr (neg_cls (record { num = negsuc n; low = l }))
