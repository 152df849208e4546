-- Rational numbers: closed ones, the larger of two, opposites and magnitudes.
use Rattle.std.proofs.Common.{◌≡◌, zero, T, pos, ap, ◌∙◌, inl, inr}
use Rattle.exact.specs.Fraction.{Frac, whole}
use Rattle.exact.proofs.Ring.{⊖◌}
use Rattle.exact.proofs.Rational.{ℚ, cls, neg, ∅, ◌▸◌, ◌≐◌, ring}
use Rattle.exact.proofs.Order.{◌≤◌, number, ◌⊠◌, Claim, ◌≼◌, ◌by◌, ◌⇒◌, Holds, proves, nothing, le}
use Rattle.exact.proofs.Within.{0#, 0ₑ, computes, closed, ≤_trans, ≤_of, ≤_antisym, ◌within◌, within_at, within_self, within_neg}
use Rattle.rounding.specs.Theorems.{magnitude}
use Rattle.rounding.proofs.Stated.{either}

-- closed numbers: `fixed (con a ⊗ con b ≼ con c) tt`
pub fixed : (c : Claim) → T (proves zero (nothing ∅) (c by number (whole (pos 0)))) → Holds ∅ c
fixed c = le ∅ (c by number (whole (pos 0)))

pub opposite : {x y : ℚ} → y ≡ neg x → neg y ≡ x
opposite {x} e = ap neg e ∙ ring (x ▸ ∅) (λ x. ⊖ ⊖ x ≐ x) tt

-- 0 alone is its own opposite
pub own_opposite : {x : ℚ} → 0# ≤ x → 0# ≤ neg x → neg x ≡ x
own_opposite {x} h k = ≤_antisym (le (x ▸ ∅) (λ x. 0ₑ ≼ x ⇒ λ h. ⊖ x ≼ x by number (whole (pos 2)) ⊠ h) tt h) (le (x ▸ ∅) (λ x. 0ₑ ≼ ⊖ x ⇒ λ k. x ≼ ⊖ x by number (whole (pos 2)) ⊠ k) tt k)

-- |a|
pub in_magnitude : (a : Frac) → cls a within cls (magnitude a)
unfolding computes
in_magnitude a = elim (either a) [ inl e ↦ within_at e own | inr e ↦ within_at (opposite e) (within_neg own) ]
  where
    own : cls (magnitude a) within cls (magnitude a)
    own = within_self (closed tt)

pub magnitude_≤ : (a : Frac) {b : ℚ} → cls a within b → cls (magnitude a) ≤ b
magnitude_≤ a h = elim (either a) [ inl e ↦ ≤_trans (≤_of e) h.up | inr e ↦ ≤_trans (≤_of e) h.down ]
