-- Errors in proportion: `Share x t c l` says that the float x rounds t, which is not below 0, but for the share c of t and for l. So sums of squares lose nothing to cancellation.
use lib.Ieee.Fits.{and_l, and_r}
use Rattle.std.proofs.Common.{◌&&◌, T, pos}
use lib.Ieee.{Float, binary64, add, mul}
use Rattle.exact.specs.Fraction.{Frac, whole, ◌+ᶠ◌, ◌*ᶠ◌}
use Rattle.exact.proofs.Ring.{con, ◌⊕◌, ◌⊗◌}
use Rattle.exact.proofs.Rational.{ℚ, cls, ◌+◌, ◌*◌, ∅, ◌▸◌, ◌≐◌, ring}
use Rattle.exact.proofs.Order.{◌≤◌, number, ◌⊞◌, ◌⊠◌, ◌≼◌, ◌by◌, ◌⇒◌, le}
use Rattle.exact.proofs.Within.{0#, 0ₑ, 1ₑ, computes, ≤_trans, ≤_of, 0≤+, 0≤square, ◌≈⟨◌⟩◌, near_≤, near_+, within_self, near_size}
use Rattle.rounding.specs.Value.{Is}
use Rattle.rounding.specs.Theorems.{limit}
use Rattle.rounding.proofs.Values.{#◌}
use Rattle.rounding.proofs.Rounds.{Rounds}
use Rattle.rounding.proofs.Operations.{rounds_≤, rounds_then, sum_rounds, product_rounds}
use Rattle.rounding.proofs.Approx.{◌≤ᵇ◌, known_≤, u, tiny, grown}

pub record Share (x : Float) (t : ℚ) (c l : Frac) : Type 0 where
  pub rounds : Rounds x t (t * cls c + cls l)
  pub nonneg : 0# ≤ t

pub product_share : {x y : Float} → Is x → Is y → 0# ≤ # x * # y → # x * # y ≤ cls limit → Share (mul binary64 x y) (# x * # y) u tiny
product_share i j p h = record { rounds = product_rounds i j (within_self p) h; nonneg = p }

pub square_share : {x : Float} → Is x → # x * # x ≤ cls limit → Share (mul binary64 x x) (# x * # x) u tiny
square_share {x} i h = product_share i i (0≤square (# x)) h

-- s + t is m at most, and the share d is c at most
pub sum_share : {x y : Float} {s t : ℚ} {c d l k : Frac} (m : Frac) → Share x s c l → Share y t d k → s + t ≤ cls m → T (whole (pos 0) ≤ᵇ c && d ≤ᵇ c) → T (m *ᶠ (whole (pos 1) +ᶠ c) +ᶠ (l +ᶠ k) ≤ᵇ limit)
    → Share (add binary64 x y) (s + t) (c *ᶠ grown +ᶠ u) ((l +ᶠ k) *ᶠ grown)
unfolding computes
sum_share {x} {y} {s} {t} {c} {d} {l} {k} m p q h o r =
    let both : # x + # y ≈⟨ (s + t) * cls c + cls (l +ᶠ k) ⟩ s + t = near_≤ (near_+ p.rounds.near q.rounds.near) (le (s ▸ t ▸ cls c ▸ cls d ▸ cls l ▸ cls k ▸ ∅) (λ s t c d l k. 0ₑ ≼ t ⇒ λ h. d ≼ c ⇒ λ o. s ⊗ c ⊕ l ⊕ (t ⊗ d ⊕ k) ≼ (s ⊕ t) ⊗ c ⊕ (l ⊕ k) by h ⊠ o) tt q.nonneg (known_≤ (and_r (whole (pos 0) ≤ᵇ c) (d ≤ᵇ c) o))) in
    let size = near_size both (within_self (0≤+ p.nonneg q.nonneg)) in
    let most = ≤_trans (le (s + t ▸ cls c ▸ cls (l +ᶠ k) ▸ cls m ▸ ∅) (λ t c l m. t ≼ m ⇒ λ h. 0ₑ ≼ c ⇒ λ k. t ⊕ (t ⊗ c ⊕ l) ≼ m ⊗ (1ₑ ⊕ c) ⊕ l by h ⊠ (number (whole (pos 1)) ⊞ k)) tt h (known_≤ (and_l (whole (pos 0) ≤ᵇ c) (d ≤ᵇ c) o))) (known_≤ r) in
    record {
      rounds = rounds_≤ (rounds_then (sum_rounds p.rounds.is q.rounds.is size most) both)
          (≤_of (ring (s + t ▸ cls c ▸ cls (l +ᶠ k) ▸ ∅) (λ t c l. (t ⊕ (t ⊗ c ⊕ l)) ⊗ con u ⊕ (t ⊗ c ⊕ l) ≐ t ⊗ (c ⊗ (1ₑ ⊕ con u) ⊕ con u) ⊕ l ⊗ (1ₑ ⊕ con u)) tt));
      nonneg = 0≤+ p.nonneg q.nonneg;
    }
