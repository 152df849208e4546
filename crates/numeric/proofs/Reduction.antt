-- Quarter turns taken off an angle a from 0 to 1000: their number k, and what k leaves of a.
use Rattle.std.proofs.Common.{◌≡◌, ℕ, suc, ◌^◌, pos, sym, refl, ap, ◌∙◌, arith, lit≤, leb→le}
use Prim.Native.Nat as N
use lib.Ieee.{Float, binary64, fits, of_bits, of_int, add, sub, mul}
use Rattle.exact.specs.Fraction.{Frac, whole, part, ◌over◌, inverse, ◌+ᶠ◌, ◌*ᶠ◌}
use Rattle.exact.specs.Sine.{quarter}
use Rattle.exact.proofs.Ring.{con, ◌⊕◌, ◌⊗◌, ⊖◌, ◌⊝◌}
use Rattle.exact.proofs.Rational.{cls, ◌+◌, ◌*◌, ◌-◌, ∅, ◌▸◌, ◌≐◌, ring}
use Rattle.exact.proofs.Order.{◌≤◌, ◌<◌, number, ◌⊞◌, ◌⊠◌, ◌≼◌, ◌by◌, ◌⇒◌, le, half, to_frac}
use Rattle.exact.proofs.Within.{0#, 0ₑ, 1ₑ, num, 2⁻, 0≤num, num_suc, computes, closed, ≤_trans, ≤_of, not_≤, ◌within◌, within_≤, within_at, within_self, within_+, within_*, near, num_≤, <_not, near_size}
use Rattle.exact.proofs.Sines.{left}
use Rattle.exact.proofs.Numbers.{≤_num, ≤_of_<}
use Rattle.rounding.specs.Value.{Is}
use Rattle.rounding.proofs.Values.{#◌}
use Rattle.rounding.proofs.Rounds.{Rounds, Exact, exact_at}
use Rattle.rounding.proofs.Operations.{rounds_≤, rounds_then, difference_rounds}
use Rattle.rounding.proofs.Exact.{minus_zero}
use Rattle.rounding.proofs.Convert.{literal, literal_exact, whole_exact, multiple_exact, truncated}
use Rattle.rounding.proofs.Approx.{known_≤, Approx, itself, given, constant, same}
use Rattle.rounding.proofs.Analysis.{∎, ◌⊳◌, ◌⟨+⟩◌, ◌⟨-⟩◌, ◌⟨*⟩◌, analyse}
use Rattle.numeric.specs.Sine.{turns_per_radian, quarter_turns, quarter_high, quarter_low, remainder}
use Rattle.numeric.specs.Floats.{half as half_float}
use Rattle.numeric.proofs.Numbers.{fixed}

-- ---- the literals

-- 2/P
abbrev per_quarter : Frac
per_quarter = inverse quarter

per_quarter_near : Approx turns_per_radian (cls per_quarter) (pos 13 over 20 +ᶠ part 54) (part 54)
unfolding of_bits fits computes
per_quarter_near = given {b = pos 13 over 20} (literal tt (record { up = closed tt; down = closed tt })) (within_≤ (within_self (closed tt)) (closed tt))

half_near : Approx half_float (cls half) half (whole (pos 0))
unfolding of_bits fits
half_near = constant tt tt

high_exact : Exact quarter_high (cls (pos 1686629713 over (2 ^ 30)))
unfolding of_bits fits
high_exact = literal_exact tt refl

low_exact : Exact quarter_low (cls (pos 4701928774853425 over (2 ^ 86)))
unfolding of_bits fits
low_exact = literal_exact tt refl

low_near : Approx quarter_low (# quarter_low) (part 33) (whole (pos 0))
unfolding of_bits fits
low_near = constant tt tt

-- the first part is within 2^-33 of P/2, and both are within 2^-80
high_off : cls quarter - # quarter_high within 2⁻ 33
unfolding of_bits computes
high_off = record { up = closed tt; down = closed tt }

both_off : cls quarter - # quarter_high - # quarter_low within 2⁻ 80
unfolding of_bits computes
both_off = record { up = closed tt; down = closed tt }

fits_u32 : num 1000 < num (2 ^ 32)
unfolding computes
fits_u32 = record { by = tt }

module _ {a : Float} (i : Is a) (0≤a : 0# ≤ # a) (a≤ : # a ≤ num 1000) where
  -- ---- the number of quarter turns

  -- a · 2/P + 1/2, whose whole part k is
  t : Float
  t = add binary64 (mul binary64 a turns_per_radian) half_float

  -- 650 roundings of 2^-53 in the product and in the sum, 500 in the literal
  t_near : Approx t (# a * cls per_quarter + cls half) (whole (pos 1000)) (part 42)
  unfolding t
  t_near = analyse (itself {b = whole (pos 1000)} i (within_≤ (within_self 0≤a) a≤) ⊳ per_quarter_near ⊳ half_near ⊳ ∎) (λ a p h. a ⟨*⟩ p ⟨+⟩ h) tt

  t≥0 : 0# ≤ # t
  t≥0 = le (# a ▸ # t ▸ ∅) (λ a t. a ⊗ con per_quarter ⊕ con half ≼ t ⊕ con (part 42) ⇒ λ h. 0ₑ ≼ a ⇒ λ k. 0ₑ ≼ t by h ⊞ k ⊠ number per_quarter) tt t_near.rounds.near.down 0≤a

  abbrev k : ℕ
  k = quarter_turns a

  k_is : (num k ≤ # t) × (# t < num (suc k))
  unfolding t
  k_is = truncated 32 t_near.rounds.is t≥0 (not_≤ (λ l. <_not fits_u32 (≤_trans l t_near.size.up)))

  k≤ : N.◌≤◌ k 1000
  k≤ = ≤_num k 1000 (≤_trans k_is.0 t_near.size.up)

  -- a · 2/P − k is 1/2 at most, but for 2^-42
  turns_near : # a * cls per_quarter - num k within cls (half +ᶠ part 42)
  turns_near = record {
    up = le (# a ▸ # t ▸ num k ▸ ∅) (λ a t k. a ⊗ con per_quarter ⊕ con half ≼ t ⊕ con (part 42) ⇒ λ h. t ≼ k ⊕ 1ₑ ⇒ λ l. a ⊗ con per_quarter ⊝ k ≼ con (half +ᶠ part 42) by h ⊞ l) tt t_near.rounds.near.down (≤_trans (≤_of_< k_is.1) (≤_of (num_suc k)));
    down = le (# a ▸ # t ▸ num k ▸ ∅) (λ a t k. t ≼ a ⊗ con per_quarter ⊕ con half ⊕ con (part 42) ⇒ λ h. k ≼ t ⇒ λ l. ⊖ (a ⊗ con per_quarter ⊝ k) ≼ con (half +ᶠ part 42) by h ⊞ l) tt t_near.rounds.near.up k_is.0;
  }

  -- P/4 is 0.7854
  pub left_small : left (# a) (pos k) within cls (pos 79 over 100)
  left_small = within_≤ (within_at (ring (# a ▸ num k ▸ ∅) (λ a k. con quarter ⊗ (a ⊗ con per_quarter ⊝ k) ≐ a ⊝ k ⊗ con quarter) tt) (within_* (within_self (known_≤ tt)) turns_near)) (fixed (con quarter ⊗ con (half +ᶠ part 42) ≼ con (pos 79 over 100)) tt)

  -- 3/4 · 2/P + 1/2 is 0.978
  pub no_turns : # a ≤ cls (pos 3 over 4) → k ≡ 0
  no_turns h = none (leb→le (N.◌*◌ k 100) 99 (to_frac (whole (pos k)) (pos 99 over 100) (≤_trans k_is.0
      (le (# a ▸ # t ▸ ∅) (λ a t. t ≼ a ⊗ con per_quarter ⊕ con half ⊕ con (part 42) ⇒ λ h. a ≼ con (pos 3 over 4) ⇒ λ k. t ≼ con (pos 99 over 100) by h ⊞ k ⊠ number per_quarter) tt t_near.rounds.near.up h))).by)
    where
      none : N.◌≤◌ (N.◌*◌ k 100) 99 → k ≡ 0
      none h = omega arith

  -- ---- what they leave: q is k as a float

  q : Float
  q = of_int binary64 (pos k)

  q_exact : Exact q (num k)
  unfolding q
  q_exact = whole_exact (pos k) (omega (arith, k≤))

  q≤ : num k within num 1000
  q≤ = within_≤ (within_self (0≤num k)) (num_≤ k≤)

  high_taken : Exact (mul binary64 q quarter_high) (num k * # quarter_high)
  unfolding q
  high_taken = multiple_exact k 1686629713 30 high_exact.is high_exact.value (lit≤ tt) (omega (arith, k≤)) (omega (arith, k≤))

  first_small : # a - # mul binary64 q quarter_high within cls (pos 4 over 5)
  first_small = within_≤ (within_at (ring (# a ▸ num k ▸ # quarter_high ▸ ∅) (λ a k h. a ⊝ k ⊗ con quarter ⊕ k ⊗ (con quarter ⊝ h) ≐ a ⊝ k ⊗ h) tt ∙ ap (λ z. # a - z) (sym high_taken.value)) (within_+ left_small (within_* q≤ high_off)))
      (fixed (con (pos 79 over 100) ⊕ con (whole (pos 1000)) ⊗ con (part 33) ≼ con (pos 4 over 5)) tt)

  first : Approx (sub binary64 a (mul binary64 q quarter_high)) (# a - num k * # quarter_high) (pos 4 over 5 +ᶠ (pos 4 over 5) *ᶠ part 53) ((pos 4 over 5) *ᶠ part 53)
  unfolding computes
  first = same (ap (λ z. # a - z) high_taken.value) (given (difference_rounds i high_taken.is first_small (known_≤ tt)) first_small)

  second : Approx (remainder a k) (# a - num k * # quarter_high - num k * # quarter_low) (whole (pos 1)) (part 52)
  unfolding q
  second = analyse (first ⊳ same q_exact.value (itself {b = whole (pos 1000)} q_exact.is (within_at (sym q_exact.value) q≤)) ⊳ low_near ⊳ ∎) (λ d q l. d ⟨-⟩ q ⟨*⟩ l) tt

  -- two differences of 0.8 roundings of 2^-53 are below 2^-52, and 1000 times 2^-80 for the parts of P/2
  pub remainder_near : Rounds (remainder a k) (left (# a) (pos k)) (2⁻ 51)
  remainder_near = rounds_≤ (rounds_then second.rounds (near (within_* q≤ both_off) (ring (# a ▸ num k ▸ # quarter_high ▸ # quarter_low ▸ ∅) (λ a k h l. k ⊗ (con quarter ⊝ h ⊝ l) ≐ a ⊝ k ⊗ h ⊝ k ⊗ l ⊝ (a ⊝ k ⊗ con quarter)) tt)))
      (fixed (con (part 52) ⊕ con (whole (pos 1000)) ⊗ con (part 80) ≼ con (part 51)) tt)

  pub remainder_small : # remainder a k within cls (pos 4 over 5)
  remainder_small = within_≤ (near_size remainder_near.near left_small) (fixed (con (pos 79 over 100) ⊕ con (part 51) ≼ con (pos 4 over 5)) tt)

-- ---- no quarter turns leave a itself: products by 0 and differences from 0 are exact

pub remainder_none : {a : Float} → Is a → Exact (remainder a 0) (# a)
remainder_none {a} i =
    let high = multiple_exact 0 1686629713 30 high_exact.is high_exact.value (lit≤ tt) (lit≤ tt) (lit≤ tt) in
    let low = multiple_exact 0 4701928774853425 86 low_exact.is low_exact.value (lit≤ tt) (lit≤ tt) (lit≤ tt) in
    let d = minus_zero i high.is (high.value ∙ none quarter_high) in
    exact_at d.value (minus_zero d.is low.is (low.value ∙ none quarter_low))
  where
    none : (c : Float) → num 0 * # c ≡ 0#
    none c = ring (# c ▸ ∅) (λ c. 0ₑ ⊗ c ≐ 0ₑ) tt
