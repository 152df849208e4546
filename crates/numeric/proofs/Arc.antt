-- The arc tangent near 0. How far t is from an angle whose tangent is u is told by u C(t) − S(t): for t = u − u³/3 + … − u¹⁵/15, and for t = u, it is one polynomial in u, bounded by computing.
use Rattle.std.proofs.Common.{drop, ◌≡◌, ℕ, Bool, true, false, not, T, List, [], ◌∷◌, ℤ, pos, sym, ap, ◌∙◌, ap₂, lit<}
use Prim.Native.Nat as N
use lib.Ieee.{Float, of_bits, fits}
use Rattle.exact.specs.Fraction.{Frac, whole, part, ◌over◌, ◌+ᶠ◌, ◌-ᶠ◌, ◌*ᶠ◌}
use Rattle.exact.specs.Sine.{odds, evens}
use Rattle.exact.proofs.Ring.{con, ◌⊕◌, ◌⊗◌, ⊖◌, ◌⊝◌}
use Rattle.exact.proofs.Ints.{is_zero, is_zero_is}
use Rattle.exact.proofs.Rational.{ℚ, cls, ◌+◌, ◌*◌, ◌-◌, Ex, ∅, ◌▸◌, ◌≐◌, ring}
use Rattle.exact.proofs.Order.{◌≤◌, number, ◌⊠◌, ◌≼◌, ◌by◌, ◌⇒◌, le}
use Rattle.exact.proofs.Within.{0#, 1#, 0ₑ, 1ₑ, num, 2⁻, num_*, 0≤num, computes, closed, ≤_of, ◌within◌, within_+, within_*, within_≤, within_neg, within_at, within_self, within_nonneg, ◌≈⟨◌⟩◌, near, apart, near_size}
use Rattle.exact.proofs.Pairs.{Pair, ◌≋⟨◌⟩◌}
use Rattle.exact.proofs.Polys.{ev, bound, bound_is, shift_is, ℤ_num, ℤ_means, Px, leaf, ◌⊹◌, ◌⊛◌, ~◌, ◌at◌, flat, mean, flat_is, const_is, line_is}
use Rattle.exact.proofs.Waves.{wave_steady}
use Rattle.exact.proofs.Series.{Sₚ, Cₚ, Sᵥ, Cᵥ, S_is, C_is, value, common, even_lots, wave}
use Rattle.exact.proofs.Numbers.{divide}
use Rattle.rounding.specs.Value.{signed, Is}
use Rattle.rounding.proofs.Values.{#◌}
use Rattle.rounding.proofs.Rounds.{Rounds}
use Rattle.rounding.proofs.Approx.{known_≤}
use Rattle.numeric.specs.Floats.{bits}
use Rattle.numeric.specs.ArcTangent.{odd_parts, atan_kernel}
use Rattle.numeric.proofs.Polynomials.{nest, most, most_is, Bounds, share_≤, odd_near}

-- u c − s: 0 where s and c are the sine and the cosine of an angle whose tangent is u
abbrev pub off : ℚ → Pair → ℚ
off u w = u * w.c - w.s

pub off_near : {u m e : ℚ} {v w : Pair} → u within m → v ≋⟨ e ⟩ w → off u v ≈⟨ m * e + e ⟩ off u w
off_near {u} {v = v} {w} h k = near (within_+ (within_* h (apart k.of_c)) (within_neg (apart k.of_s)))
    (ring (u ▸ v.s ▸ v.c ▸ w.s ▸ w.c ▸ ∅) (λ u s c r d. u ⊗ (c ⊝ d) ⊕ ⊖ (s ⊝ r) ≐ u ⊗ c ⊝ s ⊝ (u ⊗ d ⊝ r)) tt)

-- ---- polynomials without a constant, in proportion to their variable

abbrev headless : List ℤ → Bool
headless [] = true
headless (c ∷ p) = is_zero c

tail_is : (p : List ℤ) (x : ℚ) → T (headless p) → value p x ≡ x * value (drop 1 p) x
unfolding ev
tail_is [] x t = ring (x ▸ ∅) (λ x. 0ₑ ≐ x ⊗ 0ₑ) tt
tail_is (c ∷ p) x t = ap (λ (z : ℤ). value (z ∷ p) x) (is_zero_is c t) ∙ shift_is ℤ_num ℤ_means p x

-- ---- u C(f u) − S(f u) for a polynomial f, with whole coefficients p: D f(u) in d u

module _ (d D : ℕ) (p : List ℤ) where
  abbrev κ : ℕ
  κ = N.◌*◌ d (common D)

  abbrev off_poly : Px ℤ
  off_poly = leaf (pos 0 ∷ pos 1 ∷ []) ⊛ (Cₚ D at leaf p) ⊹ ~ (leaf (pos d ∷ []) ⊛ (Sₚ D at leaf p))

  abbrev off_bound : ℚ
  off_bound = num d * num (bound ℤ_num 1 (drop 1 (flat ℤ_num off_poly))) * cls (pos 1 over κ)

  module _ (f : ℚ → ℚ) (p_is : (x : ℚ) → value p (num d * x) ≡ num D * f x) (odd : T (even_lots (common D) D odds)) (even : T (even_lots (common D) D evens)) where
    off_is : (x : ℚ) → mean ℤ_num ℤ_means (num d * x) off_poly ≡ num κ * off x (wave (f x))
    off_is x = ap₂ (λ u v. u - v)
        (ap₂ (λ u v. u * v) (line_is ℤ_num ℤ_means (pos 0) (pos 1) (num d * x)) (ap (value (Cₚ D)) (p_is x) ∙ C_is D (f x) even))
        (ap₂ (λ u v. u * v) (const_is ℤ_num ℤ_means (pos d) (num d * x)) (ap (value (Sₚ D)) (p_is x) ∙ S_is D (f x) odd))
        ∙ ring (num d ▸ num (common D) ▸ x ▸ Cᵥ (f x) ▸ Sᵥ (f x) ▸ ∅) (λ d κ x c s. (0ₑ ⊕ d ⊗ x ⊗ 1ₑ) ⊗ (κ ⊗ c) ⊝ d ⊗ (κ ⊗ s) ≐ d ⊗ κ ⊗ (x ⊗ c ⊝ s)) tt
        ∙ ap (λ v. v * off x (wave (f x))) (sym (num_* d (common D)))

    -- |d x| ≤ 1 and |x| ≤ w
    off_within : {x w e : ℚ} → N.◌<◌ 0 κ → T (headless (flat ℤ_num off_poly)) → num d * x within num 1 → x within w → off_bound ≤ e → off x (wave (f x)) within w * e
    off_within {x} {w} {e} above t h k b = divide κ above
        (within_at (sym (tail_is (flat ℤ_num off_poly) (num d * x) t) ∙ flat_is ℤ_num ℤ_means (num d * x) off_poly ∙ off_is x) (within_* (within_* (within_self (0≤num d)) k) (bound_is ℤ_num ℤ_means (drop 1 (flat ℤ_num off_poly)) h)))
        (le (num d ▸ w ▸ num (bound ℤ_num 1 (drop 1 (flat ℤ_num off_poly))) ▸ cls (pos 1 over κ) ▸ e ▸ ∅) (λ d w b i e. 0ₑ ≼ w ⇒ λ h. d ⊗ b ⊗ i ≼ e ⇒ λ k. d ⊗ w ⊗ b ⊗ i ≼ w ⊗ e by h ⊠ k) tt (within_nonneg k) b)

-- ---- f u = u, for |u| ≤ 2⁻²⁷: u³/3 and less

abbrev 2²⁷ : ℕ
2²⁷ = N.◌^◌ 2 27

itself_bound : off_bound 2²⁷ 2²⁷ (pos 0 ∷ pos 1 ∷ []) ≤ 2⁻ 55
unfolding computes Sₚ Cₚ
itself_bound = closed tt

itself_headless : T (headless (flat ℤ_num (off_poly 2²⁷ 2²⁷ (pos 0 ∷ pos 1 ∷ []))))
unfolding Sₚ Cₚ
itself_headless = tt

pub itself_off : {u w : ℚ} → u within 2⁻ 27 → u within w → off u (wave u) within w * 2⁻ 55
unfolding computes
itself_off h k = off_within 2²⁷ 2²⁷ (pos 0 ∷ pos 1 ∷ []) (λ x. x) (λ x. line_is ℤ_num ℤ_means (pos 0) (pos 1) (num 2²⁷ * x) ∙ ring (num 2²⁷ ▸ x ▸ ∅) (λ d x. 0ₑ ⊕ d ⊗ x ⊗ 1ₑ ≐ d ⊗ x) tt) tt tt
    (lit< tt) itself_headless (within_≤ (within_* (within_self (0≤num 2²⁷)) h) (closed tt)) k itself_bound

-- ---- f u = u − u³/3 + … − u¹⁵/15, for |u| ≤ 1/8

abbrev odd_numbers : List ℕ
odd_numbers = 5 ∷ 7 ∷ 9 ∷ 11 ∷ 13 ∷ 15 ∷ []

abbrev over_each : List ℕ → List Frac
over_each [] = []
over_each (n ∷ ns) = pos 1 over n ∷ over_each ns

abbrev third : Frac
third = pos 1 over 3

unfoldable pub arc : ℚ → ℚ
arc x = x - x * (x * x * nest (x * x) (third ∷ over_each odd_numbers))

-- 8¹⁵ times a number that 3, 5, … 15 divide
abbrev D : ℕ
D = N.◌*◌ 45045 (N.◌^◌ 8 15)

-- D arc(x) in 8 x: no even powers, and D / (n 8ⁿ) with the signs in turn
abbrev arc_terms : Bool → List ℕ → List ℤ
arc_terms s [] = []
arc_terms s (n ∷ ns) = pos 0 ∷ signed s (N.◌/◌ D (N.◌*◌ n (N.◌^◌ 8 n))) ∷ arc_terms (not s) ns

abbrev arc_poly : List ℤ
arc_poly = arc_terms false (1 ∷ 3 ∷ odd_numbers)

-- a polynomial, and a nest, as terms of the solver
abbrev polyₑ : List ℤ → Ex → Ex
polyₑ [] x = 0ₑ
polyₑ (c ∷ p) x = con (whole c) ⊕ x ⊗ polyₑ p x

abbrev nestₑ : Ex → List Frac → Ex
nestₑ z [] = 0ₑ
nestₑ z (a ∷ l) = con a ⊝ z ⊗ nestₑ z l

arc_is : (x : ℚ) → value arc_poly (num 8 * x) ≡ num D * arc x
unfolding ev nest arc
arc_is x = ring (x ▸ ∅) (λ x. polyₑ arc_poly (con (whole (pos 8)) ⊗ x) ≐ con (whole (pos D)) ⊗ (x ⊝ x ⊗ (x ⊗ x ⊗ nestₑ (x ⊗ x) (third ∷ over_each odd_numbers)))) tt

-- u¹⁷/17 and less: 2⁻⁴⁸ / 17
arc_bound : off_bound 8 D arc_poly ≤ 2⁻ 51
unfolding computes Sₚ Cₚ
arc_bound = closed tt

arc_headless : T (headless (flat ℤ_num (off_poly 8 D arc_poly)))
unfolding Sₚ Cₚ
arc_headless = tt

arc_off : {u w : ℚ} → u within 2⁻ 3 → u within w → off u (wave (arc u)) within w * 2⁻ 51
unfolding computes
arc_off h k = off_within 8 D arc_poly arc arc_is tt tt (lit< tt) arc_headless (within_≤ (within_* (within_self (0≤num 8)) h) (closed tt)) k arc_bound

-- arc u is u, less at most 1/128 of it: u² / 3 and a little
arc_share : 2⁻ 6 * cls (most (part 6) (third ∷ over_each odd_numbers)) ≤ 2⁻ 7
unfolding computes
arc_share = closed tt

arc_size : {u w : ℚ} → u within 2⁻ 3 → u within w → arc u - u within w * 2⁻ 7
unfolding arc
arc_size {u} {w} h k = within_≤ (within_at (ring (u ▸ nest (u * u) (third ∷ over_each odd_numbers) ▸ ∅) (λ u n. ⊖ (u ⊗ (u ⊗ u ⊗ n)) ≐ u ⊝ u ⊗ (u ⊗ u ⊗ n) ⊝ u) tt) (within_neg (within_* k (within_* square (most_is square (third ∷ over_each odd_numbers)))))) (share_≤ (within_nonneg k) arc_share)
  where
    square : u * u within 2⁻ 6
    square = within_≤ (within_* h h) (≤_of (ring ∅ (con (part 3) ⊗ con (part 3) ≐ con (part 6)) tt))

-- ---- the kernel

-- of each step of Horner's rule: coefficients of 1/3 at most, literals within 2⁻⁵⁵ of them, results of 1/2 at most and within 2⁻⁵³
abbrev step : Bounds
step = record { k = third; d = part 55; m = pos 1 over 2; e = part 53 }

module _ {u : Float} {w : ℚ} (i : Is u) (h : # u within w) (low : 2⁻ 100 ≤ w) (high : w ≤ 2⁻ 3) where
  -- 2⁻⁵³ for the last difference, and some 2⁻⁵⁸ for what it takes away
  pub kernel_near : Rounds (atan_kernel u) (arc (# u)) (w * 2⁻ 52)
  unfolding computes of_bits fits arc
  kernel_near = odd_near step (part 3) (part 52) tt i h low high (bits 0x3FD5_5555_5555_5555) odd_parts third (over_each odd_numbers) tt

  u_in : # u within 2⁻ 3
  u_in = within_≤ h high

  -- 1/128 for the series, 2⁻⁵² for the roundings
  pub kernel_size : # atan_kernel u - # u within w * 2⁻ 6
  kernel_size = within_≤ (within_at (ring (# atan_kernel u ▸ arc (# u) ▸ # u ▸ ∅) (λ t a u. t ⊝ a ⊕ (a ⊝ u) ≐ t ⊝ u) tt) (within_+ (apart kernel_near.near) (arc_size u_in h)))
      (le (w ▸ ∅) (λ w. 0ₑ ≼ w ⇒ λ h. w ⊗ con (part 52) ⊕ w ⊗ con (part 7) ≼ w ⊗ con (part 6) by h ⊠ number (part 6 -ᶠ (part 52 +ᶠ part 7))) tt (within_nonneg h))

  near_one : {x : ℚ} → x - # u within w * 2⁻ 6 → x within 1#
  near_one {x} k = within_≤ (within_at (ring (x ▸ # u ▸ ∅) (λ x u. u ⊕ (x ⊝ u) ≐ x) tt) (within_+ u_in k))
      (le (w ▸ ∅) (λ w. w ≼ con (part 3) ⇒ λ h. con (part 3) ⊕ w ⊗ con (part 6) ≼ 1ₑ by number (part 6) ⊠ h) tt high)

  -- 9/8 of 2⁻⁵² for the roundings, 2⁻⁵¹ for the series
  pub kernel_off : off (# u) (wave (# atan_kernel u)) within w * 2⁻ 50
  kernel_off =
      let a_one = near_one (within_≤ (arc_size u_in h) (share_≤ (within_nonneg h) (known_≤ tt))) in
      within_≤ (near_size (off_near u_in (wave_steady (arc (# u)) (# atan_kernel u) (w * 2⁻ 52) a_one (near_one kernel_size) (apart kernel_near.near))) (arc_off u_in h))
      (le (w ▸ ∅) (λ w. 0ₑ ≼ w ⇒ λ h. w ⊗ con (part 51) ⊕ (con (part 3) ⊗ (w ⊗ con (part 52) ⊗ (1ₑ ⊕ con (part 68))) ⊕ w ⊗ con (part 52) ⊗ (1ₑ ⊕ con (part 68))) ≼ w ⊗ con (part 50)
      by h ⊠ number (part 50 -ᶠ (part 51 +ᶠ (part 3 +ᶠ whole (pos 1)) *ᶠ (part 52 *ᶠ (whole (pos 1) +ᶠ part 68))))) tt (within_nonneg h))

-- ---- what is to be shown of the arc tangent of a q from 0 to 1

-- P/4 and more, yet below 1
abbrev pub over_eighth : Frac
over_eighth = pos 19 over 20

pub over_one : {x : ℚ} → x within cls over_eighth → x within 1#
over_one h = within_≤ h (known_≤ tt)

-- t is the angle whose tangent is q, for a q from 0 to 1: within a share of 2⁻⁴⁵, for the pieces; 2⁻⁵⁰ would do for the series
pub record Aims (t : Float) (q : ℚ) : Type 0 where
  pub is : Is t
  pub low : 0# ≤ # t
  pub high : # t ≤ cls over_eighth
  pub most : # t ≤ num 8 * q
  pub near : off q (wave (# t)) within q * 2⁻ 45
