-- Polynomials on floats by Horner's rule. One size m and one error e bound every step: what keeps them at a step c − z h keeps them for a list of any length.
-- The bounds are closed fractions, so that each condition on them is `tt`, under `unfolding of_bits fits computes` where it reads literals.
use lib.Ieee.Fits.{and_l, and_r}
use Rattle.std.proofs.Common.{Bool, false, ◌&&◌, T, List, [], ◌∷◌, pos}
use lib.Ieee.{Float, binary64, fits, sub, mul}
use lib.Ieee.Scale.{finite}
use Rattle.exact.specs.Fraction.{Frac, whole, part, ◌+ᶠ◌, ◌*ᶠ◌}
use Rattle.exact.proofs.Ring.{con, ◌⊕◌, ◌⊗◌, ⊖◌, ◌⊝◌}
use Rattle.exact.proofs.Rational.{ℚ, cls, ◌+◌, ◌*◌, ◌-◌, Ex, ∅, ◌▸◌, ◌≐◌, ring}
use Rattle.exact.proofs.Order.{◌≤◌, number, ◌⊞◌, ◌⊠◌, ◌≼◌, ◌by◌, ◌⇒◌, le}
use Rattle.exact.proofs.Within.{0#, 1#, 0ₑ, 1ₑ, 2⁻, computes, ≤_refl, ≤_trans, ≤_of, ◌within◌, within_≤, within_self, within_neg, within_nonneg, within_+, within_*, near, apart, near_size}
use Rattle.rounding.specs.Value.{val, Is}
use Rattle.rounding.specs.Theorems.{limit, magnitude}
use Rattle.rounding.proofs.Values.{#◌}
use Rattle.rounding.proofs.Rounds.{Rounds}
use Rattle.rounding.proofs.Operations.{rounds_≤, rounds_then, difference_rounds, product_rounds}
use Rattle.rounding.proofs.Convert.{literal}
use Rattle.rounding.proofs.Approx.{◌≤ᵇ◌, known_≤, u, tiny, grown, Approx, itself, given, minus, times, looser}
use Rattle.numeric.specs.Floats.{horner, odd_polynomial}
use Rattle.numeric.proofs.Numbers.{in_magnitude}

-- ---- the exact polynomial

-- a₀ − Z (a₁ − Z (…))
unfoldable pub nest : ℚ → List Frac → ℚ
nest Z [] = 0#
nest Z (a ∷ l) = cls a - Z * nest Z l

-- its size at most, where |Z| ≤ b
abbrev pub most : Frac → List Frac → Frac
most b [] = whole (pos 0)
most b (a ∷ l) = magnitude a +ᶠ b *ᶠ most b l

pub most_is : {Z : ℚ} {b : Frac} → Z within cls b → (l : List Frac) → nest Z l within cls (most b l)
unfolding computes nest
most_is h [] = within_self (≤_refl 0#)
most_is h (a ∷ l) = within_+ (in_magnitude a) (within_neg (within_* h (most_is h l)))

-- ---- Horner's rule

pub record Bounds : Type 0 where
  -- each coefficient is k in size at most, and its literal within d of it
  pub k : Frac
  pub d : Frac
  -- the result of each step is m in size at most, and off by e at most
  pub m : Frac
  pub e : Frac

module _ (B : Bounds) where
  -- the literal c stands for a
  abbrev pub stands : Float → Frac → Bool
  stands c a = (fits binary64 c && finite c) && (val c ≤ᵇ a +ᶠ B.d && a ≤ᵇ val c +ᶠ B.d) && magnitude a ≤ᵇ B.k

  stood : {c : Float} {a : Frac} → T (stands c a) → Approx c (cls a) (B.k +ᶠ B.d) B.d
  unfolding computes
  stood {c} {a} t =
      let is = fits binary64 c && finite c in
      let up = val c ≤ᵇ a +ᶠ B.d in
      let two = up && a ≤ᵇ val c +ᶠ B.d in
      let s = and_l (is && two) _ t in
      given (literal (and_l is two s) (record { up = known_≤ (and_l up _ (and_r is two s)); down = known_≤ (and_r up _ (and_r is two s)) })) (within_≤ (in_magnitude a) (known_≤ (and_r (is && two) _ t)))

  -- the argument z is b in size at most, and off by f at most
  module _ (b f : Frac) where
    -- z h, and c − z h, for a result h
    abbrev pub product_size : Frac
    product_size = b *ᶠ B.m *ᶠ grown +ᶠ tiny

    abbrev pub product_error : Frac
    product_error = b *ᶠ B.m *ᶠ u +ᶠ tiny +ᶠ (b *ᶠ B.e +ᶠ f *ᶠ B.m)

    abbrev pub step_size : Frac
    step_size = B.k +ᶠ B.d +ᶠ product_size

    -- a step from h to c − z h keeps the bounds: about k + b m ≤ m and 2^-53 (k + 2 b m) + d + b e + f m ≤ e
    abbrev pub keeps : Bool
    keeps = b *ᶠ B.m ≤ᵇ limit && (step_size ≤ᵇ limit && (step_size *ᶠ grown ≤ᵇ B.m && step_size *ᶠ u +ᶠ (B.d +ᶠ product_error) ≤ᵇ B.e))

    -- the literals c, cs stand for the first of the coefficients a, l; what the others would add is counted with the last error, so that a series may go on beyond the kernel
    abbrev pub covers : Float → List Float → Frac → List Frac → Bool
    covers c [] a l = stands c a && (B.k +ᶠ B.d +ᶠ b *ᶠ most b l ≤ᵇ B.m && B.d +ᶠ b *ᶠ most b l ≤ᵇ B.e)
    covers c (c' ∷ cs) a [] = false
    covers c (c' ∷ cs) a (a' ∷ l) = stands c a && covers c' cs a' l

    module _ {z : Float} {Z : ℚ} (h : Approx z Z b f) (t : T keeps) where
      pub horner_near : (c : Float) (cs : List Float) (a : Frac) (l : List Frac) → T (covers c cs a l) → Approx (horner z c cs) (nest Z (a ∷ l)) B.m B.e
      unfolding nest computes
      horner_near c [] a l s =
          let q = stood (and_l (stands c a) _ s) in
          let r = within_neg (within_* h.exact (most_is h.exact l)) in
          let fits_m = B.k +ᶠ B.d +ᶠ b *ᶠ most b l ≤ᵇ B.m in
          let m_most = known_≤ (and_l fits_m _ (and_r (stands c a) _ s)) in
          record {
            rounds = rounds_≤ (rounds_then q.rounds (near (within_neg r) (ring (cls a ▸ (Z * nest Z l) ▸ ∅) (λ a r. ⊖ ⊖ r ≐ a ⊝ (a ⊝ r)) tt))) (known_≤ (and_r fits_m _ (and_r (stands c a) _ s)));
            size = within_≤ q.size (≤_trans (le (cls (B.k +ᶠ B.d) ▸ cls (b *ᶠ most b l) ▸ ∅) (λ k r. 0ₑ ≼ r ⇒ λ h. k ≼ k ⊕ r by h) tt (within_nonneg r)) m_most);
            exact = within_≤ (within_+ q.exact r) m_most;
          }
      horner_near c (c' ∷ cs) a [] s = absurd s
      horner_near c (c' ∷ cs) a (a' ∷ l) s =
          let step = and_r (b *ᶠ B.m ≤ᵇ limit) _ t in
          let bounds = and_r (step_size ≤ᵇ limit) _ step in
          looser (minus (stood (and_l (stands c a) _ s)) (times h (horner_near c' cs a' l (and_r (stands c a) _ s)) (and_l (b *ᶠ B.m ≤ᵇ limit) _ t)) (and_l (step_size ≤ᵇ limit) _ step)) (and_l (step_size *ᶠ grown ≤ᵇ B.m) _ bounds) (and_r (step_size *ᶠ grown ≤ᵇ B.m) _ bounds)

-- ---- r − r y, in shares of r: where r is 2^-100 at least, the 2^-1075 that a product may lose is a share of 2^-975

abbrev lost : Frac
lost = part 975

-- of smaller and larger shares
pub share_≤ : {w x y : ℚ} → 0# ≤ w → x ≤ y → w * x ≤ w * y
share_≤ {w} {x} {y} = le (w ▸ x ▸ y ▸ ∅) (λ w x y. 0ₑ ≼ w ⇒ λ h. x ≼ y ⇒ λ k. w ⊗ x ≼ w ⊗ y by h ⊠ k) tt

-- what the rounding of r y adds where |y| ≤ Y, and the size of r − r y; as numbers and in certificates
abbrev rounding : ℚ → ℚ
rounding Y = Y * 2⁻ 53 + cls lost

abbrev rest_size : ℚ → ℚ
rest_size Y = 1# + (Y + rounding Y)

abbrev roundingₑ : Ex → Ex
roundingₑ Y = Y ⊗ con u ⊕ con lost

abbrev rest_sizeₑ : Ex → Ex
rest_sizeₑ Y = 1ₑ ⊕ (Y ⊕ roundingₑ Y)

module _ {r y : Float} {t w b Y e : ℚ} (i : Is r) (hr : # r within w) (low : 2⁻ 100 ≤ w) (high : w ≤ b) (p : Rounds y t e) (hy : # y within Y) (room : b * rest_size Y ≤ cls limit) where
  w≥0 : 0# ≤ w
  w≥0 = within_nonneg hr

  Y≥0 : 0# ≤ Y
  Y≥0 = within_nonneg hy

  product : Rounds (mul binary64 r y) (# r * # y) (w * rounding Y)
  product = rounds_≤ (product_rounds i p.is (within_* hr hy) (≤_trans small room)) (le (w ▸ Y ▸ ∅) (λ w Y. con (part 100) ≼ w ⇒ λ h. w ⊗ Y ⊗ con u ⊕ con tiny ≼ w ⊗ roundingₑ Y by number lost ⊠ h) tt low)
    where
      small : w * Y ≤ b * rest_size Y
      small = le (w ▸ b ▸ Y ▸ ∅) (λ w b Y. 0ₑ ≼ w ⇒ λ h. w ≼ b ⇒ λ k. 0ₑ ≼ Y ⇒ λ o. w ⊗ Y ≼ b ⊗ rest_sizeₑ Y by k ⊠ (number (whole (pos 1) +ᶠ lost) ⊞ o ⊠ number grown) ⊞ h ⊠ (number (whole (pos 1) +ᶠ lost) ⊞ o ⊠ number u)) tt w≥0 high Y≥0

  difference : Rounds (sub binary64 r (mul binary64 r y)) (# r - # mul binary64 r y) (w * rest_size Y * 2⁻ 53)
  difference = difference_rounds i product.is (within_≤ (within_+ hr (within_neg (near_size product.near (within_* hr hy)))) (≤_of (ring (w ▸ Y ▸ ∅) (λ w Y. w ⊕ (w ⊗ Y ⊕ w ⊗ roundingₑ Y) ≐ w ⊗ rest_sizeₑ Y) tt))) (≤_trans small room)
    where
      small : w * rest_size Y ≤ b * rest_size Y
      small = le (w ▸ b ▸ Y ▸ ∅) (λ w b Y. w ≼ b ⇒ λ k. 0ₑ ≼ Y ⇒ λ o. w ⊗ rest_sizeₑ Y ≼ b ⊗ rest_sizeₑ Y by k ⊠ (number (whole (pos 1) +ᶠ lost) ⊞ o ⊠ number grown)) tt high Y≥0

  less_part : Rounds (sub binary64 r (mul binary64 r y)) (# r - # r * t) (w * (rest_size Y * 2⁻ 53 + (rounding Y + e)))
  less_part = rounds_≤ (rounds_then difference (near (within_neg (within_+ (apart product.near) (within_* hr (apart p.near)))) (ring (# r ▸ # mul binary64 r y ▸ # y ▸ t ▸ ∅) (λ r q y t. ⊖ (q ⊝ r ⊗ y ⊕ r ⊗ (y ⊝ t)) ≐ r ⊝ q ⊝ (r ⊝ r ⊗ t)) tt)))
      (≤_of (ring (w ▸ Y ▸ e ▸ ∅) (λ w Y e. w ⊗ rest_sizeₑ Y ⊗ con u ⊕ (w ⊗ roundingₑ Y ⊕ w ⊗ e) ≐ w ⊗ (rest_sizeₑ Y ⊗ con u ⊕ (roundingₑ Y ⊕ e))) tt))

-- ---- polynomials in r², for an r of size b at most

module _ (B : Bounds) (b : Frac) where
  abbrev pub square_size : Frac
  square_size = b *ᶠ b *ᶠ grown +ᶠ tiny

  abbrev pub square_error : Frac
  square_error = b *ᶠ b *ᶠ u +ᶠ tiny +ᶠ (b *ᶠ whole (pos 0) +ᶠ whole (pos 0) *ᶠ b)

  abbrev pub square_keeps : Bool
  square_keeps = b *ᶠ b ≤ᵇ limit && keeps B square_size square_error

  abbrev pub square_covers : Float → List Float → Frac → List Frac → Bool
  square_covers = covers B square_size square_error

  module _ {r : Float} (i : Is r) (h : # r within cls b) (t : T square_keeps) where
    square_near : Approx (mul binary64 r r) (# r * # r) square_size square_error
    square_near = times (itself i h) (itself i h) (and_l (b *ᶠ b ≤ᵇ limit) _ t)

    -- c − r² (c' − r² (…)) on floats against the exact one at the value of r
    pub even_near : (c : Float) (cs : List Float) (a : Frac) (l : List Frac) → T (square_covers c cs a l) → Approx (horner (mul binary64 r r) c cs) (nest (# r * # r) (a ∷ l)) B.m B.e
    even_near = horner_near B square_size square_error square_near (and_r (b *ᶠ b ≤ᵇ limit) _ t)

  -- r² h, and r − r (r² h) as a share of r
  abbrev part_size : Frac
  part_size = product_size B square_size square_error

  abbrev odd_size : Frac
  odd_size = whole (pos 1) +ᶠ (part_size +ᶠ (part_size *ᶠ u +ᶠ lost))

  abbrev odd_error : Frac
  odd_error = odd_size *ᶠ u +ᶠ (part_size *ᶠ u +ᶠ lost +ᶠ product_error B square_size square_error)

  abbrev pub odd_keeps : Frac → Bool
  odd_keeps share = square_keeps && (b *ᶠ odd_size ≤ᵇ limit && odd_error ≤ᵇ share)

  -- r − r (r² (c − r² (…))) on floats against the exact one at the value of r: for any w that is |r| at least, the error is a share of w. With w = b it is an absolute bound
  pub odd_near : (share : Frac) {r : Float} {w : ℚ} → T (odd_keeps share) → Is r → # r within w → 2⁻ 100 ≤ w → w ≤ cls b → (c : Float) (cs : List Float) (a : Frac) (l : List Frac) → T (square_covers c cs a l)
      → Rounds (odd_polynomial r c cs) (# r - # r * (# r * # r * nest (# r * # r) (a ∷ l))) (w * cls share)
  unfolding computes
  odd_near share {r} {w} t i h low high c cs a l s =
      let room = b *ᶠ odd_size ≤ᵇ limit in
      rounds_≤ (less_part i h low high y.rounds y.size (known_≤ (and_l room _ (and_r square_keeps _ t)))) (share_≤ (within_nonneg h) (known_≤ (and_r room _ (and_r square_keeps _ t))))
    where
      kept : T square_keeps
      kept = and_l square_keeps _ t

      hb : # r within cls b
      hb = within_≤ h high

      y : Approx (mul binary64 (mul binary64 r r) (horner (mul binary64 r r) c cs)) (# r * # r * nest (# r * # r) (a ∷ l)) part_size (product_error B square_size square_error)
      y = times (square_near i hb kept) (even_near i hb kept c cs a l s) (and_l (square_size *ᶠ B.m ≤ᵇ limit) _ (and_r (b *ᶠ b ≤ᵇ limit) _ kept))
