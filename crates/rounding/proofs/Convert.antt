-- Conversions: whole numbers to floats, floats to whole numbers, bit patterns to floats. And two results that come of them: a whole number times a short one, and a quotient from 0 to 1.
use Rattle.std.proofs.Common.{◌≡◌, ℕ, zero, suc, ◌^◌, min, Bool, true, false, ◌&&◌, T, leb, ℤ, pos, negsuc, neg_ℤ, nat_abs, sym, ap, ◌∙◌, subst, lt_of_lt_of_le, lt_irrefl, mod-lt, mul-le-mul_left, mul-lt-mul_of_pos_right, div-add-mod', mul-one, arith, lit<, lit≤, pow_pos, pow_mono, pow-add, ne_eqb}
use Prim.Native.Nat as N
use lib.Ieee.{Float, nan, inf, fin, binary64, fits, up, down, odd, of_fields, of_bits, of_int, to_unsigned, mul, div}
use lib.Ieee.Back.{round_whole}
use lib.Ieee.Bits.{of_bits-fits}
use lib.Ieee.Exact.{HasValue, odd_sign}
use lib.Ieee.Fits.{down_pos, of_int-fits, and_l, and_r}
use lib.Ieee.Scale.{finite}
use Rattle.exact.specs.Fraction.{◌over◌, inverse}
use Rattle.exact.proofs.Ring.{◌⊗◌, ⊖◌}
use Rattle.exact.proofs.Rational.{ℚ, cls, ◌*◌, neg_cls, ∅, ◌▸◌, ◌≐◌, ring}
use Rattle.exact.proofs.Order.{◌≤◌, ◌<◌, ◌⊠◌, ◌≼◌, ◌by◌, ◌⇒◌, le}
use Rattle.exact.proofs.Within.{0#, 1#, 0ₑ, 1ₑ, num, computes, closed, ≤_trans, ≤_of, 0≤num, 0≤*, not_≤, cancel, ◌≈⟨◌⟩◌, num_≤, num_*, <_not}
use Rattle.exact.proofs.Numbers.{≤_num, over_num, 0<num}
use Rattle.rounding.specs.Value.{signed, val, L, Is, field, units, spelled}
use Rattle.rounding.specs.Theorems.{limit}
use Rattle.rounding.proofs.Values.{W, #◌, Λ}
use Rattle.rounding.proofs.Rounds.{Rounds, Exact, value_exact, exact_at}
use Rattle.rounding.proofs.Operations.{quotient_nearest, above_≠, ratio_times, reciprocal}
use Rattle.rounding.proofs.Exact.{Short, rounds_between, product_exact}

-- ---- literals

pub literal_is : {x : Float} → T (fits binary64 x && finite x) → Is x
literal_is {x} t = record { fit = and_l (fits binary64 x) _ t; fin = and_r (fits binary64 x) _ t }

-- its value: `literal_exact tt refl`, under `unfolding of_bits fits`
pub literal_exact : {x : Float} {c : ℚ} → T (fits binary64 x && finite x) → # x ≡ c → Exact x c
literal_exact t e = record { is = literal_is t; value = e }

-- a literal within e of c: `literal tt (record { up = closed tt; down = closed tt })`, under `unfolding of_bits fits computes`
pub literal : {x : Float} {c e : ℚ} → T (fits binary64 x && finite x) → # x ≈⟨ e ⟩ c → Rounds x c e
literal t h = record { is = literal_is t; near = h }

-- ---- bit patterns: a sign, a field and digits

fields_exact : (s : Bool) (x t : ℕ) → N.◌<◌ x 2047 → T (fits binary64 (of_fields binary64 s x t)) → Exact (of_fields binary64 s x t) (cls (signed s (units x t) over L))
unfolding of_fields L
fields_exact s zero t l = λ f. value_exact _ s t (2 ^ 1074) (pow_pos 1074) f (subst (λ (n : ℕ). HasValue (odd 53 s t 0 1074) s n (2 ^ 1074)) (mul-one t) (odd_sign 53 s t 0 1074))
fields_exact s (suc x) t l =
    rw (ne_eqb (suc x) 2047 (λ (e : suc x ≡ 2047). lt_irrefl 2047 (subst (λ (n : ℕ). N.◌<◌ n 2047) e l)))
    (λ f. value_exact _ s (N.◌*◌ (N.◌+◌ (2 ^ 52) t) (2 ^ x)) (2 ^ 1074) (pow_pos 1074) f (odd_sign 53 s (N.◌+◌ (2 ^ 52) t) x 1074))

-- what is finite has the value that it spells
pub bits_exact : (b : ℕ) → N.◌<◌ (field b) 2047 → Exact (of_bits binary64 b) (cls (spelled b))
unfolding of_bits
bits_exact b h = fields_exact (leb (2 ^ 63) b) (field b) (N.◌%◌ b (2 ^ 52)) h (of_bits-fits binary64 b)

-- ---- whole numbers

pub whole_exact : (z : ℤ) → N.◌≤◌ (nat_abs z) (2 ^ 53) → Exact (of_int binary64 z) (W z)
unfolding of_int
whole_exact (pos n) h = value_exact _ false n 1 (lit< tt) (of_int-fits binary64 (pos n)) (round_whole binary64 false n h)
whole_exact (negsuc n) h = value_exact _ true (suc n) 1 (lit< tt) (of_int-fits binary64 (negsuc n)) (round_whole binary64 true (suc n) h)

-- k times n / 2 ^ j, where k n has 53 digits
pub multiple_exact : {c : Float} (k n j : ℕ) → Is c → # c ≡ cls (pos n over (2 ^ j)) → N.◌≤◌ j 1074 → N.◌≤◌ k (2 ^ 53) → N.◌<◌ (N.◌*◌ k n) (2 ^ 53) → Exact (mul binary64 (of_int binary64 (pos k)) c) (num k * # c)
unfolding L
multiple_exact {c} k n j i e deep k_small kn_small = let w = whole_exact (pos k) k_small in exact_at (ap (λ z. z * # c) w.value) (product_exact w.is i (subst (λ z. Short (z * # c)) (sym w.value) short))
  where
    l : ℕ
    l = N.◌-◌ 1074 j

    less : N.◌≤◌ l 1074
    less = omega arith

    all : N.◌*◌ (2 ^ l) (2 ^ j) ≡ 2 ^ 1074
    all = sym (pow-add 2 l j) ∙ ap (λ (x : ℕ). 2 ^ x) (native.Mathlib.Nat.sub-add_cancel deep)

    c_is : # c * num (2 ^ j) ≡ num n
    c_is = ap (λ z. z * num (2 ^ j)) e ∙ over_num (pos n) (2 ^ j) (pow_pos j)

    short : Short (num k * # c)
    short = record {
      digits = pos (N.◌*◌ k n);
      zeros = l;
      is = num_* (N.◌*◌ k n) (2 ^ l) ∙ ap (λ z. z * num (2 ^ l)) (num_* k n ∙ ap (λ z. num k * z) (sym c_is)) ∙ ring (num k ▸ # c ▸ num (2 ^ j) ▸ num (2 ^ l) ▸ ∅) (λ k c j l. k ⊗ (c ⊗ j) ⊗ l ≐ k ⊗ c ⊗ (l ⊗ j)) tt
          ∙ ap (λ z. num k * # c * z) (sym (num_* (2 ^ l) (2 ^ j)) ∙ ap (λ (x : ℕ). num x) all);
      small = kn_small;
      below = lt_of_lt_of_le (mul-lt-mul_of_pos_right kn_small (pow_pos l)) (native.Mathlib.Nat.le_trans (mul-le-mul_left (2 ^ 53) (pow_mono less)) (lit≤ tt));
    }

-- ---- the whole part of a float that is not below 0, and below 2 ^ w

minimum : (q w : ℕ) → N.◌<◌ q w → min q (N.◌-◌ w 1) ≡ q
minimum q w h = omega arith

-- of a / d
whole_part : (a d : ℕ) → N.◌<◌ 0 d → (num (N.◌/◌ a d) ≤ cls (pos a over d)) × (cls (pos a over d) < num (suc (N.◌/◌ a d)))
whole_part a d D =
    let e = over_num (pos a) d D in
    let m = div-add-mod' a d in
    let r = mod-lt a D in (
      cancel (0<num d D) (≤_trans (≤_of (sym (num_* (N.◌/◌ a d) d))) (≤_trans (num_≤ (omega (arith, m))) (≤_of (sym e)))),
      not_≤ (λ h. none (N.◌/◌ a d) (N.◌%◌ a d) m r (≤_num _ _ (≤_trans (≤_of (num_* (suc (N.◌/◌ a d)) d)) (≤_trans (le (num (suc (N.◌/◌ a d)) ▸ cls (pos a over d) ▸ num d ▸ ∅) (λ q p d. q ≼ p ⇒ λ h. 0ₑ ≼ d ⇒ λ k. q ⊗ d ≼ p ⊗ d by h ⊠ k) tt h (0≤num d)) (≤_of e))))),
    )
  where
    none : (q r : ℕ) → N.◌+◌ (N.◌*◌ q d) r ≡ a → N.◌<◌ r d → N.◌≤◌ (N.◌*◌ (suc q) d) a → ⊥
    none q r m l h = omega arith

not_below : (a d : ℕ) → 0# ≤ cls (pos a over d)
unfolding computes
not_below a d = closed tt

below_zero : (a d : ℕ) → cls (neg_ℤ (pos a) over d) ≤ 0#
below_zero a d = ≤_trans (≤_of (neg_cls (pos a over d))) (le (cls (pos a over d) ▸ ∅) (λ p. 0ₑ ≼ p ⇒ λ h. ⊖ p ≼ 0ₑ by h) tt (not_below a d))

one_above : 0# < num 1
one_above = 0<num 1 (lit< tt)

pub truncated : (w : ℕ) {x : Float} → Is x → 0# ≤ # x → # x < num (2 ^ w) → (num (to_unsigned w x) ≤ # x) × (# x < num (suc (to_unsigned w x)))
truncated w {x} i = go x i.fin
  where
    go : (x : Float) → T (finite x) → 0# ≤ # x → # x < num (2 ^ w) → (num (to_unsigned w x) ≤ # x) × (# x < num (suc (to_unsigned w x)))
    go nan p lo hi = absurd p
    go (inf s) p lo hi = absurd p
    go (fin true m e) p lo hi = unfold to_unsigned in (lo, not_≤ (λ h. <_not one_above (≤_trans h (below_zero (N.◌*◌ m (up e)) (down e)))))
    go (fin false m e) p lo hi = unfold to_unsigned in
        let q = N.◌/◌ (N.◌*◌ m (up e)) (down e) in
        let f = whole_part (N.◌*◌ m (up e)) (down e) (down_pos e) in
        let s : N.◌<◌ q (2 ^ w) = native.Mathlib.Nat.lt_of_not-le (λ h. <_not hi (≤_trans (num_≤ h) f.0)) in
        subst (λ (n : ℕ). (num n ≤ # fin false m e) × (# fin false m e < num (suc n))) (sym (minimum q (2 ^ w) s)) f

-- ---- a quotient of 0 ≤ x ≤ y

short_one : Short 1#
unfolding L
short_one = record { digits = pos 1; zeros = 1074; is = ring (Λ ▸ ∅) (λ Λ. Λ ≐ 1ₑ ⊗ Λ) tt; small = lit< tt; below = lit< tt }

one_limit : 1# ≤ cls limit
unfolding computes
one_limit = closed tt

pub quotient_unit : {x y : Float} → Is x → Is y → 0# < # y → 0# ≤ # x → # x ≤ # y → Is (div binary64 x y) × (0# ≤ # div binary64 x y) × (# div binary64 x y ≤ 1#)
quotient_unit {x} {y} i j p l h = rounds_between (quotient_nearest i j (above_≠ p) (ratio_times i j p)) short_one one_limit (0≤* l (reciprocal i j p).1)
    (≤_trans (le (# x ▸ # y ▸ cls (inverse (val y)) ▸ ∅) (λ x y i. x ≼ y ⇒ λ h. 0ₑ ≼ i ⇒ λ k. x ⊗ i ≼ y ⊗ i by h ⊠ k) tt h (reciprocal i j p).1) (≤_of (reciprocal i j p).0))
