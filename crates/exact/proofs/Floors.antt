-- The whole number at or below a fraction, and the nearest one.
use mathlib.Core.Path.{◌≡◌, sym, ◌∙◌, ap, subst}
use Prim.Native.Nat as N
use Prim.Native.Nat.{ℕ, zero, suc}
use native.Mathlib.Omega.{arith}
use lib.Signed.{shr_z}
use lib.IntN.{ℤ, pos, negsuc, neg_ℤ, ◌+ℤ◌, +ℤ_idl, -ℤ-+ℤ_cancel}
use Rattle.exact.specs.Fraction as F
use Rattle.exact.specs.Fraction.{Frac, 1ᶠ, whole, ◌over◌, ◌-ᶠ◌}
use Rattle.exact.specs.Sine.{floor, nearest}
use Rattle.exact.proofs.Ring.{con, ◌⊕◌, ◌⊗◌, ⊖◌, ◌⊝◌}
use Rattle.exact.proofs.Rational.{ℚ, cls, ◌+◌, ◌*◌, neg, ◌-◌, plus_cls, neg_cls, whole_+, whole_neg, frac_is, ∅, ◌▸◌, ◌≐◌, ring}
use Rattle.exact.proofs.Order.{◌≤◌, ◌<◌, half, number, ◌⊠◌, ◌≼◌, ◌by◌, ◌⇒◌, le}
use Rattle.exact.proofs.Within.{0#, 1#, 0ₑ, 1ₑ, num, num_*, num_suc, num_≤, computes, ≤_trans, cancel, ◌within◌}
use Rattle.exact.proofs.Numbers.{0<num, over_is}

-- k ≤ x < k + 1
pub record Floor (x k : ℚ) : Type 0 where
  pub below : k ≤ x
  pub above : x ≤ k + 1#
  pub only : k + 1# ≤ x → ⊥

none : 1# ≤ 0# → ⊥
unfolding computes
none h = h.by

no_less : (x : ℚ) → x + 1# ≤ x → ⊥
no_less x h = none (le (x ▸ ∅) (λ x. x ⊕ 1ₑ ≼ x ⇒ λ h. 1ₑ ≼ 0ₑ by h) tt h)

-- ---- n / b, where k b ≤ n and n + 1 ≤ (k + 1) b

module _ (n k : ℚ) (d : ℕ) (low : k * num (suc d) ≤ n) (high : n + 1# ≤ (k + 1#) * num (suc d)) where
  b : ℚ
  b = num (suc d)

  x : ℚ
  x = n * cls (pos 1 over suc d)

  0<b : 0# < b
  unfolding b
  0<b = 0<num (suc d) (omega arith)

  n_is : x * b ≡ n
  unfolding x b
  n_is = ring (n ▸ cls (pos 1 over suc d) ▸ num (suc d) ▸ ∅) (λ n i b. n ⊗ i ⊗ b ≐ b ⊗ i ⊗ n) tt ∙ ap (λ v. v * n) (over_is (suc d) (omega arith)) ∙ ring (n ▸ ∅) (λ n. 1ₑ ⊗ n ≐ n) tt

  more : n ≤ n + 1#
  more = le (n ▸ ∅) (λ n. n ≼ n ⊕ 1ₑ by number 1ᶠ) tt

  quotient_floor : Floor (n * cls (pos 1 over suc d)) k
  unfolding x b
  quotient_floor = record {
    below = cancel 0<b (subst (λ v. k * b ≤ v) (sym n_is) low);
    above = cancel 0<b (subst (λ v. v ≤ (k + 1#) * b) (sym n_is) (≤_trans more high));
    only = λ h. no_less n (≤_trans high (subst (λ v. (k + 1#) * b ≤ v) n_is (le (k ▸ x ▸ b ▸ ∅) (λ k x b. 0ₑ ≼ b ⇒ λ p. k ⊕ 1ₑ ≼ x ⇒ λ h. (k ⊕ 1ₑ) ⊗ b ≼ x ⊗ b by p ⊠ h) tt (num_≤ (omega arith)) h)));
  }

-- ---- the floor of a fraction: a / (d + 1) by division, and of the opposite numbers by turning the bounds round

module _ (a d : ℕ) where
  q : ℕ
  q = N.◌/◌ a (suc d)

  low_nat : N.◌≤◌ (N.◌*◌ q (suc d)) a
  unfolding q
  low_nat = omega arith

  high_nat : N.◌≤◌ (suc a) (N.◌*◌ (suc q) (suc d))
  unfolding q
  high_nat = omega arith

  low_num : num q * num (suc d) ≤ num a
  low_num = subst (λ v. v ≤ num a) (num_* q (suc d)) (num_≤ low_nat)

  high_num : num a + 1# ≤ (num q + 1#) * num (suc d)
  high_num = subst (λ v. v ≤ (num q + 1#) * num (suc d)) (num_suc a) (subst (λ v. num (suc a) ≤ v) (num_* (suc q) (suc d) ∙ ap (λ v. v * num (suc d)) (num_suc q)) (num_≤ high_nat))

  minus_suc : (n : ℕ) → cls (whole (negsuc n)) ≡ neg (num n + 1#)
  minus_suc n = whole_neg (pos (suc n)) ∙ ap neg (num_suc n)

  floor_pos : Floor (num a * cls (pos 1 over suc d)) (num q)
  floor_pos = quotient_floor (num a) (num q) d low_num high_num

  floor_neg : Floor (cls (whole (negsuc a)) * cls (pos 1 over suc d)) (cls (whole (negsuc q)))
  floor_neg = subst (λ n. Floor (n * cls (pos 1 over suc d)) (cls (whole (negsuc q)))) (sym (minus_suc a)) (subst (λ k. Floor (neg (num a + 1#) * cls (pos 1 over suc d)) k) (sym (minus_suc q))
      (quotient_floor (neg (num a + 1#)) (neg (num q + 1#)) d
      (le (num q ▸ num a ▸ num (suc d) ▸ ∅) (λ q a b. a ⊕ 1ₑ ≼ (q ⊕ 1ₑ) ⊗ b ⇒ λ h. ⊖ (q ⊕ 1ₑ) ⊗ b ≼ ⊖ (a ⊕ 1ₑ) by h) tt high_num)
      (le (num q ▸ num a ▸ num (suc d) ▸ ∅) (λ q a b. q ⊗ b ≼ a ⇒ λ h. ⊖ (a ⊕ 1ₑ) ⊕ 1ₑ ≼ (⊖ (q ⊕ 1ₑ) ⊕ 1ₑ) ⊗ b by h) tt low_num)))

floor_at : (z : ℤ) (d : ℕ) → Floor (cls (whole z) * cls (pos 1 over suc d)) (cls (whole (shr_z z (suc d))))
unfolding q
floor_at (pos a) d = floor_pos a d
floor_at (negsuc a) d = floor_neg a d

pub floor_is : (x : Frac) → Floor (cls x) (cls (whole (floor x)))
unfolding floor
floor_is x = subst (λ v. Floor v (cls (whole (floor x)))) (sym (frac_is x)) (floor_at x.num x.low)

-- ---- there is only one

-- l + n + 1 is above x
module _ (n : ℕ) {k l : ℚ} (apart : k ≡ num (suc n) + l) {x : ℚ} (f : Floor x l) where
  too_far : k ≤ x → ⊥
  too_far h = f.only (≤_trans (subst (λ v. l + 1# ≤ v) (sym apart) (le (num (suc n) ▸ l ▸ ∅) (λ n l. 1ₑ ≼ n ⇒ λ h. l ⊕ 1ₑ ≼ n ⊕ l by h) tt (num_≤ (omega arith)))) h)

same_floor : (z k l : ℤ) → k ≡ z +ℤ l → {x : ℚ} → Floor x (cls (whole k)) → Floor x (cls (whole l)) → k ≡ l
same_floor (pos zero) k l h f g = h ∙ +ℤ_idl l
same_floor (pos (suc n)) k l h f g = absurd (too_far n (ap (λ (j : ℤ). cls (whole j)) h ∙ whole_+ (pos (suc n)) l) g f.below)
same_floor (negsuc n) k l h f g = absurd (too_far n (swapped (num (suc n)) (ap (λ (j : ℤ). cls (whole j)) h ∙ whole_+ (negsuc n) l ∙ ap (λ v. v + cls (whole l)) (whole_neg (pos (suc n))))) f g.below)
  where
    swapped : {k l : ℚ} (n : ℚ) → k ≡ neg n + l → l ≡ n + k
    swapped {k} {l} n h = ring (n ▸ l ▸ ∅) (λ n l. l ≐ n ⊕ (⊖ n ⊕ l)) tt ∙ ap (λ v. n + v) (sym h)

floor_same : (x y : Frac) → cls x ≡ cls y → floor x ≡ floor y
floor_same x y h = same_floor (floor x +ℤ neg_ℤ (floor y)) (floor x) (floor y) (sym (-ℤ-+ℤ_cancel (floor x) (floor y))) (floor_is x) (subst (λ v. Floor v (cls (whole (floor y)))) (sym h) (floor_is y))

-- ---- the nearest whole number

half_less : (x : Frac) → cls ((pos 1 over 2) -ᶠ x) ≡ cls half - cls x
half_less x = plus_cls (pos 1 over 2) (F.neg x) ∙ ap (λ v. cls half + v) (neg_cls x)

pub nearest_is : (x : Frac) → cls x - cls (whole (nearest x)) within cls half
unfolding nearest
nearest_is x = subst (λ v. cls x - v within cls half) (sym (whole_neg k)) (record {
  up = le (cls x ▸ cls (whole k) ▸ ∅) (λ x k. k ≼ con half ⊝ x ⇒ λ h. x ⊝ ⊖ k ≼ con half by h) tt f.below;
  down = le (cls x ▸ cls (whole k) ▸ ∅) (λ x k. con half ⊝ x ≼ k ⊕ 1ₑ ⇒ λ h. ⊖ (x ⊝ ⊖ k) ≼ con half by h) tt f.above;
})
  where
    k : ℤ
    k = floor ((pos 1 over 2) -ᶠ x)

    f : Floor (cls half - cls x) (cls (whole k))
    f = subst (λ v. Floor v (cls (whole k))) (half_less x) (floor_is ((pos 1 over 2) -ᶠ x))

pub nearest_same : (x y : Frac) → cls x ≡ cls y → nearest x ≡ nearest y
unfolding nearest
nearest_same x y h = ap neg_ℤ (floor_same ((pos 1 over 2) -ᶠ x) ((pos 1 over 2) -ᶠ y) (half_less x ∙ ap (λ v. cls half - v) h ∙ sym (half_less y)))
