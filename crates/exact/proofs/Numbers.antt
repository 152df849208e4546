-- Whole numbers, quotients and the strict order among the rational numbers.
use mathlib.Core.Path.{◌≡◌, sym, ap, ◌∙◌, subst}
use mathlib.Core.Bool.{Bool, not}
use mathlib.Core.Logic.{inl, inr}
use mathlib.Core.Quot.{sound}
use Prim.Native.Nat as N
use Prim.Native.Nat.{ℕ, zero, suc, max}
use native.Mathlib.Nat.{eq-zero-or-pos, suc-ne-zero}
use native.Mathlib.Omega.{arith}
use lib.Dec.{T, leb→le}
use lib.IntN.{ℤ, pos, negsuc, nat_abs, one, ◌*ℤ◌, *ℤ-one}
use lib.Signed.{le_z, non_neg, le_z_yes, yes_non_neg}
use borrow.Author.Tests.{ne_eqb}
use Rattle.exact.specs.Fraction.{Frac, 0ᶠ, whole, ◌over◌}
use Rattle.exact.proofs.Ring.{◌⊗◌}
use Rattle.exact.proofs.Rational.{ℚ, cls, ◌*◌, *_comm, whole_neg, ∅, ◌▸◌, ◌≐◌, ring}
use Rattle.exact.proofs.Order.{◌≤◌, ◌<◌, to_frac}
use Rattle.exact.proofs.Within.{0#, 1#, 1ₑ, num, 0≤num, 0≤over, computes, closed, ≤_of, ≤_antisym, ≤_total, not_≤, <_not, <_≤, above, inverse_of, cancel, ◌within◌, within_≤, within_at, within_neg, within_self, within_*}

-- ---- the strict order

pub ≤_of_< : {x y : ℚ} → x < y → x ≤ y
≤_of_< {x} {y} h = elim (≤_total x y) [ inl l ↦ l | inr l ↦ absurd (<_not h l) ]

pub cancel_≡ : {x y c : ℚ} → 0# < c → x * c ≡ y * c → x ≡ y
cancel_≡ h e = ≤_antisym (cancel h (≤_of e)) (cancel h (≤_of (sym e)))

-- ---- whole numbers

pub ≤_num : (m n : ℕ) → num m ≤ num n → N.◌≤◌ m n
≤_num m n h = let k = leb→le (N.◌*◌ m 1) (N.◌*◌ n 1) (to_frac (whole (pos m)) (whole (pos n)) h).by in omega arith

pub 0<num : (n : ℕ) → N.◌<◌ 0 n → 0# < num n
0<num n h = not_≤ (λ k. none (≤_num n 0 k))
  where
    none : N.◌≤◌ n 0 → ⊥
    none k = omega arith

pub num_max : (a b : ℕ) {c : ℚ} → num a ≤ c → num b ≤ c → num (max a b) ≤ c
num_max a b {c} h k = elim (eq-zero-or-pos (N.◌-◌ b a)) [ inl z ↦ subst (λ (n : ℕ). num n ≤ c) (left z) h | inr p ↦ subst (λ (n : ℕ). num n ≤ c) (right p) k ]
  where
    left : N.◌-◌ b a ≡ 0 → a ≡ max a b
    left z = omega arith

    right : N.◌<◌ 0 (N.◌-◌ b a) → b ≡ max a b
    right p = omega arith

-- the size of a whole number: it is at most m where |z| ≤ m
pub abs_is : (z : ℤ) → cls (whole z) within num (nat_abs z)
abs_is (pos n) = within_self (0≤num n)
abs_is (negsuc n) = within_at (sym (whole_neg (pos (suc n)))) (within_neg (within_self (0≤num (suc n))))

pub abs_≤ : (z : ℤ) {m : ℚ} → cls (whole z) within m → num (nat_abs z) ≤ m
unfolding computes
abs_≤ (pos k) h = h.up
abs_≤ (negsuc k) h = h.down

pub abs_same : (a b : ℤ) → cls (whole a) ≡ cls (whole b) → nat_abs a ≡ nat_abs b
abs_same a b e =
    let h = ≤_num (nat_abs a) (nat_abs b) (abs_≤ a (within_at (sym e) (abs_is b))) in
    let k = ≤_num (nat_abs b) (nat_abs a) (abs_≤ b (within_at e (abs_is a))) in
    omega arith

times_one : (z : ℤ) → z *ℤ pos 1 ≡ z
unfolding one
times_one z = *ℤ-one z

pub nonneg_whole : (z : ℤ) → 0# ≤ cls (whole z) → T (non_neg z)
nonneg_whole z h = yes_non_neg (le_z_yes (subst (λ a. T (le_z (pos 0) a)) (times_one z) (to_frac 0ᶠ (whole z) h).by))

-- ---- quotients

pub over_num : (z : ℤ) (d : ℕ) → N.◌<◌ 0 d → cls (z over d) * num d ≡ cls (whole z)
unfolding computes
over_num z d h = sound (times_one (z *ℤ pos d) ∙ ap (λ (n : ℕ). z *ℤ pos n) (sym (low d h)))
  where
    low : (d : ℕ) → N.◌<◌ 0 d → suc (N.◌-◌ (N.◌*◌ (suc (N.◌-◌ d 1)) 1) 1) ≡ d
    low d h = omega arith

pub as_over : {t : ℚ} (z : ℤ) (d : ℕ) → N.◌<◌ 0 d → cls (whole z) ≡ t * num d → cls (z over d) ≡ t
as_over z d h e = cancel_≡ (0<num d h) (over_num z d h ∙ e)

pub over_is : (k : ℕ) → N.◌<◌ 0 k → num k * cls (pos 1 over k) ≡ 1#
over_is k h = *_comm (num k) (cls (pos 1 over k)) ∙ over_num (pos 1) k h

-- where |k y| ≤ z, then |y| ≤ z / k
pub divide : (k : ℕ) {y z e : ℚ} → N.◌<◌ 0 k → num k * y within z → z * cls (pos 1 over k) ≤ e → y within e
divide k {y} {z} {e} h w b = within_≤ (within_at (ring (num k ▸ y ▸ cls (pos 1 over k) ▸ ∅) (λ k y i. k ⊗ y ⊗ i ≐ k ⊗ i ⊗ y) tt
    ∙ ap (λ v. v * y) (over_is k h) ∙ ring (y ▸ ∅) (λ y. 1ₑ ⊗ y ≐ y) tt)
    (within_* w (within_self (0≤over k)))) b

-- fractions above 0, and what is at least such a one
pub above_of : (f : Frac) → 0# < cls f → T (above f)
unfolding computes
above_of f h = go f.num f.low h
  where
    go : (n : ℤ) (l : ℕ) → 0# < cls (record { num = n; low = l }) → T (above (record { num = n; low = l }))
    go (pos zero) l h = absurd (<_not h (closed tt))
    go (pos (suc n)) l h = subst (λ (b : Bool). T (not b)) (sym (ne_eqb (suc n) 0 (suc-ne-zero n))) tt
    go (negsuc n) l h = absurd (<_not h (closed tt))

pub above_by : {y : ℚ} (c : Frac) → T (above c) → cls c ≤ y → 0# < y
above_by c t h = <_≤ (inverse_of c t).2 h
