-- Where an operation is exact: f64 holds a number of 53 binary digits and zeros after them, and `round` keeps what f64 holds and passes no such number.
use native.Mathlib.Nat.{sub-le}
use Rattle.std.proofs.Common.{◌≡◌, ℕ, ◌^◌, Bool, true, false, T, ◌⊎◌, ℤ, pos, ◌*ℤ◌, nat_abs, sym, refl, ap, ◌∙◌, subst, ap₂, inl, inr, lt_of_le_of_lt, eq-zero-or-pos, mul-pos, arith, lit<, pow_pos}
use mathlib.Core.Quot.{sound}
use Prim.Native.Nat as N
use lib.Signed.{pos-nat_abs}
use lib.Ieee as F
use lib.Ieee.{Float, binary64, round, add, sub, mul, div}
use lib.Ieee.Bits.{is_true}
use lib.Ieee.Exact.{round_exact}
use lib.Ieee.Fits.{round-fits}
use lib.Ieee.Order.{round_mono}
use Rattle.exact.specs.Fraction.{◌over◌, whole, part}
use Rattle.exact.proofs.Ring.{con, ◌⊕◌, ◌⊗◌, ⊖◌, ◌⊝◌}
use Rattle.exact.proofs.Rational.{ℚ, cls, ◌+◌, ◌*◌, neg, ◌-◌, ∅, ◌▸◌, ◌≐◌, ring, whole_*, whole_neg}
use Rattle.exact.proofs.Order.{◌≤◌, number, ◌⊞◌, ◌⊠◌, ◌≼◌, ◌by◌, ◌⇒◌, le}
use Rattle.exact.proofs.Within.{0#, 1#, 0ₑ, 1ₑ, num, 2⁻, computes, closed, ≤_trans, ≤_of, ≤_antisym, 0≤num, 0≤*, cancel, ◌within◌, within_≤, within_at, within_*, num_≤, num_*, num_+, within_self}
use Rattle.exact.proofs.Numbers.{≤_num, abs_is, abs_same, nonneg_whole, as_over, 0<num}
use Rattle.rounding.specs.Value.{signed, L, ticks, Is}
use Rattle.rounding.specs.Theorems.{limit}
use Rattle.rounding.proofs.Signs.{signed_is, signed_scale, abs_scale}
use Rattle.rounding.proofs.Ticks.{L_pos, sign, size, ticks_are, size_below}
use Rattle.rounding.proofs.Digits.{Digits, float_digits, sterbenz, half}
use Rattle.rounding.proofs.Values.{W, #◌, neg_value, neg_is, Λ, 0<Λ, of_ticks}
use Rattle.rounding.proofs.Rounds.{Rounds, Exact, own, value_exact, exact_rounds, exact_at, Nearest, rounds_normal}
use Rattle.rounding.proofs.Operations.{rounds_≤, rounds_at, sum_nearest, difference_nearest, product_nearest, quotient_nearest, product_normal}
use Rattle.rounding.proofs.Compare.{le_yes}

-- t is `digits * 2 ^ zeros` ticks: of 53 digits, and below 2 ^ 1024
pub record Short (t : ℚ) : Type 0 where
  pub digits : ℤ
  pub zeros : ℕ
  pub is : W (digits *ℤ pos (2 ^ zeros)) ≡ t * Λ
  pub small : N.◌<◌ (nat_abs digits) (2 ^ 53)
  pub below : N.◌<◌ (N.◌*◌ (nat_abs digits) (2 ^ zeros)) (N.◌*◌ (2 ^ 1024) L)

module _ {r : Float} {t : ℚ} (k : Nearest r t) (h : Short t) where
  same_ticks : N.◌*◌ k.top L ≡ N.◌*◌ (N.◌*◌ (nat_abs h.digits) (2 ^ h.zeros)) k.bottom
  same_ticks = sym (ap (λ (n : ℕ). N.◌*◌ n L) (signed_is k.sign k.top).1) ∙ sym (abs_scale (signed k.sign k.top) L)
      ∙ abs_same (signed k.sign k.top *ℤ pos L) (h.digits *ℤ pos (2 ^ h.zeros) *ℤ pos k.bottom)
      (whole_* (signed k.sign k.top) (pos L) ∙ ap (λ w. w * Λ) k.value ∙ ring (t ▸ num k.bottom ▸ Λ ▸ ∅) (λ t d Λ. t ⊗ d ⊗ Λ ≐ t ⊗ Λ ⊗ d) tt
      ∙ ap (λ w. w * num k.bottom) (sym h.is) ∙ sym (whole_* (h.digits *ℤ pos (2 ^ h.zeros)) (pos k.bottom)))
      ∙ abs_scale (h.digits *ℤ pos (2 ^ h.zeros)) k.bottom ∙ ap (λ (n : ℕ). N.◌*◌ n k.bottom) (abs_scale h.digits (2 ^ h.zeros))

  pub rounds_exact : Exact r t
  unfolding L
  rounds_exact = subst (λ (x : Float). Exact x t) (sym k.is) (exact_at (as_over (signed k.sign k.top) k.bottom k.above k.value)
      (value_exact _ k.sign k.top k.bottom k.above (round-fits binary64 k.sign k.top k.bottom) (round_exact binary64 k.sign k.top k.bottom (nat_abs h.digits) h.zeros k.above h.small h.below same_ticks)))

-- ---- `round` keeps the order

pub short_zero : Short 0#
short_zero = record { digits = pos 0; zeros = 0; is = ring (Λ ▸ ∅) (λ Λ. 0ₑ ≐ 0ₑ ⊗ Λ) tt; small = lit< tt; below = mul-pos (pow_pos 1024) L_pos }

-- what f64 holds, as a result of `round`
held : {b : ℚ} (h : Short b) → 0# ≤ b → (x : Float) × (k : Nearest x b) × (k.sign ≡ false)
held {b} h p =
    let z = h.digits *ℤ pos (2 ^ h.zeros) in
    let e = pos-nat_abs z (nonneg_whole z (subst (λ w. 0# ≤ w) (sym h.is) (0≤* p (0≤num L)))) in
    (round binary64 false (nat_abs z) L, record { sign = false; top = nat_abs z; bottom = L; above = L_pos; is = refl; value = ap W e ∙ h.is }, refl)

unsigned : {r : Float} {t : ℚ} (k : Nearest r t) → k.sign ≡ false → (r ≡ round binary64 false k.top k.bottom) × (num k.top ≡ t * num k.bottom)
unsigned k e = (k.is ∙ ap (λ (s : Bool). round binary64 s k.top k.bottom) e, ap (λ (s : Bool). W (signed s k.top)) (sym e) ∙ k.value)

mono : {x y : Float} {s t : ℚ} (k : Nearest x s) (l : Nearest y t) → k.sign ≡ false → l.sign ≡ false → Is x → Is y → s ≤ t → # x ≤ # y
mono {x} {y} {s} {t} k l e f i j h =
    let u = unsigned k e in
    let v = unsigned l f in
    let crossed : N.◌≤◌ (N.◌*◌ k.top l.bottom) (N.◌*◌ l.top k.bottom) = ≤_num _ _ (≤_trans (≤_of (num_* k.top l.bottom ∙ ap (λ n. n * num l.bottom) u.1)) (≤_trans
    (le (s ▸ t ▸ num k.bottom ▸ num l.bottom ▸ ∅) (λ s t c d. s ≼ t ⇒ λ h. 0ₑ ≼ c ⇒ λ p. 0ₑ ≼ d ⇒ λ q. s ⊗ c ⊗ d ≼ t ⊗ d ⊗ c by h ⊠ p ⊠ q) tt h (0≤num k.bottom) (0≤num l.bottom))
    (≤_of (sym (num_* l.top k.bottom ∙ ap (λ n. n * num k.bottom) v.1))))) in
    le_yes (own i) (own j) (is_true (F.le x y) (subst (λ (z : Float). T (F.le z y)) (sym u.0) (subst (λ (z : Float). T (F.le (round binary64 false k.top k.bottom) z)) (sym v.0)
    (round_mono binary64 k.top k.bottom l.top l.bottom k.above l.above crossed))))

-- 0 ≤ t, so t is 0 or `round` is handed the sign +
upward : {r : Float} {t : ℚ} (k : Nearest r t) → 0# ≤ t → (t ≡ 0#) ⊎ (k.sign ≡ false)
upward {r} {t} k h = go k.sign k.value
  where
    go : (s : Bool) → W (signed s k.top) ≡ t * num k.bottom → (t ≡ 0#) ⊎ (s ≡ false)
    go false e = inr refl
    go true e = inl (≤_antisym (cancel (0<num k.bottom k.above) (≤_trans (≤_of (sym e ∙ whole_neg (pos k.top))) (le (num k.top ▸ num k.bottom ▸ ∅) (λ n d. 0ₑ ≼ n ⇒ λ h. ⊖ n ≼ 0ₑ ⊗ d by h) tt (0≤num k.top)))) h)

normal : 2⁻ 1022 ≤ cls limit
unfolding computes
normal = closed tt

-- 0 ≤ t ≤ b for a b that f64 holds
pub rounds_between : {r : Float} {t b : ℚ} → Nearest r t → Short b → b ≤ cls limit → 0# ≤ t → t ≤ b → Is r × (0# ≤ # r) × (# r ≤ b)
rounds_between {r} {t} {b} k h l p q = elim (upward k p) [
  | inl z ↦ (i, ≤_of (sym (zero z)), ≤_trans (≤_of (zero z)) (≤_trans p q))
  | inr e ↦
      let lo = held short_zero (≤_of refl) in
      let hi = held h (≤_trans p q) in
      let lo' = rounds_exact lo.1 short_zero in
      let hi' = rounds_exact hi.1 h in
      (i, ≤_trans (≤_of (sym lo'.value)) (mono lo.1 k lo.2 e lo'.is i p), ≤_trans (mono k hi.1 e hi.2 i hi'.is q) (≤_of hi'.value))
]
  where
    i : Is r
    i = let w = within_≤ (within_self p) (≤_trans q l) in (rounds_normal k w w normal).is

    zero : t ≡ 0# → # r ≡ 0#
    zero z = (rounds_exact k (subst Short (sym z) short_zero)).value ∙ z

-- ---- what f64 holds

short_of : {t : ℚ} (s : Bool) (w : ℕ) → Digits w → N.◌<◌ w (N.◌*◌ (2 ^ 1024) L) → W (signed s w) ≡ t * Λ → Short t
short_of s w d h e = record {
  digits = signed s d.q;
  zeros = d.j;
  is = ap W (signed_scale s d.q (2 ^ d.j) ∙ ap (signed s) (sym d.is)) ∙ e;
  small = subst (λ (n : ℕ). N.◌<◌ n (2 ^ 53)) (sym (signed_is s d.q).1) d.small;
  below = subst (λ (n : ℕ). N.◌<◌ n (N.◌*◌ (2 ^ 1024) L)) (d.is ∙ ap (λ (n : ℕ). N.◌*◌ n (2 ^ d.j)) (sym (signed_is s d.q).1)) h;
}

size_in_range : {x : Float} → Is x → N.◌<◌ (size x) (N.◌*◌ (2 ^ 1024) L)
unfolding L
size_in_range {x} i = size_below x i.fit i.fin

of_size : {x : Float} → Is x → W (signed (sign x) (size x)) ≡ # x * Λ
of_size {x} i = ap W (sym (ticks_are x)) ∙ of_ticks i

pub float_short : {x : Float} → Is x → Short (# x)
float_short {x} i = short_of (sign x) (size x) (float_digits x i.fit i.fin) (size_in_range i) (of_size i)

-- ---- an operation whose exact result f64 holds gives it

module _ {x y : Float} (i : Is x) (j : Is y) where
  pub sum_exact : Short (# x + # y) → Exact (add binary64 x y) (# x + # y)
  sum_exact h = rounds_exact (sum_nearest i j).0 h

  pub difference_exact : Short (# x - # y) → Exact (sub binary64 x y) (# x - # y)
  difference_exact h = rounds_exact (difference_nearest i j).0 h

  pub product_exact : Short (# x * # y) → Exact (mul binary64 x y) (# x * # y)
  product_exact h = rounds_exact (product_nearest i j) h

  pub quotient_exact : {q : ℚ} → (# y ≡ 0# → ⊥) → q * # y ≡ # x → Short q → Exact (div binary64 x y) q
  quotient_exact y≠0 e h = rounds_exact (quotient_nearest i j y≠0 e) h

pub negated_exact : {x : Float} → Is x → Exact (F.neg x) (neg (# x))
negated_exact {x} i = record { is = neg_is i; value = neg_value x }

-- by the exact result t, which is s
exact_by : {r : Float} {s t : ℚ} → Nearest r t → t ≡ s → Short s → Exact r s
exact_by k e h = exact_at e (rounds_exact k (subst Short (sym e) h))

module _ {x c : Float} (i : Is x) (j : Is c) where
  pub times_one : # c ≡ 1# → Exact (mul binary64 x c) (# x)
  times_one e = exact_by (product_nearest i j) (ap (λ z. # x * z) e ∙ ring (# x ▸ ∅) (λ x. x ⊗ 1ₑ ≐ x) tt) (float_short i)

  pub times_minus_one : # c ≡ neg 1# → Exact (mul binary64 x c) (neg (# x))
  times_minus_one e = exact_by (product_nearest i j) (ap (λ z. # x * z) e ∙ ring (# x ▸ ∅) (λ x. x ⊗ ⊖ 1ₑ ≐ ⊖ x) tt) (subst Short (neg_value x) (float_short (neg_is i)))

  pub plus_zero : # c ≡ 0# → Exact (add binary64 x c) (# x)
  plus_zero e = exact_by (sum_nearest i j).0 (ap (λ z. # x + z) e ∙ ring (# x ▸ ∅) (λ x. x ⊕ 0ₑ ≐ x) tt) (float_short i)

  pub minus_zero : # c ≡ 0# → Exact (sub binary64 x c) (# x)
  minus_zero e = exact_by (difference_nearest i j).0 (ap (λ z. # x - z) e ∙ ring (# x ▸ ∅) (λ x. x ⊝ 0ₑ ≐ x) tt) (float_short i)

-- ---- near neighbours: y / 2 ≤ x ≤ 2 y

-- the ticks of what is not below 0
upward_size : {x : Float} → Is x → 0# ≤ # x → num (size x) ≡ # x * Λ
unfolding size
upward_size {x} i h = ap W (pos-nat_abs (ticks x) (nonneg_whole (ticks x) (subst (λ z. 0# ≤ z) (sym (of_ticks i)) (0≤* h (0≤num L))))) ∙ of_ticks i

num_sub : (a b : ℕ) → N.◌≤◌ b a → num (N.◌-◌ a b) ≡ num a - num b
num_sub a b h = ring (num (N.◌-◌ a b) ▸ num b ▸ ∅) (λ d b. d ≐ d ⊕ b ⊝ b) tt ∙ ap (λ z. z - num b) (sym (num_+ (N.◌-◌ a b) b) ∙ ap (λ (n : ℕ). num n) (native.Mathlib.Nat.sub-add_cancel h))

module _ {x y : Float} (i : Is x) (j : Is y) (h : # y * 2⁻ 1 ≤ # x) (k : # x ≤ num 2 * # y) where
  y≥0 : 0# ≤ # y
  y≥0 = le (# x ▸ # y ▸ ∅) (λ x y. y ⊗ con (part 1) ≼ x ⇒ λ h. x ≼ con (whole (pos 2)) ⊗ y ⇒ λ k. 0ₑ ≼ y by number (pos 2 over 3) ⊠ (h ⊞ k)) tt h k

  x≥0 : 0# ≤ # x
  x≥0 = ≤_trans (0≤* y≥0 half≥0) h
    where
      half≥0 : 0# ≤ 2⁻ 1
      half≥0 = le ∅ (0ₑ ≼ con (part 1) by number (part 1)) tt

  -- in ticks
  X : num (size x) ≡ # x * Λ
  X = upward_size i x≥0

  Y : num (size y) ≡ # y * Λ
  Y = upward_size j y≥0

  x≤2y : N.◌≤◌ (size x) (N.◌*◌ 2 (size y))
  x≤2y = ≤_num _ _ (≤_trans (≤_of X) (≤_trans (le (# x ▸ # y ▸ Λ ▸ ∅) (λ x y Λ. x ≼ con (whole (pos 2)) ⊗ y ⇒ λ k. 0ₑ ≼ Λ ⇒ λ l. x ⊗ Λ ≼ con (whole (pos 2)) ⊗ (y ⊗ Λ) by k ⊠ l) tt k (0≤num L)) (≤_of (sym (num_* 2 (size y) ∙ ap (λ z. num 2 * z) Y)))))

  y≤2x : N.◌≤◌ (size y) (N.◌*◌ 2 (size x))
  y≤2x = ≤_num _ _ (≤_trans (≤_of Y) (≤_trans (le (# x ▸ # y ▸ Λ ▸ ∅) (λ x y Λ. y ⊗ con (part 1) ≼ x ⇒ λ h. 0ₑ ≼ Λ ⇒ λ l. y ⊗ Λ ≼ con (whole (pos 2)) ⊗ (x ⊗ Λ) by number (whole (pos 2)) ⊠ h ⊠ l) tt h (0≤num L)) (≤_of (sym (num_* 2 (size x) ∙ ap (λ z. num 2 * z) X)))))

  difference_short : Short (# x - # y)
  difference_short = elim (eq-zero-or-pos (N.◌-◌ (size x) (size y))) [
    | inl z ↦
        let l : N.◌≤◌ (size x) (size y) = omega arith in
        short_of true (N.◌-◌ (size y) (size x)) (sterbenz (size x) (size y) (float_digits x i.fit i.fin) (float_digits y j.fit j.fin) l y≤2x) (lt_of_le_of_lt (sub-le (size y) (size x)) (size_in_range j))
        (whole_neg (pos (N.◌-◌ (size y) (size x))) ∙ ap neg (num_sub (size y) (size x) l ∙ ap₂ (λ a b. a - b) Y X) ∙ ring (# x ▸ # y ▸ Λ ▸ ∅) (λ x y Λ. ⊖ (y ⊗ Λ ⊝ x ⊗ Λ) ≐ (x ⊝ y) ⊗ Λ) tt)
    | inr p ↦
        let l : N.◌≤◌ (size y) (size x) = omega arith in
        short_of false (N.◌-◌ (size x) (size y)) (sterbenz (size y) (size x) (float_digits y j.fit j.fin) (float_digits x i.fit i.fin) l x≤2y) (lt_of_le_of_lt (sub-le (size x) (size y)) (size_in_range i))
        (num_sub (size x) (size y) l ∙ ap₂ (λ a b. a - b) X Y ∙ ring (# x ▸ # y ▸ Λ ▸ ∅) (λ x y Λ. x ⊗ Λ ⊝ y ⊗ Λ ≐ (x ⊝ y) ⊗ Λ) tt)
  ]

  pub neighbours_exact : Exact (sub binary64 x y) (# x - # y)
  neighbours_exact = difference_exact i j difference_short

-- ---- halves

-- 2 ^ 53 ticks
turning : num (2 ^ 53) ≡ 2⁻ 1021 * Λ
unfolding computes L
turning = sound refl

module _ {x h : Float} (i : Is x) (j : Is h) (e : # h ≡ 2⁻ 1) where
  halves : # x * # h ≡ # x * 2⁻ 1
  halves = ap (λ z. # x * z) e

  half_of_size : N.◌≤◌ (2 ^ 53) (size x) → Exact (mul binary64 x h) (# x * 2⁻ 1)
  half_of_size l =
      let v = half (size x) (float_digits x i.fit i.fin) l in
      exact_by (product_nearest i j) halves (short_of (sign x) v.0 v.2 (lt_of_le_of_lt (less (size x) v.0 v.1) (size_in_range i))
      (ring (W (signed (sign x) v.0) ▸ ∅) (λ v. v ≐ v ⊗ con (whole (pos 2)) ⊗ con (part 1)) tt
      ∙ ap (λ z. z * 2⁻ 1) (sym (whole_* (signed (sign x) v.0) (pos 2)) ∙ ap W (signed_scale (sign x) v.0 2 ∙ ap (signed (sign x)) (sym v.1)) ∙ of_size i) ∙ ring (# x ▸ Λ ▸ ∅) (λ x Λ. x ⊗ Λ ⊗ con (part 1) ≐ x ⊗ con (part 1) ⊗ Λ) tt))
    where
      less : (a b : ℕ) → a ≡ N.◌*◌ b 2 → N.◌≤◌ b a
      less a b e = omega arith

  -- x times Λ, either sign
  size_within : # x * Λ within num (size x)
  unfolding size
  size_within = within_at (of_ticks i) (abs_is (ticks x))

  -- half of a number from 2 ^ -1021 up is exact
  pub half_of_large : 2⁻ 1021 ≤ # x → Exact (mul binary64 x h) (# x * 2⁻ 1)
  half_of_large l = half_of_size (≤_num _ _ (≤_trans (≤_of turning) (≤_trans (le (# x ▸ Λ ▸ ∅) (λ x Λ. con (part 1021) ≼ x ⇒ λ l. 0ₑ ≼ Λ ⇒ λ p. con (part 1021) ⊗ Λ ≼ x ⊗ Λ by l ⊠ p) tt l (0≤num L)) size_within.up)))

  pub half_of_low : 2⁻ 1021 ≤ neg (# x) → Exact (mul binary64 x h) (# x * 2⁻ 1)
  half_of_low l = half_of_size (≤_num _ _ (≤_trans (≤_of turning) (≤_trans (le (# x ▸ Λ ▸ ∅) (λ x Λ. con (part 1021) ≼ ⊖ x ⇒ λ l. 0ₑ ≼ Λ ⇒ λ p. con (part 1021) ⊗ Λ ≼ ⊖ (x ⊗ Λ) by l ⊠ p) tt l (0≤num L)) size_within.down)))

  -- and of any number off by half the smallest positive number at most
  pub half_rounds : Rounds (mul binary64 x h) (# x * 2⁻ 1) (2⁻ 1075)
  half_rounds = elim (eq-zero-or-pos (N.◌-◌ (2 ^ 53) (size x))) [
    | inl z ↦ rounds_≤ (exact_rounds (half_of_size (omega arith))) (le ∅ (0ₑ ≼ con (part 1075) by number (part 1075)) tt)
    | inr p ↦
        let w : # x * Λ within 2⁻ 1021 * Λ = within_≤ size_within (≤_trans (num_≤ {a = size x} {b = 2 ^ 53} (omega arith)) (≤_of turning)) in
        let v : # x within 2⁻ 1021 = record { up = cancel 0<Λ w.up; down = cancel 0<Λ (≤_trans (≤_of (ring (# x ▸ Λ ▸ ∅) (λ x Λ. ⊖ x ⊗ Λ ≐ ⊖ (x ⊗ Λ)) tt)) w.down) } in
        rounds_at halves (rounds_≤ (product_normal i j {m = 2⁻ 1022} (within_at (sym halves) (within_≤ (within_* v (within_self (le ∅ (0ₑ ≼ con (part 1) by number (part 1)) tt))) (≤_of (ring ∅ (con (part 1021) ⊗ con (part 1) ≐ con (part 1022)) tt)))) (≤_of refl) normal)
        (≤_of (ring ∅ (con (part 1022) ⊗ con (part 53) ≐ con (part 1075)) tt)))
  ]
