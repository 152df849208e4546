-- A float that fits is a whole number of ticks.
use Rattle.std.proofs.Common.{◌≡◌, ℕ, zero, suc, ◌-◌, ◌*◌, ◌/◌, ◌%◌, ◌^◌, ◌<◌, ◌≤◌, Bool, true, false, ◌&&◌, T, eqb, ltb, leb, ℤ, pos, negsuc, ◌*ℤ◌, neg_ℤ, nat_abs, sym, refl, ap, ◌∙◌, lt_of_not-le, zero-mul, mul-one, mul_assoc, not-le_of_lt, mul-div_cancel, arith, ltb→lt, leb→le, pow_pos, pow-add}
use native.Mathlib.Nat.{zero-div}
use lib.Pow.{pow-lt}
use lib.Ieee.{Float, nan, inf, fin, binary64, low, up, down, fits, neg}
use lib.Ieee.Fits.{down_pos, and_l, and_r}
use lib.Ieee.Exact.{HasValue}
use lib.Ieee.Scale.{finite}
use Rattle.exact.specs.Fraction.{den}
use Rattle.rounding.specs.Value.{signed, top, bottom, val, L, ticks}
use Rattle.rounding.proofs.Signs.{signed_scale, signed_is, signed_neg}

abbrev pub Fits : Float → Type 0
Fits x = T (fits binary64 x)

pub L_pos : 0 < L
unfolding L
L_pos = pow_pos 1074

pub bottom_pos : (x : Float) → 0 < bottom x
bottom_pos nan = native.Mathlib.Nat.zero-lt-suc 0
bottom_pos (inf s) = native.Mathlib.Nat.zero-lt-suc 0
bottom_pos (fin s m e) = down_pos e

pub den_is : (x : Float) → den (val x) ≡ bottom x
den_is x = go (bottom x) (bottom_pos x)
  where
    go : (b : ℕ) → 0 < b → suc (b - 1) ≡ b
    go b h = omega arith

-- ---- the value in ticks, of whatever has a value over 2 ^ 1074
pub ticks_of : (x : Float) (s : Bool) (a : ℕ) → HasValue x s a (2 ^ low binary64) → (ticks x ≡ signed s a) × T (finite x)
unfolding ticks
ticks_of nan s a v = absurd v
ticks_of (inf t) s a v = absurd v
ticks_of (fin t m e) s a v = ((λ i. signed (v.0 i) (m * up e * 2 ^ 1074 / down e)) ∙ ap (signed s) (ap (λ (k : ℕ). k / down e) v.1 ∙ mul-div_cancel a (down_pos e)), tt)

-- ---- a float that fits has such a value
pub common : (r i j : ℕ) → i ≤ j → r * 2 ^ j ≡ r * 2 ^ (j - i) * 2 ^ i
common r i j h = ap (λ (x : ℕ). r * x) (ap (λ (x : ℕ). 2 ^ x) (sym (native.Mathlib.Nat.sub-add_cancel h)) ∙ pow-add 2 (j - i) i) ∙ sym (mul_assoc r (2 ^ (j - i)) (2 ^ i))

pub shift : (m l k : ℕ) → k ≤ l → m * 1 * 2 ^ l ≡ m * 2 ^ (l - k) * 2 ^ k
shift m l k h = ap (λ (x : ℕ). x * 2 ^ l) (mul-one m) ∙ common m k l h

pub shorter : (l k : ℕ) → 2 ^ k ≤ 2 ^ l → k ≤ l
shorter l k h = native.Mathlib.Nat.le_of_suc-le-suc (lt_of_not-le (λ (g : suc l ≤ k). not-le_of_lt (pow-lt g) h))

whole_ticks : (m : ℕ) (e : ℤ) → down e ≤ 2 ^ low binary64 → m * up e * 2 ^ low binary64 ≡ m * up e * 2 ^ low binary64 / down e * down e
whole_ticks m (pos k) h = sym (ap (λ (x : ℕ). x * 1) (native.Mathlib.Nat.div-one (m * 2 ^ k * 2 ^ low binary64)) ∙ mul-one (m * 2 ^ k * 2 ^ low binary64))
whole_ticks m (negsuc k) h =
    let x = shift m (low binary64) (suc k) (shorter (low binary64) (suc k) h) in
    x ∙ sym (ap (λ (y : ℕ). y / 2 ^ suc k * 2 ^ suc k) x ∙ ap (λ (y : ℕ). y * 2 ^ suc k) (mul-div_cancel (m * 2 ^ (low binary64 - suc k)) (pow_pos (suc k))))

-- what `fits` says of a number that is not 0
pub fit_parts : (s : Bool) (m : ℕ) (e : ℤ) → Fits (fin s (suc m) e) → (suc m < 2 ^ 53) × (down e ≤ 2 ^ 1074) × (suc m * up e < 2 ^ 1024 * down e)
unfolding fits
fit_parts s m e t =
    let a = eqb (suc m % 2) 1 in
    let b = ltb (suc m) (2 ^ 53) in
    let c = leb (down e) (2 ^ 1074) in
    let d = ltb (suc m * up e) (2 ^ 1024 * down e) in
    let abc = and_l (a && b && c) d t in
    (ltb→lt (suc m) (2 ^ 53) (and_r a b (and_l (a && b) c abc)), leb→le (down e) (2 ^ 1074) (and_r (a && b) c abc), ltb→lt (suc m * up e) (2 ^ 1024 * down e) (and_r (a && b && c) d t))

-- the sign, and the size in ticks, of a finite float
abbrev pub sign : Float → Bool
sign nan = false
sign (inf s) = s
sign (fin s m e) = s

unfoldable pub size : Float → ℕ
size x = nat_abs (ticks x)

zero_ticks : (s : Bool) (u l d : ℕ) → 0 * u * l ≡ nat_abs (signed s (0 * u * l / d)) * d
zero_ticks s u l d =
    let e : 0 * u * l ≡ 0 = omega arith in
    let z : nat_abs (signed s (0 * u * l / d)) ≡ 0 = (signed_is s (0 * u * l / d)).1 ∙ ap (λ (k : ℕ). k / d) e ∙ zero-div d in
    e ∙ sym (ap (λ (k : ℕ). k * d) z ∙ zero-mul d)

pub has_value : (x : Float) → Fits x → T (finite x) → HasValue x (sign x) (size x) (2 ^ low binary64)
unfolding size ticks
has_value nan f p = absurd p
has_value (inf s) f p = absurd p
has_value (fin s zero e) f p = (refl, zero_ticks s (up e) (2 ^ low binary64) (down e))
has_value (fin s (suc m) e) f p = (refl, whole_ticks (suc m) e (fit_parts s m e f).1 ∙ ap (λ (k : ℕ). k * down e) (sym (signed_is s (suc m * up e * 2 ^ 1074 / down e)).1))

pub ticks_are : (x : Float) → ticks x ≡ signed (sign x) (size x)
unfolding size ticks
ticks_are nan = refl
ticks_are (inf false) = refl
ticks_are (inf true) = refl
ticks_are (fin s m e) = ap (signed s) (sym (signed_is s (m * up e * 2 ^ 1074 / down e)).1)

-- the value in ticks is the value: ticks x / L and top x / bottom x are one fraction
pub value_ticks : (x : Float) → Fits x → T (finite x) → ticks x *ℤ pos (bottom x) ≡ top x *ℤ pos L
unfolding L
value_ticks nan f p = absurd p
value_ticks (inf s) f p = absurd p
value_ticks (fin s m e) f p =
    ap (λ (z : ℤ). z *ℤ pos (down e)) (ticks_are (fin s m e))
    ∙ signed_scale s (size (fin s m e)) (down e)
    ∙ ap (signed s) (sym (has_value (fin s m e) f p).1)
    ∙ sym (signed_scale s (m * up e) (2 ^ 1074))

-- ---- negation
pub neg_top : (x : Float) → (top (neg x) ≡ neg_ℤ (top x)) × (bottom (neg x) ≡ bottom x)
unfolding neg
neg_top nan = (refl, refl)
neg_top (inf s) = (refl, refl)
neg_top (fin s m e) = (signed_neg s (m * up e), refl)

pub neg_finite : (x : Float) → T (finite x) → T (finite (neg x))
unfolding neg
neg_finite nan p = absurd p
neg_finite (inf s) p = absurd p
neg_finite (fin s m e) p = tt

-- ---- a finite float is below 2 ^ 1024
lower : (a l x d t : ℕ) → 0 < l → a * l ≡ x * d → a < t * d → x < t * l
lower a l x d t P e h = native.Mathlib.Nat.lt_of_mul-lt-mul_right d (omega (arith, native.Mathlib.Nat.mul-lt-mul_of_pos_right h P))

pub size_below : (x : Float) → Fits x → T (finite x) → size x < 2 ^ 1024 * 2 ^ 1074
size_below nan f p = absurd p
size_below (inf s) f p = absurd p
size_below (fin s zero e) f p = lower (zero * up e) (2 ^ 1074) (size (fin s zero e)) (down e) (2 ^ 1024) (pow_pos 1074) (has_value (fin s zero e) f p).1 (none (up e) (2 ^ 1024) (down e) (pow_pos 1024) (down_pos e))
  where
    none : (u t d : ℕ) → 0 < t → 0 < d → 0 * u < t * d
    none u t d a b = omega (arith, native.Mathlib.Nat.mul-pos a b)
size_below (fin s (suc m) e) f p = lower (suc m * up e) (2 ^ 1074) (size (fin s (suc m) e)) (down e) (2 ^ 1024) (pow_pos 1074) (has_value (fin s (suc m) e) f p).1 (fit_parts s m e f).2
