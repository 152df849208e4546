-- What f64 can hold, in ticks: whole numbers of 53 binary digits and zeros after them.
use Rattle.std.proofs.Common.{◌≡◌, ℕ, zero, suc, ◌+◌, ◌-◌, ◌*◌, ◌^◌, ◌<◌, ◌≤◌, Bool, T, ◌⊎◌, ℤ, pos, negsuc, sym, refl, ap, ◌∙◌, subst, inl, inr, lt_of_le_of_lt, mul_assoc, mul_comm, eq-zero-or-pos, mul-one, not-le_of_lt, le_of_mul-le-mul_right, arith, lit<, pow_pos, pow-add}
use native.Mathlib.Nat.{mul-sub, pow-succ', eq_of_mul-eq-mul_right}
use lib.Ieee.{Float, nan, inf, fin, binary64, low, up, down}
use lib.Ieee.Scale.{finite}
use Rattle.rounding.proofs.Ticks.{Fits, common, shift, shorter, fit_parts, size, has_value}

-- w is q * 2 ^ j with a q of 53 digits
pub record Digits (w : ℕ) : Type 0 where
  pub q : ℕ
  pub j : ℕ
  pub is : w ≡ q * 2 ^ j
  pub small : q < 2 ^ 53

-- ---- every float is such a number of ticks
few : (s : Bool) (m : ℕ) (e : ℤ) → Fits (fin s m e) → m < 2 ^ 53
few s zero e t = lit< tt
few s (suc m) e t = (fit_parts s m e t).0

digits_by : (m : ℕ) (e : ℤ) (l w : ℕ) → m < 2 ^ 53 → m * up e * 2 ^ l ≡ w * down e → (m ≡ 0) ⊎ (down e ≤ 2 ^ l) → Digits w
digits_by m (pos k) l w h e r = record { q = m; j = k + l; is = sym (mul-one w) ∙ sym e ∙ mul_assoc m (2 ^ k) (2 ^ l) ∙ ap (λ (x : ℕ). m * x) (sym (pow-add 2 k l)); small = h }
digits_by m (negsuc k) l w h e (inl z) = record { q = 0; j = 0; is = eq_of_mul-eq-mul_right (2 ^ suc k) (pow_pos (suc k)) w (0 * 1) (sym e ∙ ap (λ (x : ℕ). x * 1 * 2 ^ l) z ∙ nil (2 ^ l) (2 ^ suc k)); small = lit< tt }
  where
    nil : (a b : ℕ) → 0 * 1 * a ≡ 0 * 1 * b
    nil a b = omega arith
digits_by m (negsuc k) l w h e (inr d) = record { q = m; j = l - suc k; is = eq_of_mul-eq-mul_right (2 ^ suc k) (pow_pos (suc k)) w (m * 2 ^ (l - suc k)) (sym e ∙ shift m l (suc k) (shorter l (suc k) d)); small = h }

fine : (s : Bool) (m : ℕ) (e : ℤ) → Fits (fin s m e) → (m ≡ 0) ⊎ (down e ≤ 2 ^ low binary64)
fine s zero e t = inl refl
fine s (suc m) e t = inr (fit_parts s m e t).1

pub float_digits : (x : Float) → Fits x → T (finite x) → Digits (size x)
float_digits nan f p = absurd p
float_digits (inf s) f p = absurd p
float_digits (fin s m e) f p = digits_by m e (low binary64) (size (fin s m e)) (few s m e f) (has_value (fin s m e) f p).1 (fine s m e f)

-- ---- so is the difference of two within a factor of two
-- w is the difference of two multiples of p, and at most q * p
near : (w a b q i : ℕ) → w ≡ (a - b) * 2 ^ i → w ≤ q * 2 ^ i → q < 2 ^ 53 → Digits w
near w a b q i e l h =
    let c : (a - b) * 2 ^ i ≤ q * 2 ^ i = subst (λ (x : ℕ). x ≤ q * 2 ^ i) e l in
    record { q = a - b; j = i; is = e; small = lt_of_le_of_lt (le_of_mul-le-mul_right c (pow_pos i)) h }

times_sub : (a b p : ℕ) → (a - b) * p ≡ a * p - b * p
times_sub a b p = mul_comm (a - b) p ∙ mul-sub p a b ∙ (λ i. mul_comm p a i - mul_comm p b i)

pub sterbenz : (x y : ℕ) → Digits x → Digits y → x ≤ y → y ≤ 2 * x → Digits (y - x)
sterbenz x y a b l h = elim (eq-zero-or-pos (a.j - b.j)) [
  | inl z ↦
      -- a.j ≤ b.j
      let c : a.j ≤ b.j = omega arith in
      let e : y ≡ b.q * 2 ^ (b.j - a.j) * 2 ^ a.j = b.is ∙ common b.q a.j b.j c in
      near (y - x) (b.q * 2 ^ (b.j - a.j)) a.q a.q a.j ((λ i. e i - a.is i) ∙ sym (times_sub (b.q * 2 ^ (b.j - a.j)) a.q (2 ^ a.j))) (omega (arith, a.is)) a.small
  | inr p ↦
      let c : b.j ≤ a.j = omega arith in
      let e : x ≡ a.q * 2 ^ (a.j - b.j) * 2 ^ b.j = a.is ∙ common a.q b.j a.j c in
      near (y - x) b.q (a.q * 2 ^ (a.j - b.j)) b.q b.j ((λ i. b.is i - e i) ∙ sym (times_sub b.q (a.q * 2 ^ (a.j - b.j)) (2 ^ b.j))) (omega (arith, b.is)) b.small
]

-- ---- half of what has 2 ^ 53 ticks and more is a whole number of ticks
pub half : (w : ℕ) → Digits w → 2 ^ 53 ≤ w → (v : ℕ) × (w ≡ v * 2) × Digits v
half w d h = go d.j d.is
  where
    even : (u v : ℕ) → u * (2 * v) ≡ u * v * 2
    even u v = omega arith

    go : (j : ℕ) → w ≡ d.q * 2 ^ j → (v : ℕ) × (w ≡ v * 2) × Digits v
    go zero e = absurd (not-le_of_lt d.small (subst (λ (n : ℕ). 2 ^ 53 ≤ n) (e ∙ mul-one d.q) h))
    go (suc j) e = (d.q * 2 ^ j, e ∙ ap (λ (n : ℕ). d.q * n) (pow-succ' 2 j) ∙ even d.q (2 ^ j), record { q = d.q; j = j; is = refl; small = d.small })
