-- Each operation hands `round` its exact result: here as a fraction of whole numbers of ticks.
use Rattle.std.proofs.Common.{◌≡◌, ℕ, ◌+◌, ◌-◌, ◌*◌, ◌^◌, ◌<◌, ◌≤◌, Bool, true, false, T, eqb, pos, ◌+ℤ◌, neg_ℤ, sym, refl, ap, ◌∙◌, subst, inl, inr, mul-le-mul_right, mul_assoc, mul_comm, lt_of_mul-lt-mul_right, mul-lt-mul_of_pos_right, mul-pos, mul_right_comm, mul_left_comm, arith, pow_pos, le-ltb, lt-ltb}
use Rattle.std.proofs.lemmas.Bool.{cases_order}
use mathlib.Core.Bool.{beq}
use native.Mathlib.Nat.{mul-mul-mul_comm, eq_of_mul-eq-mul_right}
use lib.Ieee.{Float, nan, inf, fin, binary64, low, up, down, unlike, round, sum, add, mul, div}
use lib.Ieee.Fits.{down_pos}
use lib.Ieee.Scale.{finite, round_same}
use borrow.Author.Differences.{sum_is_lem, neg_is, same_in}
use Rattle.rounding.specs.Value.{signed, L, ticks}
use Rattle.rounding.proofs.Ticks.{Fits, sign, size, has_value, ticks_are}

-- ---- products
cross : (a b l x y d e : ℕ) → a * l ≡ x * d → b * l ≡ y * e → a * b * (l * l) ≡ x * y * (d * e)
cross a b l x y d e p q = mul-mul-mul_comm a b l l ∙ (λ i. p i * q i) ∙ mul-mul-mul_comm x d y e

pub mul_is : (x y : Float) → Fits x → Fits y → T (finite x) → T (finite y) → mul binary64 x y ≡ round binary64 (unlike (sign x) (sign y)) (size x * size y) (L * L)
unfolding mul L
mul_is nan y f g p q = absurd p
mul_is (inf s) y f g p q = absurd p
mul_is (fin s m e) nan f g p q = absurd q
mul_is (fin s m e) (inf t) f g p q = absurd q
mul_is (fin s m e) (fin t n d) f g p q =
    round_same binary64 (unlike s t) (m * up e * (n * up d)) (down e * down d) (size (fin s m e) * size (fin t n d)) (2 ^ 1074 * 2 ^ 1074) (mul-pos (down_pos e) (down_pos d)) (mul-pos (pow_pos 1074) (pow_pos 1074))
    (cross (m * up e) (n * up d) (2 ^ 1074) (size (fin s m e)) (size (fin t n d)) (down e) (down d) (has_value (fin s m e) f p).1 (has_value (fin t n d) g q).1)

-- ---- sums
sum_like : (s : Bool) (a b c : ℕ) → sum binary64 s a s b c ≡ round binary64 s (a + b) c
unfolding sum
sum_like true a b c = refl
sum_like false a b c = refl

sum_less : (s t : Bool) (a b c : ℕ) → beq s t ≡ false → a < b → sum binary64 s a t b c ≡ round binary64 t (b - a) c
unfolding sum
sum_less s t a b c u l = rw (u, lt-ltb a b l) refl

sum_more : (s t : Bool) (a b c : ℕ) → beq s t ≡ false → b < a → sum binary64 s a t b c ≡ round binary64 s (a - b) c
unfolding sum
sum_more true t a b c u l = rw (u, le-ltb a b (omega arith), lt-ltb b a l) refl
sum_more false t a b c u l = rw (u, le-ltb a b (omega arith)) refl

sum_level : (s t : Bool) (a b c : ℕ) → beq s t ≡ false → a ≡ b → sum binary64 s a t b c ≡ round binary64 false 0 c
unfolding sum
sum_level true t a b c u e = let z : a - b ≡ 0 = omega arith in rw (u, le-ltb a b (omega arith), le-ltb b a (omega arith), z) refl
sum_level false t a b c u e = let z : a - b ≡ 0 = omega arith in rw (u, le-ltb a b (omega arith), z) refl

-- what a sum rounds: the sign, and the size over c. a and b are over c, and x and y are the same numbers over c'
abbrev Sums : Bool → ℕ → Bool → ℕ → ℕ → ℕ → ℕ → ℕ → Type 0
Sums s a t b c x y c' = (r : Bool) × (w : ℕ) × (sum binary64 s a t b c ≡ round binary64 r w c') × (signed s x +ℤ signed t y ≡ signed r w)

take : (a b c x y c' : ℕ) → a < b → a * c' ≡ x * c → b * c' ≡ y * c → (b - a) * c' ≡ (y - x) * c
take a b c x y c' l p q =
    let d : b - a + a ≡ b = omega arith in
    let u : x * c ≤ y * c = omega (arith, mul-le-mul_right c' (native.Mathlib.Nat.le_of_lt l)) in
    omega (arith, ap (λ (k : ℕ). k * c') d, native.Mathlib.Nat.mul-sub c y x)

smaller : (a b c x y c' : ℕ) → 0 < c' → a < b → a * c' ≡ x * c → b * c' ≡ y * c → x < y
smaller a b c x y c' C l p q = lt_of_mul-lt-mul_right c (omega (arith, mul-lt-mul_of_pos_right l C))

unlike_signs : (s t : Bool) → beq s t ≡ false → (a b : ℕ) → (a < b → signed s a +ℤ signed t b ≡ signed t (b - a)) × (b < a → signed s a +ℤ signed t b ≡ signed s (a - b)) × (a ≡ b → signed s a +ℤ signed t b ≡ pos 0)
unlike_signs true true u a b = absurd (mathlib.Core.Bool.true≢false u)
unlike_signs false false u a b = absurd (mathlib.Core.Bool.true≢false u)
unlike_signs true false u a b = (
  (λ l. same_in (neg_ℤ (pos a) +ℤ pos b) (pos (b - a)) (omega (arith, sum_is_lem (neg_ℤ (pos a)) (pos b), neg_is (pos a)))),
  (λ l. same_in (neg_ℤ (pos a) +ℤ pos b) (neg_ℤ (pos (a - b))) (omega (arith, sum_is_lem (neg_ℤ (pos a)) (pos b), neg_is (pos a), neg_is (pos (a - b))))),
  (λ e. same_in (neg_ℤ (pos a) +ℤ pos b) (pos 0) (omega (arith, sum_is_lem (neg_ℤ (pos a)) (pos b), neg_is (pos a)))),
)
unlike_signs false true u a b = (
  (λ l. same_in (pos a +ℤ neg_ℤ (pos b)) (neg_ℤ (pos (b - a))) (omega (arith, sum_is_lem (pos a) (neg_ℤ (pos b)), neg_is (pos b), neg_is (pos (b - a))))),
  (λ l. same_in (pos a +ℤ neg_ℤ (pos b)) (pos (a - b)) (omega (arith, sum_is_lem (pos a) (neg_ℤ (pos b)), neg_is (pos b)))),
  (λ e. same_in (pos a +ℤ neg_ℤ (pos b)) (pos 0) (omega (arith, sum_is_lem (pos a) (neg_ℤ (pos b)), neg_is (pos b)))),
)

unlike_sum : (s t : Bool) (a b c x y c' : ℕ) → beq s t ≡ false → 0 < c → 0 < c' → a * c' ≡ x * c → b * c' ≡ y * c → Sums s a t b c x y c'
unlike_sum s t a b c x y c' u C C' p q =
    elim (cases_order a b) [
      | inl e ↦ (false, 0, sum_level s t a b c u e ∙ round_same binary64 false 0 c 0 c' C C' (omega arith), (unlike_signs s t u x y).2 (eq_of_mul-eq-mul_right c C x y (omega (arith, ap (λ (k : ℕ). k * c') e))))
      | inr r ↦ elim r [
        | inl l ↦ (t, y - x, sum_less s t a b c u l ∙ round_same binary64 t (b - a) c (y - x) c' C C' (take a b c x y c' l p q), (unlike_signs s t u x y).0 (smaller a b c x y c' C' l p q))
        | inr l ↦ (s, x - y, sum_more s t a b c u l ∙ round_same binary64 s (a - b) c (x - y) c' C C' (take b a c y x c' l q p), (unlike_signs s t u x y).1 (smaller b a c y x c' C' l q p))
      ]
    ]

like_signs : (s : Bool) (x y : ℕ) → signed s x +ℤ signed s y ≡ signed s (x + y)
like_signs false x y = refl
like_signs true x y = same_in (neg_ℤ (pos x) +ℤ neg_ℤ (pos y)) (neg_ℤ (pos (x + y))) (omega (arith, sum_is_lem (neg_ℤ (pos x)) (neg_ℤ (pos y)), neg_is (pos x), neg_is (pos y), neg_is (pos (x + y))))

like_sum : (s : Bool) (a b c x y c' : ℕ) → 0 < c → 0 < c' → a * c' ≡ x * c → b * c' ≡ y * c → Sums s a s b c x y c'
like_sum s a b c x y c' C C' p q = (s, x + y, sum_like s a b c ∙ round_same binary64 s (a + b) c (x + y) c' C C' (omega arith), like_signs s x y)

sums : (s t : Bool) (a b c x y c' : ℕ) → 0 < c → 0 < c' → a * c' ≡ x * c → b * c' ≡ y * c → Sums s a t b c x y c'
sums true true a b c x y c' C C' p q = like_sum true a b c x y c' C C' p q
sums false false a b c x y c' C C' p q = like_sum false a b c x y c' C C' p q
sums true false a b c x y c' C C' p q = unlike_sum true false a b c x y c' refl C C' p q
sums false true a b c x y c' C C' p q = unlike_sum false true a b c x y c' refl C C' p q

-- m * u / d over d * e: m * u * e, where m * u * l is x * d
over : (a d e x l : ℕ) → a * l ≡ x * d → a * e * l ≡ x * (d * e)
over a d e x l p = mul_right_comm a e l ∙ ap (λ (k : ℕ). k * e) p ∙ mul_assoc x d e

abbrev Added : Float → Float → Type 0
Added x y = (r : Bool) × (w : ℕ) × (add binary64 x y ≡ round binary64 r w L) × (ticks x +ℤ ticks y ≡ signed r w)

pub add_is : (x y : Float) → Fits x → Fits y → T (finite x) → T (finite y) → Added x y
unfolding add L
add_is nan y f g p q = absurd p
add_is (inf s) y f g p q = absurd p
add_is (fin s m e) nan f g p q = absurd q
add_is (fin s m e) (inf t) f g p q = absurd q
add_is (fin s m e) (fin t n d) f g p q =
    let x = fin s m e in
    let y = fin t n d in
    let k = sums s t (m * up e * down d) (n * up d * down e) (down e * down d) (size x) (size y) (2 ^ 1074) (mul-pos (down_pos e) (down_pos d)) (pow_pos 1074)
    (over (m * up e) (down e) (down d) (size x) (2 ^ 1074) (has_value x f p).1)
    (over (n * up d) (down d) (down e) (size y) (2 ^ 1074) (has_value y g q).1 ∙ ap (λ (j : ℕ). size y * j) (mul_comm (down d) (down e))) in
    (k.0, k.1, k.2, (λ i. ticks_are x i +ℤ ticks_are y i) ∙ k.3)

-- ---- quotients
ratio : (a b l x y d e : ℕ) → 0 < l → a * l ≡ x * d → b * l ≡ y * e → a * e * y ≡ x * (b * d)
ratio a b l x y d e N p q =
    let u : a * e * y * l ≡ x * d * (e * y) = simp (mul_assoc, mul_comm, mul_left_comm) (simp (mul_assoc, mul_comm, mul_left_comm) at (ap (λ (k : ℕ). k * (e * y)) p)) in
    let v : x * (b * d) * l ≡ x * d * (e * y) = simp (mul_assoc, mul_comm, mul_left_comm) (simp (mul_assoc, mul_comm, mul_left_comm) at (ap (λ (k : ℕ). k * (x * d)) q)) in
    eq_of_mul-eq-mul_right l N (a * e * y) (x * (b * d)) (u ∙ sym v)

pub div_is : (x y : Float) → Fits x → Fits y → T (finite x) → T (finite y) → 0 < size y → div binary64 x y ≡ round binary64 (unlike (sign x) (sign y)) (size x) (size y)
unfolding div
div_is nan y f g p q h = absurd p
div_is (inf s) y f g p q h = absurd p
div_is (fin s m e) nan f g p q h = absurd q
div_is (fin s m e) (inf t) f g p q h = absurd q
div_is (fin s m e) (fin t n d) f g p q h =
    let x = fin s m e in
    let y = fin t n d in
    let B : 0 < n * up d = lib.Ieee.Positive.first_pos (n * up d) (2 ^ low binary64) (subst (λ (k : ℕ). 0 < k) (sym (has_value y g q).1) (mul-pos h (down_pos d))) in
    let N : eqb n 0 ≡ false = borrow.Author.Tests.ne_eqb n 0 (λ z. native.Mathlib.Nat.lt_irrefl 0 (subst (λ (k : ℕ). 0 < k) (ap (λ (k : ℕ). k * up d) z ∙ native.Mathlib.Nat.zero-mul (up d)) B)) in
    rw N (round_same binary64 (unlike s t) (m * up e * down d) (n * up d * down e) (size x) (size y) (mul-pos B (down_pos e)) h
    (ratio (m * up e) (n * up d) (2 ^ low binary64) (size x) (size y) (down e) (down d) (pow_pos (low binary64)) (has_value x f p).1 (has_value y g q).1))
