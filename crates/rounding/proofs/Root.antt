-- The square root, in ticks: rounded, its square is within 2 ^ -52 of the number, but for a part in 2 ^ 40.
use Rattle.std.proofs.Common.{◌≡◌, ℕ, zero, suc, ◌+◌, ◌-◌, ◌*◌, ◌/◌, ◌^◌, ◌<◌, ◌≤◌, max, Bool, true, false, cond, T, eqb, leb, ℤ, pos, neg_ℤ, nat_abs, sym, refl, ap, ◌∙◌, subst, le_trans, mul-le-mul_right, zero-lt-suc, mul_assoc, mul-le-mul, mul-pos, lt_of_not-le, mul_right_comm, le_of_mul-le-mul_right, mul-div_cancel, arith, lit≤, pow_pos, leb-false, leb-true}
use borrow.Author.Differences.{neg_is}
use borrow.Author.Differences.{down as down_z}
use lib.Ieee.{Float, nan, inf, fin, binary64, low, up, down, round, root_below, root_twice, fits}
use lib.Ieee.Digits.{size-lt}
use lib.Ieee.Fits.{down_pos, up_pos, sqrt-fits}
use lib.Ieee.Scale.{finite, grid}
use Rattle.std.specs.Float.{sqrt}
use Rattle.rounding.specs.Value.{signed, L, ticks}
use Rattle.rounding.proofs.Units.{Near, grid_near, round_finite}
use Rattle.rounding.proofs.Ticks.{size, sign, has_value, ticks_of, ticks_are, size_below}

-- ---- the whole part of a root
abbrev pub Root : ℕ → ℕ → Type 0
Root s n = (s * s ≤ n) × (n < (s + 1) * (s + 1))

digit : (r n : ℕ) (b : Bool) → Root r (n / 4) → leb ((2 * r + 1) * (2 * r + 1)) n ≡ b → Root (cond b (2 * r + 1) (2 * r)) n
digit r n true h e = (leb-true _ _ e, omega (arith, h.1))
digit r n false h e = (omega (arith, h.0), leb-false _ _ e)

pub below : (k n : ℕ) → n < 2 ^ k → Root (root_below k n) n
unfolding root_below
below zero n h = omega arith
below (suc k) n h = digit (root_below k (n / 4)) n _ (below k (n / 4) (omega arith)) refl

-- twice the root, or the odd number between: its square is near to 4 * n
abbrev Rough : ℕ → ℕ → Type 0
Rough t n = (t * t ≤ 4 * n + 4 * t + 4) × (4 * n ≤ t * t + 4 * t + 4)

twice : (n : ℕ) → Rough (root_twice n) n
unfolding root_twice
twice n = go (root_below (lib.Ieee.size n) n) (eqb (root_below (lib.Ieee.size n) n * root_below (lib.Ieee.size n) n) n) (below (lib.Ieee.size n) n (size-lt n))
  where
    go : (s : ℕ) (b : Bool) → Root s n → Rough (2 * s + cond b 0 1) n
    go s true h = omega (arith, h.0, h.1)
    go s false h = omega (arith, h.0, h.1)

-- ---- a is t rounded, and t * t is v, roughly
squares : (a t v : ℕ) → 2 ^ 100 ≤ t → (2 ^ 53 * a ≤ 2 ^ 53 * t + t) × (2 ^ 53 * t ≤ 2 ^ 53 * a + t) → (t * t ≤ v + 4 * t + 4) × (v ≤ t * t + 4 * t + 4)
    → (2 ^ 92 * (a * a) ≤ 2 ^ 92 * v + (2 ^ 40 + 1) * v) × (2 ^ 92 * v ≤ 2 ^ 92 * (a * a) + (2 ^ 40 + 1) * v)
squares a t v T n r =
    let u : 2 ^ 53 * a ≤ (2 ^ 53 + 1) * t = omega (arith, n.0) in
    let w : (2 ^ 53 - 1) * t ≤ 2 ^ 53 * a = omega (arith, n.1) in
    let big : 2 ^ 100 * t ≤ t * t = mul-le-mul_right t T in
    (omega (arith, mul-le-mul u u, r.0), omega (arith, mul-le-mul w w, r.1))

-- t is at least d times 2 ^ 100 where its square is about x * d * d
large : (t v h : ℕ) → v ≤ t * t + 4 * t + 4 → (h + 2) * (h + 2) ≤ v → h ≤ t
large t v h r V = native.Mathlib.Nat.le_of_suc-le-suc (lt_of_not-le (λ (g : suc t ≤ h). omega (arith, mul-le-mul {n₁ = t + 3} {m₁ = t + 3} {n₂ = h + 2} {m₂ = h + 2} (omega arith) (omega arith))))

-- ---- `sqrt` of a number of X ticks
scaled : (a d x : ℕ) → 0 < d → a * 2 ^ 1074 ≡ x * d → a * 2 ^ 4542 / d ≡ x * 2 ^ 3468
scaled a d x D e =
    ap (λ (k : ℕ). k / d) (sym (mul_assoc a (2 ^ 1074) (2 ^ 3468)) ∙ ap (λ (k : ℕ). k * 2 ^ 3468) e ∙ mul_right_comm x d (2 ^ 3468)) ∙ mul-div_cancel (x * 2 ^ 3468) D

sqrt_is : (x : Float) → T (fits binary64 x) → T (finite x) → sign x ≡ false → 0 < size x → sqrt binary64 x ≡ round binary64 false (root_twice (size x * 2 ^ 3468)) (2 ^ 2272)
unfolding sqrt
sqrt_is nan f p s z = absurd p
sqrt_is (inf t) f p s z = absurd p
sqrt_is (fin true zero e) f p s z = absurd (mathlib.Core.Bool.true≢false s)
sqrt_is (fin true (suc m) e) f p s z = absurd (mathlib.Core.Bool.true≢false s)
sqrt_is (fin false zero e) f p s z = absurd (nothing (size (fin false zero e)) (down e) (up e * 2 ^ 1074) z (down_pos e) (sym (mul_assoc 0 (up e) (2 ^ 1074)) ∙ (has_value (fin false zero e) f p).1))
  where
    nothing : (k d u : ℕ) → 0 < k → 0 < d → 0 * u ≡ k * d → ⊥
    nothing k d u K D e = omega (arith, mul-pos K D)
sqrt_is (fin false (suc m) e) f p s z =
    ap (λ (n : ℕ). round binary64 false (root_twice n) (2 ^ 2272)) (scaled (suc m * up e) (down e) (size (fin false (suc m) e)) (down_pos e) (has_value (fin false (suc m) e) f p).1)

-- with D = 2 ^ 1198: t / D is the root in ticks
cancel : (h t d l g : ℕ) → 0 < l → Near h (t * l) (d * l) g → Near h t d g
cancel h t d l g P N =
    let e = max t (h * d) in
    let a : t * l ≤ e * l = mul-le-mul_right l (omega arith) in
    let b : h * d * l ≤ e * l = mul-le-mul_right l (omega arith) in
    let u : 2 * h * (g * d) * l ≤ (2 * h * t + e) * l = omega (arith, N.0) in
    let v : 2 * h * t * l ≤ (2 * h * (g * d) + e) * l = omega (arith, N.1) in
    (le_of_mul-le-mul_right u P, le_of_mul-le-mul_right v P)

-- what is said of g, x, l: |g * g - x * l| ≤ x * l * (2 ^ -52 + 2 ^ -92)
abbrev pub RootError : ℕ → ℕ → Type 0
RootError g v = (2 ^ 92 * (g * g) ≤ 2 ^ 92 * v + (2 ^ 40 + 1) * v) × (2 ^ 92 * v ≤ 2 ^ 92 * (g * g) + (2 ^ 40 + 1) * v)

-- over d * d
uncross : (g d v : ℕ) → 0 < d → RootError (g * d) (v * (d * d)) → RootError g v
uncross g d v P h = (le_of_mul-le-mul_right {k = d * d} (omega (arith, h.0)) (mul-pos P P), le_of_mul-le-mul_right {k = d * d} (omega (arith, h.1)) (mul-pos P P))

-- l is 2 ^ 1074, d is 2 ^ 1198, n is x * 2 ^ 3468; 4 * n is x * l * (d * d)
core : (x l d n t g : ℕ) → 4 * n ≡ x * l * (d * d) → 0 < x → 0 < d → (2 ^ 120 * d + 2) * (2 ^ 120 * d + 2) ≤ l * (d * d) → Rough t n → Near (2 ^ 52) t d g → RootError g (x * l)
core x l d n t g e X P B r N =
    let lo : l * (d * d) ≤ 4 * n = omega (arith, mul-le-mul_right (l * (d * d)) X) in
    let T : 2 ^ 120 * d ≤ t = large t (4 * n) (2 ^ 120 * d) r.1 (le_trans B lo) in
    let a : 2 ^ 53 * (g * d) ≤ 2 ^ 53 * t + t = omega (arith, N.0) in
    let b : 2 ^ 53 * t ≤ 2 ^ 53 * (g * d) + t = omega (arith, N.1) in
    let q = squares (g * d) t (4 * n) (omega arith) (a, b) r in
    uncross g d (x * l) P (subst (λ (k : ℕ). RootError (g * d) k) e q)

upper : (t n b : ℕ) → t * t ≤ 4 * n + 4 * t + 4 → n < b * b → t < 4 * b + 8
upper t n b r h = lt_of_not-le (λ (g : 4 * b + 8 ≤ t). omega (arith, mul-le-mul_right t g, mul-le-mul_right b g))

under : (x : ℕ) → x < 2 ^ 1024 * 2 ^ 1074 → x * 2 ^ 3468 < 2 ^ 2783 * 2 ^ 2783
under x h = native.Mathlib.Nat.mul-lt-mul_of_pos_right h (pow_pos 3468)

in_range : (t : ℕ) → t < 4 * 2 ^ 2783 + 8 → t < 2 ^ 1023 * 2 ^ 2272
in_range t h = native.Mathlib.Nat.lt_of_lt_of_le h (lit≤ tt)

four_n : (x a b c : ℕ) → 4 * a ≡ b * c → 4 * (x * a) ≡ x * b * c
four_n x a b c e = omega (arith, ap (λ (k : ℕ). x * k) e)

-- a number above zero
sqrt_above : (x : Float) → T (fits binary64 x) → T (finite x) → sign x ≡ false → 0 < size x → (k : ℕ) × T (finite (sqrt binary64 x)) × (ticks (sqrt binary64 x) ≡ pos k) × RootError k (size x * L)
unfolding L
sqrt_above x f p s z =
    let n = size x * 2 ^ 3468 in
    let t = root_twice n in
    let r = twice n in
    let k = grid binary64 t (2 ^ 2272) in
    let N : Near (2 ^ 52) t (2 ^ 1198) k = cancel (2 ^ 52) t (2 ^ 1198) (2 ^ 1074) k (pow_pos 1074) (grid_near binary64 t (2 ^ 2272) (pow_pos 2272)) in
    let e : 4 * n ≡ size x * 2 ^ 1074 * (2 ^ 1198 * 2 ^ 1198) = four_n (size x) (2 ^ 3468) (2 ^ 1074) (2 ^ 1198 * 2 ^ 1198) refl in
    let q = core (size x) (2 ^ 1074) (2 ^ 1198) n t k e z (pow_pos 1198) (lit≤ tt) r N in
    let v = ticks_of (round binary64 false t (2 ^ 2272)) false k (round_finite binary64 false t (2 ^ 2272) (pow_pos 2272) (in_range t (upper t n (2 ^ 2783) r.0 (under (size x) (size_below x f p))))) in
    let i = sqrt_is x f p s z in
    (k, subst (λ (y : Float). T (finite y)) (sym i) v.1, ap ticks i ∙ v.0, q)

zero_root : (e : ℤ) (k : ℕ) → zero * up e * 2 ^ low binary64 ≡ k * down e → k ≡ 0
zero_root e k h = go k (down e) (up e) (2 ^ low binary64) (down_pos e) h
  where
    go : (k d u l : ℕ) → 0 < d → 0 * u * l ≡ k * d → k ≡ 0
    go zero d u l D e = refl
    go (suc k) d u l D e = absurd (omega (arith, mul-pos {m = suc k} {n = d} (zero-lt-suc k) D))

some_size : (s : Bool) (m : ℕ) (e : ℤ) → T (fits binary64 (fin s (suc m) e)) → 0 < size (fin s (suc m) e)
some_size s m e f = lib.Ieee.Positive.first_pos (size (fin s (suc m) e)) (down e) (subst (λ (k : ℕ). 0 < k) (has_value (fin s (suc m) e) f tt).1 (mul-pos (mul-pos (zero-lt-suc m) (up_pos e)) (pow_pos (low binary64))))

no_size : (s : Bool) (e : ℤ) → T (fits binary64 (fin s zero e)) → ticks (fin s zero e) ≡ pos 0
no_size false e f = ticks_are (fin false zero e) ∙ ap (signed false) (zero_root e (size (fin false zero e)) (has_value (fin false zero e) f tt).1)
no_size true e f = ticks_are (fin true zero e) ∙ ap (signed true) (zero_root e (size (fin true zero e)) (has_value (fin true zero e) f tt).1)

zero_error : (X l : ℕ) → pos 0 ≡ pos X → RootError 0 (X * l)
zero_error X l h = let z : X ≡ 0 = sym (ap nat_abs h) in let y : X * l ≡ 0 = omega (arith, ap (λ (k : ℕ). k * l) z) in omega arith

clash : (k X : ℕ) → 0 < k → neg_ℤ (pos k) ≡ pos X → ⊥
clash k X K h = omega (arith, neg_is (pos k), ap down_z h)

-- any finite x that is not negative: -0 and 0 are their own roots.
pub sqrt_near : (x : Float) (X : ℕ) → T (fits binary64 x) → T (finite x) → ticks x ≡ pos X → (k : ℕ) × T (finite (sqrt binary64 x)) × (ticks (sqrt binary64 x) ≡ pos k) × RootError k (X * L)
sqrt_near nan X f p h = absurd p
sqrt_near (inf s) X f p h = absurd p
sqrt_near (fin true zero e) X f p h = unfold sqrt in (0, tt, no_size true (pos 0) (sqrt-fits binary64 (fin true zero e)), zero_error X L (sym (no_size true e f) ∙ h))
sqrt_near (fin false zero e) X f p h = unfold sqrt in (0, tt, no_size false (pos 0) (sqrt-fits binary64 (fin false zero e)), zero_error X L (sym (no_size false e f) ∙ h))
sqrt_near (fin true (suc m) e) X f p h = absurd (clash (size (fin true (suc m) e)) X (some_size true m e f) (sym (ticks_are (fin true (suc m) e)) ∙ h))
sqrt_near (fin false (suc m) e) X f p h =
    let x = fin false (suc m) e in
    let q = sqrt_above x f p refl (some_size false m e f) in
    (q.0, q.1, q.2, subst (λ (k : ℕ). RootError q.0 (k * L)) (ap nat_abs (sym (ticks_are x) ∙ h)) q.3)
