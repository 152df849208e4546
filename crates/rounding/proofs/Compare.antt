-- `lt` and `le` on finite floats decide the order of their values.
use Rattle.std.proofs.Common.{◌≡◌, ℕ, ◌+◌, ◌*◌, Bool, true, false, ◌||◌, T, eqb, ◌⊎◌, ℤ, pos, ◌*ℤ◌, sym, refl, ap, ◌∙◌, ap₂, inl, inr, eq-or-lt_of_le, arith, eqb→eq, ltb→lt, lt→ltb}
use Prim.Native.Nat as N
use lib.Signed.{lt_z, le_z}
use lib.Ieee.{Float, nan, inf, fin, up, down, below, level, lt, le}
use lib.Ieee.Fits.{and_l, and_r, and_i, eq→eqb}
use lib.Ieee.Scale.{finite}
use borrow.Author.Differences.{neg_is, lt_T, le_T, lt_in, le_in, lt-true, lt-false, le-true, le-false}
use borrow.Author.Differences.{up as up_z, down as down_z}
use Rattle.exact.specs.Fraction.{cross}
use Rattle.exact.proofs.Rational.{ℚ}
use Rattle.exact.proofs.Order.{◌≤◌, ◌<◌, from_frac, to_frac}
use Rattle.exact.proofs.Within.{not_≤, ≤_trans, ≤_of}
use Rattle.rounding.specs.Value.{signed, top, bottom, val}
use Rattle.rounding.proofs.Signs.{signed_scale}
use Rattle.rounding.proofs.Ticks.{den_is}
use Rattle.rounding.proofs.Rounds.{Exact}

same_test : (a b : Bool) → (T a → T b) → (T b → T a) → a ≡ b
same_test true true f g = refl
same_test true false f g = absurd (f tt)
same_test false true f g = absurd (g tt)
same_test false false f g = refl

-- ---- ±a < ±b, and ±a = ±b, as integers
below_out : (s : Bool) (a : ℕ) (t : Bool) (b : ℕ) → T (below s a t b) → N.◌<◌ (up_z (signed s a) + down_z (signed t b)) (up_z (signed t b) + down_z (signed s a))
below_out false a false b h = omega (arith, ltb→lt a b h)
below_out false a true b h = absurd h
below_out true a false b h = omega (arith, ltb→lt 0 (a + b) h, neg_is (pos a))
below_out true a true b h = omega (arith, ltb→lt b a h, neg_is (pos a), neg_is (pos b))

below_in : (s : Bool) (a : ℕ) (t : Bool) (b : ℕ) → N.◌<◌ (up_z (signed s a) + down_z (signed t b)) (up_z (signed t b) + down_z (signed s a)) → T (below s a t b)
below_in false a false b h = lt→ltb a b (omega arith)
below_in false a true b h = absurd (omega (arith, neg_is (pos b)))
below_in true a false b h = lt→ltb 0 (a + b) (omega (arith, neg_is (pos a)))
below_in true a true b h = lt→ltb b a (omega (arith, neg_is (pos a), neg_is (pos b)))

or_split : (a b : Bool) → T (a || b) → T a ⊎ T b
or_split true b t = inl tt
or_split false b t = inr t

or_l : (a b : Bool) → T a → T (a || b)
or_l true b t = tt
or_l false b t = absurd t

or_r : (a b : Bool) → T b → T (a || b)
or_r true b t = tt
or_r false b t = t

level_out : (s : Bool) (a : ℕ) (t : Bool) (b : ℕ) → T (level s a t b) → up_z (signed s a) + down_z (signed t b) ≡ up_z (signed t b) + down_z (signed s a)
level_out false a false b h = omega (arith, eqb→eq a b (and_l (eqb a b) true h))
level_out true a true b h = omega (arith, eqb→eq a b (and_l (eqb a b) true h), neg_is (pos a), neg_is (pos b))
level_out false a true b h = omega (arith, eqb→eq a b (and_l (eqb a b) (eqb a 0) h), eqb→eq a 0 (and_r (eqb a b) (eqb a 0) h), neg_is (pos b))
level_out true a false b h = omega (arith, eqb→eq a b (and_l (eqb a b) (eqb a 0) h), eqb→eq a 0 (and_r (eqb a b) (eqb a 0) h), neg_is (pos a))

level_in : (s : Bool) (a : ℕ) (t : Bool) (b : ℕ) → up_z (signed s a) + down_z (signed t b) ≡ up_z (signed t b) + down_z (signed s a) → T (level s a t b)
level_in false a false b h = and_i (eqb a b) true (eq→eqb (omega arith)) tt
level_in true a true b h = and_i (eqb a b) true (eq→eqb (omega (arith, neg_is (pos a), neg_is (pos b)))) tt
level_in false a true b h = and_i (eqb a b) (eqb a 0) (eq→eqb (omega (arith, neg_is (pos b)))) (eq→eqb (omega (arith, neg_is (pos b))))
level_in true a false b h = and_i (eqb a b) (eqb a 0) (eq→eqb (omega (arith, neg_is (pos a)))) (eq→eqb (omega (arith, neg_is (pos a))))

upto_out : (s : Bool) (a : ℕ) (t : Bool) (b : ℕ) → T (below s a t b || level s a t b) → N.◌≤◌ (up_z (signed s a) + down_z (signed t b)) (up_z (signed t b) + down_z (signed s a))
upto_out s a t b h = elim (or_split (below s a t b) (level s a t b) h) [ inl u ↦ omega (arith, below_out s a t b u) | inr u ↦ omega (arith, level_out s a t b u) ]

upto_in : (s : Bool) (a : ℕ) (t : Bool) (b : ℕ) → N.◌≤◌ (up_z (signed s a) + down_z (signed t b)) (up_z (signed t b) + down_z (signed s a)) → T (below s a t b || level s a t b)
upto_in s a t b h = elim (eq-or-lt_of_le h) [ inl u ↦ or_r (below s a t b) (level s a t b) (level_in s a t b u) | inr u ↦ or_l (below s a t b) (level s a t b) (below_in s a t b u) ]

below_is : (s : Bool) (a : ℕ) (t : Bool) (b : ℕ) → below s a t b ≡ lt_z (signed s a) (signed t b)
below_is s a t b = same_test (below s a t b) (lt_z (signed s a) (signed t b)) (λ h. lt_in (signed s a) (signed t b) (below_out s a t b h)) (λ h. below_in s a t b (lt_T (signed s a) (signed t b) h))

upto_is : (s : Bool) (a : ℕ) (t : Bool) (b : ℕ) → (below s a t b || level s a t b) ≡ le_z (signed s a) (signed t b)
upto_is s a t b = same_test (below s a t b || level s a t b) (le_z (signed s a) (signed t b)) (λ h. le_in (signed s a) (signed t b) (upto_out s a t b h)) (λ h. upto_in s a t b (le_T (signed s a) (signed t b) h))

-- ---- by cross products
scales : (f : ℤ → ℤ → Bool) (s t : Bool) (a b d e : ℕ) → f (signed s (a * d)) (signed t (b * e)) ≡ f (signed s a *ℤ pos d) (signed t b *ℤ pos e)
scales f s t a b d e = ap (λ (z : ℤ). f z (signed t (b * e))) (sym (signed_scale s a d)) ∙ ap (λ (z : ℤ). f (signed s a *ℤ pos d) z) (sym (signed_scale t b e))

lt_value : (x y : Float) → T (finite x) → T (finite y) → lt x y ≡ lt_z (top x *ℤ pos (bottom y)) (top y *ℤ pos (bottom x))
unfolding lt
lt_value nan y p q = absurd p
lt_value (inf s) y p q = absurd p
lt_value (fin s m e) nan p q = absurd q
lt_value (fin s m e) (inf t) p q = absurd q
lt_value (fin s m e) (fin t n d) p q = below_is s (m * up e * down d) t (n * up d * down e) ∙ scales lt_z s t (m * up e) (n * up d) (down d) (down e)

le_value : (x y : Float) → T (finite x) → T (finite y) → le x y ≡ le_z (top x *ℤ pos (bottom y)) (top y *ℤ pos (bottom x))
unfolding le
le_value nan y p q = absurd p
le_value (inf s) y p q = absurd p
le_value (fin s m e) nan p q = absurd q
le_value (fin s m e) (inf t) p q = absurd q
le_value (fin s m e) (fin t n d) p q = upto_is s (m * up e * down d) t (n * up d * down e) ∙ scales le_z s t (m * up e) (n * up d) (down d) (down e)

pub lt_cross : (x y : Float) → T (finite x) → T (finite y) → lt x y ≡ lt_z (cross (val x) (val y)) (cross (val y) (val x))
lt_cross x y p q = lt_value x y p q ∙ ap₂ (λ (m n : ℕ). lt_z (top x *ℤ pos m) (top y *ℤ pos n)) (sym (den_is y)) (sym (den_is x))

pub le_cross : (x y : Float) → T (finite x) → T (finite y) → le x y ≡ le_z (cross (val x) (val y)) (cross (val y) (val x))
le_cross x y p q = le_value x y p q ∙ ap₂ (λ (m n : ℕ). le_z (top x *ℤ pos m) (top y *ℤ pos n)) (sym (den_is y)) (sym (den_is x))

-- ---- as rational numbers

-- the cross products of two values
abbrev over : Float → Float → ℤ
over x y = cross (val x) (val y)

order_of : {x y : Float} {s t : ℚ} → Exact x s → Exact y t → T (le_z (over x y) (over y x)) → s ≤ t
order_of {x} {y} h k o = ≤_trans (≤_of (sym h.value)) (≤_trans (from_frac (val x) (val y) (record { by = o })) (≤_of k.value))

order_to : {x y : Float} {s t : ℚ} → Exact x s → Exact y t → s ≤ t → T (le_z (over x y) (over y x))
order_to {x} {y} h k l = (to_frac (val x) (val y) (≤_trans (≤_of h.value) (≤_trans l (≤_of (sym k.value))))).by

-- what a test says of the values s and t
module _ {x y : Float} {s t : ℚ} (h : Exact x s) (k : Exact y t) where
  lt_is : lt x y ≡ lt_z (over x y) (over y x)
  lt_is = lt_cross x y h.is.fin k.is.fin

  le_is : le x y ≡ le_z (over x y) (over y x)
  le_is = le_cross x y h.is.fin k.is.fin

  pub lt_yes : lt x y ≡ true → s < t
  lt_yes e = not_≤ (λ l. omega (arith, lt-true (over x y) (over y x) (sym lt_is ∙ e), le_T (over y x) (over x y) (order_to k h l)))

  pub lt_no : lt x y ≡ false → t ≤ s
  lt_no e = order_of k h (le_in (over y x) (over x y) (omega (arith, lt-false (over x y) (over y x) (sym lt_is ∙ e))))

  pub le_yes : le x y ≡ true → s ≤ t
  le_yes e = order_of h k (le_in (over x y) (over y x) (omega (arith, le-true (over x y) (over y x) (sym le_is ∙ e))))

  pub le_no : le x y ≡ false → t < s
  le_no e = not_≤ (λ l. omega (arith, le-false (over x y) (over y x) (sym le_is ∙ e), le_T (over x y) (over y x) (order_to h k l)))
