-- The statements of specs/Facts.antt, from what is proved over rational numbers.
use mathlib.Core.Path.{◌≡◌, refl, sym, ap}
use mathlib.Core.List.{[], ◌∷◌}
use lib.IntN.{pos}
use Rattle.exact.specs.Fraction.{Frac, ◌over◌}
use Rattle.exact.specs.Quat.{fractions, product}
use Rattle.exact.specs.Distance.{Close}
use Rattle.exact.specs.Sine.{sine, cosine, turns, alternating, nearest, floor}
use Rattle.exact.specs.Turn.{exact_turn}
use Rattle.exact.specs.Facts.{LengthsMultiply, ProductsAssociate, TotalsSplit, Triangle, Triangle3, TimesRight, TimesLeft, ImageIsProduct, ImagesNear, Circle, SineCircle, Sizes, AxisTurnLength, ExactTurnLength, ExactTurnLong, NearestTurns, AnyTurns, AnyTurnsWide, OddEven, EqualSines, Adding, Doubling, Halving, Steady, SineSteady, SineExamples}
use Rattle.exact.proofs.Rational.{ℚ, cls, ◌-◌}
use Rattle.exact.proofs.Order.{◌≤◌, from_frac}
use Rattle.exact.proofs.Within.{1#, computes, closed, ≤_refl, within_≤, within_at, ◌≈⟨◌⟩◌, near, near_≤}
use Rattle.exact.proofs.Quats.{square_product, product_assoc, ~_trans, ~_right, ~_left, image_near, ~_same, upto_one, upto_≤}
use Rattle.exact.proofs.Distance.{classes, long, long_back, back, size, size_back, close_back, from_≈, same_frac, same_quat}
use Rattle.exact.proofs.Distance.{near as near_of}
use Rattle.exact.proofs.Vectors.{classes3, rotated_is}
use Rattle.exact.proofs.Pairs.{pair, radius², ◌≋⟨◌⟩◌, ≋_at}
use Rattle.exact.proofs.Series.{wave_cls}
use Rattle.exact.proofs.Waves.{circle, wave_steady}
use Rattle.exact.proofs.Sines.{exact, rest_cls, rest_small, turns_bound, by_cls, exact_any, exact_far, exact_circle, sine_size, cosine_size, exact_steady, exact_mirror, exact_equal}
use Rattle.exact.proofs.Adding.{exact_sum, exact_double, exact_half}
use Rattle.exact.proofs.Turns.{about_length, exact_turn_length}

-- ---- quaternions and vectors

pub lengths_multiply : LengthsMultiply
unfolding computes
lengths_multiply p q = same_frac _ _ (square_product (classes p) (classes q))

pub products_associate : ProductsAssociate
unfolding computes
products_associate p q r = same_quat _ _ (product_assoc (classes p) (classes q) (classes r))

pub totals_split : TotalsSplit
totals_split p [] rs = refl
totals_split p (q ∷ qs) rs = totals_split (product fractions p q) qs rs

pub triangle : Triangle
unfolding computes
triangle p q r e f h k = back _ _ _ (~_trans (near_of h) (near_of k))

pub triangle3 : Triangle3
triangle3 u v w e f h k = triangle _ _ _ e f h k

pub times_right : TimesRight
unfolding computes
times_right p q r e m h k = back _ _ _ (~_right (near_of h) (long k))

pub times_left : TimesLeft
unfolding computes
times_left p q r e m h k = back _ _ _ (~_left (near_of h) (long k))

pub image_is_product : ImageIsProduct
unfolding computes
image_is_product q v = same_quat _ _ (rotated_is (classes q) (classes3 v))

pub images_near : ImagesNear
unfolding computes
images_near p q v e a b m h k l n = back _ _ _ (~_same (sym (rotated_is (classes p) (classes3 v))) (sym (rotated_is (classes q) (classes3 v))) (image_near (near_of h) (long k) (long l) (long n)))

-- ---- bounds: a proved one serves where it is no larger than the stated one

at_most : {x e y : Frac} {d : ℚ} → cls x ≈⟨ d ⟩ cls y → d ≤ cls e → Close x e y
at_most h k = close_back _ _ _ (near_≤ h k)

both : {s c e s' c' : Frac} {d : ℚ} → pair (cls s) (cls c) ≋⟨ d ⟩ pair (cls s') (cls c') → d ≤ cls e → Close s e s' × Close c e c'
both h k = (at_most h.of_s k, at_most h.of_c k)

-- ---- the circle

pub circle_stands : Circle
unfolding computes
circle_stands r h = at_most (near (circle (cls r) (size h)) (ap (λ w. radius² w - 1#) (sym (wave_cls r)))) (closed tt)

pub sine_circle : SineCircle
unfolding computes
sine_circle v = at_most (near (exact_circle v) refl) (closed tt)

pub sizes : Sizes
unfolding computes
sizes v = (size_back _ _ (within_≤ (sine_size v) (closed tt)), size_back _ _ (within_≤ (cosine_size v) (closed tt)))

pub axis_turn_length : AxisTurnLength
unfolding computes
axis_turn_length axis a = at_most (about_length axis a) (closed tt)

pub letters_turn_length : ExactTurnLength
unfolding computes
letters_turn_length l a b c = at_most (exact_turn_length l a b c) (closed tt)

pub exact_turn_long : ExactTurnLong
unfolding computes
exact_turn_long l a b c = long_back _ _ (upto_≤ (upto_one (classes (exact_turn l a b c)) (exact_turn_length l a b c) (closed tt)) (closed tt))

-- ---- quarter turns

pub nearest_turns : NearestTurns
unfolding computes
nearest_turns v = (size_back _ _ (within_at (sym (rest_cls v (turns v))) (within_≤ (rest_small v) (closed tt))), λ h. turns_bound v (size h))

pub any_turns : AnyTurns
unfolding computes
any_turns v j h = both (≋_at (sym (by_cls v j)) refl (exact_any v j (within_at (rest_cls v j) (within_≤ (size h) (closed tt))))) (closed tt)

pub any_turns_wide : AnyTurnsWide
unfolding computes
any_turns_wide v j h = both (≋_at (sym (by_cls v j)) refl (exact_far v j (within_at (rest_cls v j) (within_≤ (size h) (closed tt))))) (closed tt)

-- ---- symmetries, sums and steadiness

pub odd_even : OddEven
unfolding computes
odd_even v = both (exact_mirror v) (closed tt)

pub equal_sines : EqualSines
equal_sines v w h = (same_frac (sine v) (sine w) (ap (λ p. p.s) same), same_frac (cosine v) (cosine w) (ap (λ p. p.c) same))
  where
    same : exact v ≡ exact w
    same = exact_equal v w (from_≈ v w h)

pub adding : Adding
unfolding computes
adding u v = both (exact_sum u v) (closed tt)

pub doubling : Doubling
unfolding computes
doubling v = both (exact_double v) (closed tt)

pub halving : Halving
unfolding computes
halving a = both (exact_half a) (closed tt)

pub steady : Steady
unfolding computes
steady a b w ha hb h = both (≋_at (sym (wave_cls b)) (sym (wave_cls a)) (wave_steady (cls a) (cls b) (cls w) (size ha) (size hb) (size h))) (≤_refl _)

pub sine_steady : SineSteady
unfolding computes
sine_steady u v w h s = both (exact_steady u v (cls w) (size h) (from_frac w (pos 1 over 5) s)) (≤_refl _)

-- ---- examples

pub sine_examples : SineExamples
unfolding sine cosine alternating nearest floor
sine_examples = (refl, refl, refl, refl, refl, refl, refl)
