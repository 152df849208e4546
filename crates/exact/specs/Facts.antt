-- What is proved: of quaternions over fractions, of the exact sine and cosine, and of exact turns.
use Rattle.std.specs.Prelude.{◌≡◌, Bool, true, false, List, [], ◌∷◌, ◌++◌, ◌≤◌, ℤ, pos, negsuc, nat_abs}
use Rattle.exact.specs.Fraction.{Frac, 0ᶠ, 1ᶠ, whole, part, ◌over◌, ◌+ᶠ◌, ◌-ᶠ◌, ◌*ᶠ◌, neg, ◌≤ᶠ◌, ◌≈◌}
use Rattle.exact.specs.Quat.{Quat, fractions, product, image, square}
use Rattle.exact.specs.Vector.{Vec, pure, exact_image, beam}
use Rattle.exact.specs.Distance.{Size, Close, Long, Near, Near3, Same}
use Rattle.exact.specs.Sine.{P, nearest, mod4, S, C, sine, cosine, sine_by, cosine_by, turns, rest, quarter}
use Rattle.exact.specs.Turn.{Axis, X, Y, Z, Letters, about, exact_turn, total}

-- ---- products

-- |p q|² = |p|² |q|²
abbrev pub LengthsMultiply : Type 0
LengthsMultiply = (p q : Quat Frac) → square fractions (product fractions p q) ≈ square fractions p *ᶠ square fractions q

-- (p q) r = p (q r)
abbrev pub ProductsAssociate : Type 0
ProductsAssociate = (p q r : Quat Frac) → Same (product fractions (product fractions p q) r) (product fractions p (product fractions q r))

-- a list's product in two parts: the first, and the second from there
abbrev pub TotalsSplit : Type 0
TotalsSplit = (p : Quat Frac) (qs rs : List (Quat Frac)) → total p (qs ++ rs) ≡ total (total p qs) rs

-- ---- distances

-- p within e of q, and q within f of r: p within e + f of r; so too of vectors
abbrev pub Triangle : Type 0
Triangle = (p q r : Quat Frac) (e f : Frac) → Near p e q → Near q f r → Near p (e +ᶠ f) r

abbrev pub Triangle3 : Type 0
Triangle3 = (u v w : Vec Frac) (e f : Frac) → Near3 u e v → Near3 v f w → Near3 u (e +ᶠ f) w

-- p within e of q, and r at most m long: p r within e m of q r, and r p within m e of r q
abbrev pub TimesRight : Type 0
TimesRight = (p q r : Quat Frac) (e m : Frac) → Near p e q → Long r m → Near (product fractions p r) (e *ᶠ m) (product fractions q r)

abbrev pub TimesLeft : Type 0
TimesLeft = (p q r : Quat Frac) (e m : Frac) → Near p e q → Long r m → Near (product fractions r p) (m *ᶠ e) (product fractions r q)

-- ---- images

-- the image of v is the vector part of q v q*, whose scalar part is 0
abbrev pub ImageIsProduct : Type 0
ImageIsProduct = (q : Quat Frac) (v : Vec Frac) → Same (pure 0ᶠ (exact_image q v)) (image fractions q (pure 0ᶠ v))

-- p within e of q, of lengths at most a and b, and v at most m long: the images of v within e m a + b m e
abbrev pub ImagesNear : Type 0
ImagesNear = (p q : Quat Frac) (v : Vec Frac) (e a b m : Frac) → Near p e q → Long p a → Long q b → Long (pure 0ᶠ v) m
    → Near3 (exact_image p v) (e *ᶠ m *ᶠ a +ᶠ b *ᶠ m *ᶠ e) (exact_image q v)

-- ---- the circle

-- S² + C² = 1 up to 2⁻⁷³, for |r| ≤ 1
abbrev pub Circle : Type 0
Circle = (r : Frac) → Size r 1ᶠ → Close (S r *ᶠ S r +ᶠ C r *ᶠ C r) (part 73) 1ᶠ

-- sin² + cos² = 1 up to 2⁻⁷³, for every v
abbrev pub SineCircle : Type 0
SineCircle = (v : Frac) → Close (sine v *ᶠ sine v +ᶠ cosine v *ᶠ cosine v) (part 73) 1ᶠ

-- |sin|, |cos| ≤ 1 + 2⁻⁷³
abbrev pub Sizes : Type 0
Sizes = (v : Frac) → Size (sine v) (1ᶠ +ᶠ part 73) × Size (cosine v) (1ᶠ +ᶠ part 73)

-- the squared length of a turn about an axis is 1 up to 2⁻⁷³
abbrev pub AxisTurnLength : Type 0
AxisTurnLength = (axis : Axis) (a : Frac) → Close (square fractions (about axis a)) (part 73) 1ᶠ

-- the squared length of a turn by letters is 1 up to 2⁻⁷¹
abbrev pub ExactTurnLength : Type 0
ExactTurnLength = (l : Letters) (a b c : Frac) → Close (square fractions (exact_turn l a b c)) (part 71) 1ᶠ

-- and its length at most 1 + 2⁻⁷¹
abbrev pub ExactTurnLong : Type 0
ExactTurnLong = (l : Letters) (a b c : Frac) → Long (exact_turn l a b c) (1ᶠ +ᶠ part 71)

-- ---- quarter turns

-- the nearest number of quarter turns leaves at most P/4, and is at most 637 for |v| ≤ 1000
abbrev pub NearestTurns : Type 0
NearestTurns = (v : Frac) → Size (rest v (turns v)) (quarter *ᶠ (pos 1 over 2)) × (Size v (whole (pos 1000)) → nat_abs (turns v) ≤ 637)

-- any number of them that leaves at most 1 gives the same sine and cosine up to 2⁻⁷³
abbrev pub AnyTurns : Type 0
AnyTurns = (v : Frac) (n : ℤ) → Size (rest v n) 1ᶠ → Close (sine_by v n) (part 73) (sine v) × Close (cosine_by v n) (part 73) (cosine v)

-- one that leaves at most P/2, up to 2⁻⁵⁹
abbrev pub AnyTurnsWide : Type 0
AnyTurnsWide = (v : Frac) (n : ℤ) → Size (rest v n) quarter → Close (sine_by v n) (part 59) (sine v) × Close (cosine_by v n) (part 59) (cosine v)

-- ---- symmetries

-- sin (−v) = −sin v and cos (−v) = cos v up to 2⁻⁷³: at a tie, v and −v both take the lower number of quarter turns
abbrev pub OddEven : Type 0
OddEven = (v : Frac) → Close (sine (neg v)) (part 73) (neg (sine v)) × Close (cosine (neg v)) (part 73) (cosine v)

-- sine and cosine are functions of the number, not of how it is written
abbrev pub EqualSines : Type 0
EqualSines = (v w : Frac) → v ≈ w → (sine v ≈ sine w) × (cosine v ≈ cosine w)

-- ---- sums, up to 2⁻⁵⁷

-- the addition theorem
abbrev pub Adding : Type 0
Adding = (u v : Frac) → Close (sine (u +ᶠ v)) (part 57) (sine u *ᶠ cosine v +ᶠ cosine u *ᶠ sine v) × Close (cosine (u +ᶠ v)) (part 57) (cosine u *ᶠ cosine v -ᶠ sine u *ᶠ sine v)

-- the double angle
abbrev pub Doubling : Type 0
Doubling = (v : Frac) → Close (sine (v +ᶠ v)) (part 57) (whole (pos 2) *ᶠ (sine v *ᶠ cosine v)) × Close (cosine (v +ᶠ v)) (part 57) (cosine v *ᶠ cosine v -ᶠ sine v *ᶠ sine v)

-- an angle from its half
abbrev pub Halving : Type 0
Halving = (a : Frac) → let h = a *ᶠ (pos 1 over 2) in
    Close (sine a) (part 57) (whole (pos 2) *ᶠ (sine h *ᶠ cosine h)) × Close (cosine a) (part 57) (cosine h *ᶠ cosine h -ᶠ sine h *ᶠ sine h)

-- ---- steadiness: where the argument moves by at most w

-- S and C move by at most (1 + 2⁻⁶⁸) w, for arguments up to 1
abbrev pub Steady : Type 0
Steady = (a b w : Frac) → Size a 1ᶠ → Size b 1ᶠ → Size (b -ᶠ a) w → Close (S b) (w *ᶠ (1ᶠ +ᶠ part 68)) (S a) × Close (C b) (w *ᶠ (1ᶠ +ᶠ part 68)) (C a)

-- sine and cosine move by at most 2⁻⁷³ + (1 + 2⁻⁶⁸) w, for w up to 1/5
abbrev pub SineSteady : Type 0
SineSteady = (u v w : Frac) → Size (v -ᶠ u) w → w ≤ᶠ pos 1 over 5
    → Close (sine v) (part 73 +ᶠ w *ᶠ (1ᶠ +ᶠ part 68)) (sine u) × Close (cosine v) (part 73 +ᶠ w *ᶠ (1ᶠ +ᶠ part 68)) (cosine u)

-- ---- worked examples, each by the definitions alone

abbrev pub quat : ℤ → ℤ → ℤ → ℤ → Quat Frac
quat x y z w = record { x = whole x; y = whole y; z = whole z; w = whole w }

abbrev pub one : Quat Frac
one = quat (pos 0) (pos 0) (pos 0) (pos 1)

abbrev pub i : Quat Frac
i = quat (pos 1) (pos 0) (pos 0) (pos 0)

abbrev pub j : Quat Frac
j = quat (pos 0) (pos 1) (pos 0) (pos 0)

abbrev pub k : Quat Frac
k = quat (pos 0) (pos 0) (pos 1) (pos 0)

abbrev pub minus_k : Quat Frac
minus_k = quat (pos 0) (pos 0) (negsuc 0) (pos 0)

-- i j = k, j i = −k, and 1 times i, j and k is −1; the beam of 1 is (0, 0, −1), that of i is (0, 0, 1)
abbrev pub QuaternionExamples : Type 0
QuaternionExamples = Same (product fractions i j) k × Same (product fractions j i) minus_k × Same (total one (i ∷ j ∷ k ∷ [])) (quat (pos 0) (pos 0) (pos 0) (negsuc 0))
    × Same (pure 0ᶠ (beam one)) minus_k × Same (pure 0ᶠ (beam i)) k

-- ties go to the lower whole number; −1 and −5 leave 3 by 4; sine and cosine at 0
abbrev pub SineExamples : Type 0
SineExamples = (nearest (pos 1 over 2) ≡ pos 0) × (nearest (pos 3 over 2) ≡ pos 1) × (nearest (negsuc 0 over 2) ≡ negsuc 0)
    × (mod4 (negsuc 0) ≡ 3) × (mod4 (negsuc 4) ≡ 3)
    × (sine 0ᶠ ≈ 0ᶠ) × (cosine 0ᶠ ≈ 1ᶠ)

-- three angles 0, for ZYX and any other letters: (0, 0, 0, 1)
abbrev pub NoTurn : Type 0
NoTurn = (l : Letters) → Same (exact_turn l 0ᶠ 0ᶠ 0ᶠ) one

-- XYZ by P, P, 0 is i j = k; XYZEx is j i = −k
abbrev pub xyz : Bool → Letters
xyz ends_in_ex = record { first = X; second = Y; third = Z; ex = ends_in_ex }

abbrev pub HalfTurns : Type 0
HalfTurns = Same (exact_turn (xyz false) P P 0ᶠ) k × Same (exact_turn (xyz true) P P 0ᶠ) minus_k
