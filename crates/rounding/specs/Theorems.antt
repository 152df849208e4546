-- What is proved of rounding. Each law is asked for by a function of src/lib.rt.
-- 2 ^ -53 is half a unit in the last place of 53 binary digits; 2 ^ -1075 is half the smallest positive f64; 2 ^ 1000 keeps clear of overflow.
use Rattle.std.specs.Prelude.{◌≡◌, ℕ, suc, ◌*◌, ◌^◌, ◌<◌, ◌≤◌, ℤ, pos, negsuc, ◌*ℤ◌, from_bits, int_le, int_lt, unsigned_abs, Float}
use Rattle.std.specs.Float.Ieee.{add, sub, mul, div, neg, lt, le, of_int, to_unsigned}
use Rattle.std.specs.Float.{sqrt, binary64}
use Rattle.exact.specs.Fraction.{Frac, ◌over◌, whole, part, cross, ◌+ᶠ◌, ◌-ᶠ◌, ◌*ᶠ◌, ◌≈◌, ◌≤ᶠ◌}
use Rattle.exact.specs.Fraction.{neg as negᶠ}
pub use Rattle.exact.specs.Fraction.{magnitude}
use Rattle.exact.specs.Distance.{Size, Close}
use Rattle.rounding.specs.Value.{val, Is, ticks, L, field, spelled}

abbrev pub limit : Frac
limit = whole (pos (2 ^ 1000))

-- r is a finite f64 within e of t
abbrev pub Rounded : Float → Frac → Frac → Type 0
Rounded r t e = Is r × Close (val r) e t

-- r is the finite f64 whose value is t
abbrev pub Exactly : Float → Frac → Type 0
Exactly r t = Is r × (val r ≈ t)

abbrev pub Nonzero : Float → Type 0
Nonzero y = val y ≈ whole (pos 0) → ⊥

-- ---- the operations, for any m that is the size of the exact result at least

abbrev pub SumLaw : Type 0
SumLaw = (x y : Float) (m : Frac) → Is x → Is y → Size (val x +ᶠ val y) m → m ≤ᶠ limit → Rounded (add binary64 x y) (val x +ᶠ val y) (m *ᶠ part 53)

abbrev pub DifferenceLaw : Type 0
DifferenceLaw = (x y : Float) (m : Frac) → Is x → Is y → Size (val x -ᶠ val y) m → m ≤ᶠ limit → Rounded (sub binary64 x y) (val x -ᶠ val y) (m *ᶠ part 53)

abbrev pub ProductLaw : Type 0
ProductLaw = (x y : Float) (m : Frac) → Is x → Is y → Size (val x *ᶠ val y) m → m ≤ᶠ limit → Rounded (mul binary64 x y) (val x *ᶠ val y) (m *ᶠ part 53 +ᶠ part 1075)

-- q is the exact quotient
abbrev pub QuotientLaw : Type 0
QuotientLaw = (x y : Float) (q m : Frac) → Is x → Is y → Nonzero y → q *ᶠ val y ≈ val x → Size q m → m ≤ᶠ limit → Rounded (div binary64 x y) q (m *ᶠ part 53 +ᶠ part 1075)

-- a root is known by its square: 2 ^ -52 is twice the rounding of 2 ^ -53, and 2 ^ -92 is for the rest
abbrev pub RootLaw : Type 0
RootLaw = (x : Float) → Is x → whole (pos 0) ≤ᶠ val x
    → Is (sqrt binary64 x) × (whole (pos 0) ≤ᶠ val (sqrt binary64 x)) × Close (val (sqrt binary64 x) *ᶠ val (sqrt binary64 x)) (val x *ᶠ (part 52 +ᶠ part 92)) (val x)

-- ---- order

abbrev pub LessLaw : Type 0
LessLaw = (x y : Float) → Is x → Is y → lt x y ≡ int_lt (cross (val x) (val y)) (cross (val y) (val x))

abbrev pub AtMostLaw : Type 0
AtMostLaw = (x y : Float) → Is x → Is y → le x y ≡ int_le (cross (val x) (val y)) (cross (val y) (val x))

-- rounding does not carry a quotient of 0 ≤ x ≤ y past 1
abbrev pub UnitLaw : Type 0
UnitLaw = (x y : Float) → Is x → Is y → Nonzero y → whole (pos 0) ≤ᶠ val x → val x ≤ᶠ val y → Is (div binary64 x y) × (whole (pos 0) ≤ᶠ val (div binary64 x y)) × (val (div binary64 x y) ≤ᶠ whole (pos 1))

-- ---- what is exact

-- f64 holds t: it is `digits * 2 ^ zeros` ticks, of 53 digits, and below 2 ^ 1024
pub record Held (t : Frac) : Type 0 where
  pub digits : ℤ
  pub zeros : ℕ
  pub is : t ≈ (digits *ℤ pos (2 ^ zeros)) over L
  pub small : unsigned_abs digits < 2 ^ 53
  pub below : unsigned_abs digits * 2 ^ zeros < 2 ^ 1024 * L

abbrev pub ValueLaw : Type 0
ValueLaw = (x : Float) → Is x → Held (val x)

-- an exact result that f64 holds is the result
abbrev pub HeldLaw : Type 0
HeldLaw = (x y : Float) → Is x → Is y
    → (Held (val x +ᶠ val y) → Exactly (add binary64 x y) (val x +ᶠ val y))
    × (Held (val x -ᶠ val y) → Exactly (sub binary64 x y) (val x -ᶠ val y))
    × (Held (val x *ᶠ val y) → Exactly (mul binary64 x y) (val x *ᶠ val y))
    × ((q : Frac) → Nonzero y → q *ᶠ val y ≈ val x → Held q → Exactly (div binary64 x y) q)

abbrev pub NegationLaw : Type 0
NegationLaw = (x : Float) → Is x → Exactly (neg x) (negᶠ (val x))

abbrev pub OneLaw : Type 0
OneLaw = (x c : Float) → Is x → Is c → (val c ≈ whole (pos 1) → Exactly (mul binary64 x c) (val x)) × (val c ≈ whole (negsuc 0) → Exactly (mul binary64 x c) (negᶠ (val x)))

abbrev pub ZeroLaw : Type 0
ZeroLaw = (x c : Float) → Is x → Is c → val c ≈ whole (pos 0) → Exactly (add binary64 x c) (val x) × Exactly (sub binary64 x c) (val x)

-- near neighbours
abbrev pub NeighboursLaw : Type 0
NeighboursLaw = (x y : Float) → Is x → Is y → val y *ᶠ part 1 ≤ᶠ val x → val x ≤ᶠ whole (pos 2) *ᶠ val y → Exactly (sub binary64 x y) (val x -ᶠ val y)

-- half of x is exact where it is a normal number, and off by half the smallest positive f64 below
abbrev pub HalfLaw : Type 0
HalfLaw = (x h : Float) → Is x → Is h → val h ≈ part 1
    → (part 1021 ≤ᶠ magnitude (val x) → Exactly (mul binary64 x h) (val x *ᶠ part 1)) × Rounded (mul binary64 x h) (val x *ᶠ part 1) (part 1075)

-- a whole number k times a constant n / 2 ^ j
abbrev pub MultipleLaw : Type 0
MultipleLaw = (c : Float) (k n j : ℕ) → Is c → val c ≈ pos n over (2 ^ j) → j ≤ 1074 → k ≤ 2 ^ 53 → k * n < 2 ^ 53 → Exactly (mul binary64 (of_int binary64 (pos k)) c) (whole (pos k) *ᶠ val c)

-- ---- conversions

abbrev pub TicksLaw : Type 0
TicksLaw = (x : Float) → Is x → val x ≈ ticks x over L

abbrev pub BitsLaw : Type 0
BitsLaw = (b : ℕ) → field b < 2047 → Exactly (from_bits binary64 b) (spelled b)

abbrev pub WholeLaw : Type 0
WholeLaw = (z : ℤ) → unsigned_abs z ≤ 2 ^ 53 → Exactly (of_int binary64 z) (whole z)

-- to an unsigned integer of w bits: the whole part
abbrev pub TruncationLaw : Type 0
TruncationLaw = (w : ℕ) (x : Float) → Is x → whole (pos 0) ≤ᶠ val x → (whole (pos (2 ^ w)) ≤ᶠ val x → ⊥)
    → (whole (pos (to_unsigned w x)) ≤ᶠ val x) × (whole (pos (suc (to_unsigned w x))) ≤ᶠ val x → ⊥)

-- ---- an example: a b − c d, for numbers of size 2 at most

abbrev pub Two : Float → Type 0
Two x = Is x × Size (val x) (whole (pos 2))

-- 16 roundings of 2 ^ -53, 4 in each product and 8 in the difference, are 2 ^ -49; the rest is for what they grow by
abbrev pub IsCross : Float → Float → Float → Float → Float → Type 0
IsCross r a b c d = Two a → Two b → Two c → Two d → Rounded r (val a *ᶠ val b -ᶠ val c *ᶠ val d) (part 48)
