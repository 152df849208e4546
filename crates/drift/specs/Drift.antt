-- How far what is turned in floats drifts from the exact product of its turns, and the beam with it.
use Rattle.std.specs.Prelude.{ℕ, ◌+◌, ◌<◌, ◌≤◌, pos, Float}
use Rattle.exact.specs.Fraction.{Frac, 1ᶠ, whole, part, ◌*ᶠ◌}
use Rattle.exact.specs.Quat.{Quat, fractions, product, square}
use Rattle.exact.specs.Vector.{Vec, vec, rotated, beam}
use Rattle.exact.specs.Distance.{Close, Near, Near3}
use Rattle.exact.specs.Turn.{Axis, about}
use Rattle.exact.specs.Facts.{one}
use Rattle.rounding.specs.Value.{val, floats}
use Rattle.numeric.specs.Floats as Is
use Rattle.numeric.specs.Floats.{zero, two, minus_one}
use Rattle.drift.specs.Laws.{exact, exact3, Kept, IsTurn, Fair, turned}

abbrev pub count : ℕ → Frac
count n = whole (pos n)

-- a turn about an axis is fair, as it is made; one of an order is too (`OrderTurnLaw`)
abbrev pub AxisFair : Type 0
AxisFair = (axis : Axis) (v : Float) (q : Quat Float) → IsTurn axis v q → Fair q (about axis (val v))

-- k is kept, and n turns off p
pub record Drifted (n : ℕ) (k : Quat Float) (p : Quat Frac) : Type 0 where
  pub kept : Kept k
  pub near : Near (exact k) (count n *ᶠ part 37) p

-- the squared length of an exact orientation t over d layers is within d 2⁻³⁸ of 1
abbrev pub UnitAt : ℕ → Quat Frac → Type 0
UnitAt d t = Close (square fractions t) (count d *ᶠ part 38) 1ᶠ

-- m is kept, and d layers off t
pub record Stands (d : ℕ) (m : Quat Float) (t : Quat Frac) : Type 0 where
  pub kept : Kept m
  pub near : Near (exact m) (count d *ᶠ part 36) t

-- ---- a lamp, from its hanging on

abbrev pub hung : Quat Float
hung = record { x = zero; y = zero; z = zero; w = Is.one }

abbrev pub Hung : Type 0
Hung = Drifted 0 hung one

-- a turn more is 2⁻³⁷ more: 2⁻³⁸ for the turn, 2⁻³⁹, 2⁻⁴¹ and 2⁻⁴⁵ for the step, 2⁻⁴⁰ for the growth of what was off before
abbrev pub TurnDrifts : Type 0
TurnDrifts = (n : ℕ) (k t : Quat Float) (p τ : Quat Frac) → n < 4000 → Drifted n k p → Fair t τ → Drifted (n + 1) (turned k t) (product fractions p τ)

-- over a mount of depth d: (d + n + 1) 2⁻³⁶
abbrev pub Told : Type 0
Told = (d n : ℕ) (m k : Quat Float) (t p : Quat Frac) → d ≤ 12 → n ≤ 4000 → Stands d m t → Drifted n k p → Kept (turned m k) × Near (exact (turned m k)) (count (d + n + 1) *ᶠ part 36) (product fractions t p)

-- ---- the beam of an orientation: the image of (0, 0, −1). It is off three times as far as the orientation, at most

abbrev pub down : Vec Float
down = vec zero zero minus_one

abbrev pub Beam : Type 0
Beam = (q : Quat Float) (p : Quat Frac) (d n : ℕ) → Kept q → d ≤ 12 → n ≤ 4000 → Near (exact q) (count (d + n + 1) *ᶠ part 36) p
    → Near3 (exact3 (rotated floats two q down)) (count 3 *ᶠ (count (d + n + 1) *ᶠ part 36)) (beam p)
