-- What quaternions of floats keep of the exact ones.
use Rattle.std.specs.Prelude.{◌≡◌, pos, None, Ok, Err, Result, Float}
use Rattle.exact.specs.Fraction.{Frac, 0ᶠ, 1ᶠ, whole, part, ◌+ᶠ◌, ◌-ᶠ◌, ◌*ᶠ◌, ◌≤ᶠ◌}
use Rattle.exact.specs.Quat.{Quat, fractions, product, square}
use Rattle.exact.specs.Vector.{Vec, vec, pure, rotated, exact_image}
use Rattle.exact.specs.Distance.{Size, Close, Long, Near, Near3}
use Rattle.exact.specs.Turn.{Axis, about}
use Rattle.rounding.specs.Value.{val, Is, floats}
use Rattle.numeric.specs.Floats.{two}
use Rattle.numeric.specs.Laws.{Angle}
use Rattle.vectors.specs.Vectors.{normal, normal_fault}
use Rattle.drift.specs.Tests.{turn_fault, image_fault}
use Rattle.drift.specs.Turns as F

-- ---- the exact numbers, and lengths

-- the four numbers that q spells
abbrev pub exact : Quat Float → Quat Frac
exact q = record { x = val q.x; y = val q.y; z = val q.z; w = val q.w }

-- finite, each
pub record Are (q : Quat Float) : Type 0 where
  pub x : Is q.x
  pub y : Is q.y
  pub z : Is q.z
  pub w : Is q.w

-- finite, and of squared length within e of 1
pub record UnitWithin (e : Frac) (q : Quat Float) : Type 0 where
  pub are : Are q
  pub length : Close (square fractions (exact q)) e 1ᶠ

-- what is kept as a rotation: a turn about an axis is made within 2⁻⁴¹, and normalising leaves 2⁻⁴⁹
abbrev pub Kept : Quat Float → Type 0
Kept q = UnitWithin (part 40) q

-- what the product of two that are kept is, before it is normalised: 2⁻⁴⁰ from each, and roundings
abbrev pub Sound : Quat Float → Type 0
Sound q = UnitWithin (part 38) q

-- finite, and of squared length from 1/4 to 4
pub record Ample (q : Quat Float) : Type 0 where
  pub are : Are q
  pub least : part 2 ≤ᶠ square fractions (exact q)
  pub most : square fractions (exact q) ≤ᶠ whole (pos 4)

-- finite, and of squared length from 1/8 to 4
pub record Broad (q : Quat Float) : Type 0 where
  pub are : Are q
  pub least : part 3 ≤ᶠ square fractions (exact q)
  pub most : square fractions (exact q) ≤ᶠ whole (pos 4)

-- the length is within δ of 1, where δ ≤ 1/2
pub record LengthWithin (δ : Frac) (q : Quat Float) : Type 0 where
  pub nonneg : 0ᶠ ≤ᶠ δ
  pub half : δ ≤ᶠ part 1
  pub least : (1ᶠ -ᶠ δ) *ᶠ (1ᶠ -ᶠ δ) ≤ᶠ square fractions (exact q)
  pub most : square fractions (exact q) ≤ᶠ (1ᶠ +ᶠ δ) *ᶠ (1ᶠ +ᶠ δ)

-- an answer that is no refusal, and what holds of it
abbrev pub Gives : {A E : Type 0} → (A → Type 0) → Result A E → Type 0
Gives P (Ok a) = P a
Gives P (Err e) = ⊥

-- ---- what the functions promise

-- r is p q, for p and q that are kept. In a part, 4 products of size 1 and sums of size 2, 3 and 4 are rounded: 13 · 2⁻⁵³ is below 2⁻⁴⁹; four parts that are 2⁻⁴⁹ off lie within 2⁻⁴⁸
abbrev pub IsProduct : Quat Float → Quat Float → Quat Float → Type 0
IsProduct p q r = Kept p → Kept q → Are r × Near (exact r) (part 48) (product fractions (exact p) (exact q))

-- the same where p is sound, and what r is for a p that is kept
pub record Product (p q r : Quat Float) : Type 0 where
  pub are : Are r
  pub near : Near (exact r) (part 48) (product fractions (exact p) (exact q))
  pub sound : Kept p → Sound r

abbrev pub IsSoundProduct : Quat Float → Quat Float → Quat Float → Type 0
IsSoundProduct p q r = Sound p → Kept q → Product p q r

-- n is q normalised: its squared length is off by 2⁻⁵⁰ for its factor and 2⁻⁵¹ for the products, and it lies no further from q than the length of q is from 1, but for 2⁻⁴⁸
pub record Normalised (q n : Quat Float) : Type 0 where
  pub unit : UnitWithin (part 49) n
  pub near : (δ : Frac) → LengthWithin δ q → Near (exact n) (δ +ᶠ part 48) (exact q)

-- n is k t, normalised. Where k is e off p, and t is f off τ, which is at most a long: 2⁻³⁹ and 2⁻⁴¹ for what normalising moves, as the squared lengths of k and t are 1 up to 2⁻³⁸ and 2⁻⁴⁰; 2⁻⁴⁵ for roundings
pub record Turned (k t n : Quat Float) : Type 0 where
  pub unit : UnitWithin (part 49) n
  pub near : (p τ : Quat Frac) (e f a : Frac) → Near (exact k) e p → Near (exact t) f τ → Long τ a → Near (exact n) (e *ᶠ a +ᶠ f *ᶠ (1ᶠ +ᶠ part 38) +ᶠ (part 39 +ᶠ part 41 +ᶠ part 45)) (product fractions p τ)

abbrev pub IsTurned : Quat Float → Quat Float → Quat Float → Type 0
IsTurned k t n = Sound k → Kept t → Turned k t n

-- q is the turn about an axis by the angle v: sine and cosine are 2⁻⁴⁴ off each, and √2 · 2⁻⁴⁴ is below 2⁻⁴³
pub record IsTurn (axis : Axis) (v : Float) (q : Quat Float) : Type 0 where
  pub kept : Kept q
  pub near : Near (exact q) (part 43) (about axis (val v))

-- t in floats stands for the exact turn τ
pub record Fair (t : Quat Float) (τ : Quat Frac) : Type 0 where
  pub kept : Kept t
  pub near : Near (exact t) (part 38) τ
  pub long : Long τ (1ᶠ +ᶠ part 40)

-- ---- vectors

abbrev pub exact3 : Vec Float → Vec Frac
exact3 v = vec (val v.x) (val v.y) (val v.z)

-- finite, and of size at most 1 each
pub record Units (v : Vec Float) : Type 0 where
  pub x : Is v.x × Size (val v.x) 1ᶠ
  pub y : Is v.y × Size (val v.y) 1ᶠ
  pub z : Is v.z × Size (val v.z) 1ᶠ

-- r is the image of v under q: 85 roundings of 2⁻⁵³ make it 2⁻⁴⁶ off in a part, and 2⁻⁴⁵ together
pub record IsImage (q : Quat Float) (v r : Vec Float) : Type 0 where
  pub x : Is r.x
  pub y : Is r.y
  pub z : Is r.z
  pub near : Near3 (exact3 r) (part 45) (exact_image (exact q) (exact3 v))
  -- where q is e off p, from 2⁻³⁶ to 2⁻²⁰, and v is at most 1 long: 2 e for the factors q and q*, and e for roundings and what is of second order
  pub away : (p : Quat Frac) (e : Frac) → Near (exact q) e p → Long (pure 0ᶠ (exact3 v)) 1ᶠ → part 36 ≤ᶠ e → e ≤ᶠ part 20 → Near3 (exact3 r) (whole (pos 3) *ᶠ e) (exact_image p (exact3 v))

-- ---- the laws of the float steps

abbrev pub turned : Quat Float → Quat Float → Quat Float
turned k t = normal (product floats k t)

abbrev pub ProductLaw : Type 0
ProductLaw = (p q : Quat Float) → IsSoundProduct p q (product floats p q)

abbrev pub NormalLaw : Type 0
NormalLaw = (q : Quat Float) → Broad q → Normalised q (normal q) × (normal_fault q ≡ None)

abbrev pub TurnedLaw : Type 0
TurnedLaw = (k t : Quat Float) → IsTurned k t (turned k t) × (Sound k → Kept t → normal_fault (product floats k t) ≡ None)

abbrev pub TurnLaw : Type 0
TurnLaw = (axis : Axis) (v : Float) → Angle v → IsTurn axis v (F.about axis v) × (turn_fault v ≡ None)

abbrev pub ImageLaw : Type 0
ImageLaw = (q : Quat Float) (v : Vec Float) → Kept q → Units v → IsImage q v (rotated floats two q v) × (image_fault q v ≡ None)
