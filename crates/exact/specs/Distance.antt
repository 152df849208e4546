-- Sizes and distances. Those of quaternions and vectors are compared by their squares, without roots.
use Rattle.exact.specs.Fraction.{Frac, 0ᶠ, ◌+ᶠ◌, ◌*ᶠ◌, neg, ◌≈◌, ◌≤ᶠ◌}
use Rattle.exact.specs.Quat.{Quat, square, minus}
use Rattle.exact.specs.Vector.{Vec, pure}
pub use Rattle.exact.specs.Quat.{fractions}

-- |x| ≤ m
pub record Size (x m : Frac) : Type 0 where
  pub up : x ≤ᶠ m
  pub down : neg x ≤ᶠ m

-- |x − y| ≤ e
pub record Close (x e y : Frac) : Type 0 where
  pub up : x ≤ᶠ y +ᶠ e
  pub down : y ≤ᶠ x +ᶠ e

-- q is at most e long: 0 ≤ e and |q|² ≤ e²
pub record Long (q : Quat Frac) (e : Frac) : Type 0 where
  pub nonneg : 0ᶠ ≤ᶠ e
  pub most : square fractions q ≤ᶠ e *ᶠ e

-- p and q lie within e: 0 ≤ e, and the sum of the squared differences is at most e²
pub record Near (p : Quat Frac) (e : Frac) (q : Quat Frac) : Type 0 where
  pub nonneg : 0ᶠ ≤ᶠ e
  pub most : square fractions (minus fractions p q) ≤ᶠ e *ᶠ e

-- the same of vectors
abbrev pub Near3 : Vec Frac → Frac → Vec Frac → Type 0
Near3 u e v = Near (pure 0ᶠ u) e (pure 0ᶠ v)

-- equal part by part
abbrev pub Same : Quat Frac → Quat Frac → Type 0
Same p q = (p.x ≈ q.x) × (p.y ≈ q.y) × (p.z ≈ q.z) × (p.w ≈ q.w)
