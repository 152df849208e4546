-- Vectors over the same operations, and the image of a vector under a quaternion with vector part b and scalar part w:
-- (w² − b·b) v + 2 (v·b) b + 2 w (b × v).
use Rattle.std.specs.Prelude.{pos, negsuc}
use Rattle.exact.specs.Fraction.{Frac, 0ᶠ, whole}
use Rattle.exact.specs.Quat.{Ops, Quat, fractions}

pub record Vec (A : Type 0) : Type 0 where
  pub x : A
  pub y : A
  pub z : A

abbrev pub vec : {A : Type 0} → A → A → A → Vec A
vec x y z = record { x = x; y = y; z = z }

-- a vector as a quaternion, and a quaternion's vector part
abbrev pub pure : {A : Type 0} → A → Vec A → Quat A
pure nil v = record { x = v.x; y = v.y; z = v.z; w = nil }

abbrev pub vector : {A : Type 0} → Quat A → Vec A
vector q = vec q.x q.y q.z

module _ {A : Type 0} (O : Ops A) where
  infixl 60 ◌+ᵒ◌ ◌-ᵒ◌
  infixl 70 ◌*ᵒ◌
  open O use {◌+ᵒ◌, ◌-ᵒ◌, ◌*ᵒ◌}

  abbrev pub dot3 : Vec A → Vec A → A
  dot3 u v = u.x *ᵒ v.x +ᵒ u.y *ᵒ v.y +ᵒ u.z *ᵒ v.z

  abbrev pub cross3 : Vec A → Vec A → Vec A
  cross3 u v = vec (u.y *ᵒ v.z -ᵒ v.y *ᵒ u.z) (u.z *ᵒ v.x -ᵒ v.z *ᵒ u.x) (u.x *ᵒ v.y -ᵒ v.x *ᵒ u.y)

  abbrev pub scale3 : Vec A → A → Vec A
  scale3 v s = vec (v.x *ᵒ s) (v.y *ᵒ s) (v.z *ᵒ s)

  abbrev pub plus3 : Vec A → Vec A → Vec A
  plus3 u v = vec (u.x +ᵒ v.x) (u.y +ᵒ v.y) (u.z +ᵒ v.z)

  -- the image; the number two is an argument
  abbrev pub rotated : A → Quat A → Vec A → Vec A
  rotated two q v = let b = vector q in plus3 (plus3 (scale3 v (q.w *ᵒ q.w -ᵒ dot3 b b)) (scale3 b (dot3 v b *ᵒ two))) (scale3 (cross3 b v) (q.w *ᵒ two))

abbrev pub exact_image : Quat Frac → Vec Frac → Vec Frac
exact_image = rotated fractions (whole (pos 2))

-- the image of (0, 0, −1)
abbrev pub beam : Quat Frac → Vec Frac
beam q = exact_image q (vec 0ᶠ 0ᶠ (whole (negsuc 0)))
