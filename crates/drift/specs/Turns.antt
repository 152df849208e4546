-- Turns in floats, by glam's steps: about an axis, and of an Euler order.
use Rattle.std.specs.Prelude.{Bool, true, false, cond, Float}
use Rattle.std.specs.Float.Ieee.{neg}
use Rattle.exact.specs.Quat.{Ops, Quat}
use Rattle.exact.specs.Turn as T
use Rattle.exact.specs.Turn.{along}
use Rattle.rounding.specs.Value.{floats}
use Rattle.numeric.specs.Floats.{◌⊗◌, zero, half, one}
use Rattle.numeric.specs.Sine.{sin_float, cos_float}
use Rattle.euler.specs.Orders.{second, other, signed}
use Rattle.euler.specs.declared.Axis.{Axis}
use Rattle.euler.specs.declared.Axis.TheVariants.{X, Y, Z}
use Rattle.euler.specs.declared.Order.{Order}

-- the turn about an axis: the sine and the cosine of half the angle
abbrev pub about : T.Axis → Float → Quat Float
about axis angle = along zero axis (sin_float (angle ⊗ half)) (cos_float (angle ⊗ half))

-- ---- of an order

-- a sine and a cosine
pub record Angle (A : Type 0) : Type 0 where
  pub s : A
  pub c : A

abbrev pub angle : {A : Type 0} → A × A → Angle A
angle p = record { s = p.0; c = p.1 }

abbrev pub half_angle : Float → Angle Float
half_angle t = angle (sin_float (t ⊗ half), cos_float (t ⊗ half))

abbrev pub put : {A : Type 0} → Axis → A → Quat A → Quat A
put X a q = record { x = a; y = q.y; z = q.z; w = q.w }
put Y a q = record { x = q.x; y = a; z = q.z; w = q.w }
put Z a q = record { x = q.x; y = q.y; z = a; w = q.w }

-- x, y and z to the axes i, j and k
abbrev pub place : {A : Type 0} → Order → Quat A → Quat A
place o q = put o.initial_axis q.x (put (second o) q.y (put (other o) q.z q))

module _ {A : Type 0} (O : Ops A) where
  infixl 60 ◌+ᵒ◌ ◌-ᵒ◌
  infixl 70 ◌*ᵒ◌
  open O use {◌+ᵒ◌, ◌-ᵒ◌, ◌*ᵒ◌}

  -- the numbers at i, j, k and w, where the last letter repeats the first, and where it does not
  abbrev pub four : Bool → A → Angle A → Angle A → Angle A → Quat A
  four true parity a b c = record {
    x = b.c *ᵒ (a.c *ᵒ c.s +ᵒ a.s *ᵒ c.c);
    y = b.s *ᵒ (a.c *ᵒ c.c +ᵒ a.s *ᵒ c.s) *ᵒ parity;
    z = b.s *ᵒ (a.c *ᵒ c.s -ᵒ a.s *ᵒ c.c);
    w = b.c *ᵒ (a.c *ᵒ c.c -ᵒ a.s *ᵒ c.s);
  }
  four false parity a b c = record {
    x = b.c *ᵒ (a.s *ᵒ c.c) -ᵒ b.s *ᵒ (a.c *ᵒ c.s);
    y = (b.c *ᵒ (a.s *ᵒ c.s) +ᵒ b.s *ᵒ (a.c *ᵒ c.c)) *ᵒ parity;
    z = b.c *ᵒ (a.c *ᵒ c.s) -ᵒ b.s *ᵒ (a.s *ᵒ c.c);
    w = b.c *ᵒ (a.c *ᵒ c.c) +ᵒ b.s *ᵒ (a.s *ᵒ c.s);
  }

  -- from half the angles, as they stand to i, j and k
  abbrev pub assembled : A → Order → Angle A → Angle A → Angle A → Quat A
  assembled parity o a b c = place o (four o.initial_repeated parity a b c)

abbrev pub parity : Bool → Float
parity even = cond even (neg one) one

-- with Ex the angles are read backwards; the middle one is taken at the opposite where the parity is even
unfoldable pub by_order : Order → Float → Float → Float → Quat Float
by_order o x y z =
    let ends : Float × Float = cond o.frame_static (x, z) (z, x) in
    assembled floats (parity o.parity_even) o (half_angle ends.0) (half_angle (signed o.parity_even y)) (half_angle ends.1)
