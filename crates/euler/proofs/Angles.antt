-- The three angles of an order, as they are read, and at the opposite.
use Rattle.std.proofs.Common.{◌≡◌, Bool, true, false, cond, refl}
use lib.Ieee.{Float, neg}
use Rattle.euler.specs.Orders.{signed, as_read}

pub each_read : (static : Bool) (x y z : Float) → let t = as_read static (x, y, z) in let ends : Float × Float = cond static (x, z) (z, x) in (t.0 ≡ ends.0) × (t.1 ≡ y) × (t.2 ≡ ends.1)
each_read true x y z = (refl, refl, refl)
each_read false x y z = (refl, refl, refl)

pub each_signed : (even : Bool) (t : Float × Float × Float) → (signed even t.0, signed even t.1, signed even t.2) ≡ cond even (neg t.0, neg t.1, neg t.2) t
each_signed true t = refl
each_signed false t = refl
