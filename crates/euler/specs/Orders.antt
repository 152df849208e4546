-- The letters of the 24 names, the four facts that make an order of them, and the axes that it answers.
use Rattle.std.specs.Prelude.{◌≡◌, ℕ, Bool, true, false, cond, not, ◌==◌, Float}
use Rattle.std.specs.Float.Ieee.{neg}
use Rattle.exact.specs.Turn as exact
use Rattle.exact.specs.Turn.{Letters}
use Rattle.euler.specs.declared.Axis.{Axis}
use Rattle.euler.specs.declared.Axis.TheVariants.{X, Y, Z}
use Rattle.euler.specs.declared.Parity.{Parity}
use Rattle.euler.specs.declared.Parity.TheVariants.{Odd, Even}
use Rattle.euler.specs.declared.Repeated.{Repeated}
use Rattle.euler.specs.declared.Repeated.TheVariants.{No, Yes}
use Rattle.euler.specs.declared.Frame.{Frame}
use Rattle.euler.specs.declared.Frame.TheVariants.{Relative, Static}
use Rattle.euler.specs.declared.EulerRot.{EulerRot}
use Rattle.euler.specs.declared.EulerRot.TheVariants.{ZYX, ZXY, YXZ, YZX, XYZ, XZY, ZYZ, ZXZ, YXY, YZY, XYX, XZX, ZYXEx, ZXYEx, YXZEx, YZXEx, XYZEx, XZYEx, ZYZEx, ZXZEx, YXYEx, YZYEx, XYXEx, XZXEx}
use Rattle.euler.specs.declared.Order.{Order}

-- ---- letters

abbrev pub plain : exact.Axis → exact.Axis → exact.Axis → Letters
plain i j k = record { first = i; second = j; third = k; ex = false }

abbrev pub extrinsic : exact.Axis → exact.Axis → exact.Axis → Letters
extrinsic i j k = record { first = i; second = j; third = k; ex = true }

-- a name's letters as written
abbrev pub letters : EulerRot → Letters
letters ZYX = plain exact.Z exact.Y exact.X
letters ZXY = plain exact.Z exact.X exact.Y
letters YXZ = plain exact.Y exact.X exact.Z
letters YZX = plain exact.Y exact.Z exact.X
letters XYZ = plain exact.X exact.Y exact.Z
letters XZY = plain exact.X exact.Z exact.Y
letters ZYZ = plain exact.Z exact.Y exact.Z
letters ZXZ = plain exact.Z exact.X exact.Z
letters YXY = plain exact.Y exact.X exact.Y
letters YZY = plain exact.Y exact.Z exact.Y
letters XYX = plain exact.X exact.Y exact.X
letters XZX = plain exact.X exact.Z exact.X
letters ZYXEx = extrinsic exact.Z exact.Y exact.X
letters ZXYEx = extrinsic exact.Z exact.X exact.Y
letters YXZEx = extrinsic exact.Y exact.X exact.Z
letters YZXEx = extrinsic exact.Y exact.Z exact.X
letters XYZEx = extrinsic exact.X exact.Y exact.Z
letters XZYEx = extrinsic exact.X exact.Z exact.Y
letters ZYZEx = extrinsic exact.Z exact.Y exact.Z
letters ZXZEx = extrinsic exact.Z exact.X exact.Z
letters YXYEx = extrinsic exact.Y exact.X exact.Y
letters YZYEx = extrinsic exact.Y exact.Z exact.Y
letters XYXEx = extrinsic exact.X exact.Y exact.X
letters XZXEx = extrinsic exact.X exact.Z exact.X

-- ---- axes

abbrev pub axis : exact.Axis → Axis
axis exact.X = X
axis exact.Y = Y
axis exact.Z = Z

abbrev pub letter : Axis → exact.Axis
letter X = exact.X
letter Y = exact.Y
letter Z = exact.Z

abbrev pub index : Axis → ℕ
index X = 0
index Y = 1
index Z = 2

-- in the cycle X, Y, Z
abbrev pub next : Axis → Axis
next X = Y
next Y = Z
next Z = X

abbrev pub prev : Axis → Axis
prev X = Z
prev Y = X
prev Z = Y

abbrev pub same : Axis → Axis → Bool
same a b = index a == index b

-- ---- orders

abbrev pub made : Axis → Parity → Repeated → Frame → Order
made i p r f = record { initial_axis = i; parity_even = even p; initial_repeated = repeated r; frame_static = static f }
  where
    even : Parity → Bool
    even Odd = false
    even Even = true

    repeated : Repeated → Bool
    repeated No = false
    repeated Yes = true

    static : Frame → Bool
    static Relative = false
    static Static = true

-- the letters i, j, k as written, or with Ex read backwards
abbrev pub forwards : Letters → Axis × Axis × Axis
forwards l = cond l.ex (axis l.third, axis l.second, axis l.first) (axis l.first, axis l.second, axis l.third)

abbrev pub order_of : Letters → Order
order_of l =
    let t = forwards l in
    record { initial_axis = t.0; parity_even = same t.1 (next t.0); initial_repeated = same t.2 t.0; frame_static = not l.ex }

abbrev pub order : EulerRot → Order
order n = order_of (letters n)

-- the axis that follows the first one, and the one that is left
abbrev pub second : Order → Axis
second o = cond o.parity_even (next o.initial_axis) (prev o.initial_axis)

abbrev pub other : Order → Axis
other o = cond o.parity_even (prev o.initial_axis) (next o.initial_axis)

abbrev pub angle_order : Order → ℕ × ℕ × ℕ
angle_order o = (index o.initial_axis, index (second o), index (other o))

-- ---- the angles of an order

-- at the opposite where the parity is even
abbrev pub signed : Bool → Float → Float
signed even t = cond even (neg t) t

-- with Ex read backwards
abbrev pub as_read : Bool → Float × Float × Float → Float × Float × Float
as_read static t = cond static t (t.2, t.1, t.0)

-- ---- laws

-- i, j, k, or i, j, i where the last letter repeats the first
abbrev pub third : Order → Axis
third o = cond o.initial_repeated o.initial_axis (other o)

abbrev pub Spells : Letters → Order → Type 0
Spells l o = forwards l ≡ (o.initial_axis, second o, third o)

abbrev pub LettersLaw : Type 0
LettersLaw = (n : EulerRot) → Spells (letters n) (order n)

abbrev pub Examples : Type 0
Examples = (angle_order (order ZYX) ≡ (2, 1, 0)) × (angle_order (order ZXZ) ≡ (2, 0, 1)) × (angle_order (order YZXEx) ≡ (0, 2, 1))
