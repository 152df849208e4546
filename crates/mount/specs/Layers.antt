-- Layers over a mount: what they make of its true orientation, its depth and its answer.
use Rattle.std.specs.Prelude.{◌≡◌, ℕ, ◌+◌, Bool, cond, Some, None, Ok, Err, Option, Result, nat_le, Float}
use Rattle.fault.specs.Answers.{unless, within, ◌⨾◌}
use Rattle.fault.specs.declared.RotationFault.{RotationFault}
use Rattle.fault.specs.declared.RigFault.{RigFault}
use Rattle.fault.specs.declared.RigFault.TheVariants.{Rotation, TooDeep}
use Rattle.exact.specs.Fraction.{Frac}
use Rattle.exact.specs.Quat.{Quat, fractions, product}
use Rattle.exact.specs.Turn.{X, Z, about, exact_turn}
use Rattle.rounding.specs.Value.{val, floats}
use Rattle.euler.specs.Orders.{letters, order}
use Rattle.euler.specs.declared.EulerRot.{EulerRot}
use Rattle.drift.specs.Turns as F
use Rattle.drift.specs.Laws.{turned}
use Rattle.mount.specs.Facts.{deepest}
use Rattle.mount.specs.declared.settings.Setting.{Setting}
use Rattle.mount.specs.declared.settings.Aim.{Aim}

-- ---- any layer: with a setting s over a mount of depth d it is `more` deeper; without one it is as the mount below.
-- A setting that would pass the deepest depth is never made, and would count for nothing

-- over a mount of depth d there is room for `more`
abbrev pub room : ℕ → ℕ → Bool
room more d = nat_le (d + more) deepest

abbrev pub over : {S A : Type 0} → ℕ → ℕ → (S → A → A) → Option S → A → A
over more d f None below = below
over more d f (Some s) below = cond (room more d) (f s below) below

abbrev pub deeper : {S : Type 0} → ℕ → Option S → ℕ → ℕ
deeper more o d = over more d (λ s n. n + more) o d

-- what turns a setting away: its own refusals, then the depth below
abbrev pub room_fault : ℕ → ℕ → Option RigFault
room_fault more d = unless (room more d) (TooDeep 0)

abbrev pub layer_fault : ℕ → ℕ → Option RotationFault → Option RigFault
layer_fault more d f = within Rotation f ⨾ room_fault more d

-- q is the layer's answer where the mount below may answer as P says
abbrev pub Over : {S : Type 0} → ℕ → ℕ → (S → Quat Float → Quat Float) → Option S → (Quat Float → Type 0) → Quat Float → Type 0
Over more d f None P q = P q
Over more d f (Some s) P q = (m : Quat Float) × (P m × (q ≡ over more d f (Some s) m))

-- ---- a bracket: one turn of an order

abbrev pub IsSet : Option Setting → EulerRot → Float → Float → Float → Type 0
IsSet None n a b c = ⊥
IsSet (Some s) n a b c = (s.name ≡ n) × (s.a ≡ a) × (s.b ≡ b) × (s.c ≡ c)

abbrev pub set_turn : Setting → Quat Float
set_turn s = F.by_order (order s.name) s.a s.b s.c

abbrev pub set_truth : Setting → Quat Frac → Quat Frac
set_truth s t = product fractions t (exact_turn (letters s.name) (val s.a) (val s.b) (val s.c))

abbrev pub set_floats : Setting → Quat Float → Quat Float
set_floats s m = turned m (set_turn s)

-- ---- a yoke: Z by pan, then X by tilt

abbrev pub IsPointed : Option Aim → Float → Float → Type 0
IsPointed None pan tilt = ⊥
IsPointed (Some s) pan tilt = (s.pan ≡ pan) × (s.tilt ≡ tilt)

abbrev pub aim_truth : Aim → Quat Frac → Quat Frac
aim_truth s t = product fractions (product fractions t (about Z (val s.pan))) (about X (val s.tilt))

abbrev pub aim_floats : Aim → Quat Float → Quat Float
aim_floats s m = turned (product floats m (F.about Z s.pan)) (F.about X s.tilt)

-- ---- what a call leaves

-- refused, and unchanged; or accepted, and done
abbrev pub Decided : {F : Type 0} → Option F → Result (Unit {0}) F → Type 0 → Type 0 → Type 0
Decided None r done unchanged = (r ≡ Ok tt) × done
Decided (Some f) r done unchanged = (r ≡ Err f) × unchanged
