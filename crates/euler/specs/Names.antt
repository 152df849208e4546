-- The 24 names, and the order that a text names.
use Rattle.std.specs.Prelude.{◌≡◌, ℕ, Bool, true, false, cond, ◌&&◌, List, [], ◌∷◌, Ok, Err, codes, Result, ◌==◌}
use Rattle.fault.specs.declared.RotationFault.{RotationFault}
use Rattle.fault.specs.declared.RotationFault.TheVariants.{UnknownOrder}
use Rattle.euler.specs.declared.EulerRot.{EulerRot}
use Rattle.euler.specs.declared.EulerRot.TheVariants.{ZYX, ZXY, YXZ, YZX, XYZ, XZY, ZYZ, ZXZ, YXY, YZY, XYX, XZX, ZYXEx, ZXYEx, YXZEx, YZXEx, XYZEx, XZYEx, ZYZEx, ZXZEx, YXYEx, YZYEx, XYXEx, XZXEx}

abbrev pub name : EulerRot → List ℕ
name ZYX = codes "ZYX"
name ZXY = codes "ZXY"
name YXZ = codes "YXZ"
name YZX = codes "YZX"
name XYZ = codes "XYZ"
name XZY = codes "XZY"
name ZYZ = codes "ZYZ"
name ZXZ = codes "ZXZ"
name YXY = codes "YXY"
name YZY = codes "YZY"
name XYX = codes "XYX"
name XZX = codes "XZX"
name ZYXEx = codes "ZYXEx"
name ZXYEx = codes "ZXYEx"
name YXZEx = codes "YXZEx"
name YZXEx = codes "YZXEx"
name XYZEx = codes "XYZEx"
name XZYEx = codes "XZYEx"
name ZYZEx = codes "ZYZEx"
name ZXZEx = codes "ZXZEx"
name YXYEx = codes "YXYEx"
name YZYEx = codes "YZYEx"
name XYXEx = codes "XYXEx"
name XZXEx = codes "XZXEx"

-- in the order of their places from 0
abbrev pub all : List EulerRot
all = ZYX ∷ ZXY ∷ YXZ ∷ YZX ∷ XYZ ∷ XZY ∷ ZYZ ∷ ZXZ ∷ YXY ∷ YZY ∷ XYX ∷ XZX ∷ ZYXEx ∷ ZXYEx ∷ YXZEx ∷ YZXEx ∷ XYZEx ∷ XZYEx ∷ ZYZEx ∷ ZXZEx ∷ YXYEx ∷ YZYEx ∷ XYXEx ∷ XZXEx ∷ []

abbrev pub same : List ℕ → List ℕ → Bool
same [] [] = true
same [] (y ∷ ys) = false
same (x ∷ xs) [] = false
same (x ∷ xs) (y ∷ ys) = x == y && same xs ys

-- the one of these names that the text spells; any other text is 12
abbrev pub named_among : List EulerRot → List ℕ → Result EulerRot RotationFault
named_among [] text = Err (UnknownOrder 0)
named_among (n ∷ ns) text = cond (same text (name n)) (Ok n) (named_among ns text)

abbrev pub named : List ℕ → Result EulerRot RotationFault
named text = named_among all text

abbrev pub NamesLaw : Type 0
NamesLaw = (n : EulerRot) → named (name n) ≡ Ok n
