-- Lengths, of vectors of any size.
use Rattle.std.specs.Prelude.{Bool, Float}
use Rattle.std.specs.Float.Ieee.{le}
use Rattle.std.specs.Float.{sqrt, binary64}
use Rattle.numeric.specs.Floats.{◌⊖◌, ◌⊘◌, bits, one, size}

-- | s − 1 | ≤ 0.0002, in floats, for a squared length s
abbrev pub unit : Float → Bool
unit s = le (size (s ⊖ one)) (bits 0x3F2A_36E2_EB1C_432D)

-- 1 / √s
abbrev pub recip : Float → Float
recip s = one ⊘ sqrt binary64 s
