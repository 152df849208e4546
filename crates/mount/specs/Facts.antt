-- What a mount shows, and what turns a mount away.
use Rattle.std.specs.Prelude.{ℕ, Option, Float}
use Rattle.fault.specs.Answers.{within, ◌⨾◌}
use Rattle.fault.specs.declared.NumberFault.{NumberFault}
use Rattle.fault.specs.declared.RotationFault.{RotationFault}
use Rattle.fault.specs.declared.RotationFault.TheVariants.{Number}
use Rattle.numeric.specs.Floats.{bits}
use Rattle.numeric.specs.Tests as N
use Rattle.numeric.specs.Tests.{size_fault}

-- the depth of a mount at most
abbrev pub deepest : ℕ
deepest = 12

-- the angles a, b and c of a bracket, as arguments 2, 3 and 4
abbrev pub angles_fault : Float → Float → Float → Option RotationFault
angles_fault a b c = within Number (N.angles_fault 2 a b c)

-- pan and tilt: 1, then 2 above 10 in size
abbrev pub swing_fault : ℕ → Float → Option NumberFault
swing_fault at v = size_fault (bits 0x4024_0000_0000_0000) at v

abbrev pub swings_fault : Float → Float → Option RotationFault
swings_fault pan tilt = within Number (swing_fault 1 pan ⨾ swing_fault 2 tilt)
