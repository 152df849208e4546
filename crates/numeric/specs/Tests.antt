-- What turns a number away: 1 where it is not finite, then 2 where it is above what is asked in size, of an angle 1000.
use Rattle.std.specs.Prelude.{ℕ, ◌+◌, min, Option, Float}
use Rattle.std.specs.Float.Ieee.{le}
use Rattle.std.specs.Float.{float_is_finite}
use Rattle.fault.specs.Answers.{unless, ◌⨾◌}
use Rattle.fault.specs.declared.NumberFault.{NumberFault}
use Rattle.fault.specs.declared.NumberFault.TheVariants.{NotFinite, TooLarge}
use Rattle.numeric.specs.Floats.{bits, size}

-- the number v as the argument `at` of a call
abbrev pub number_fault : ℕ → Float → Option NumberFault
number_fault at v = unless (float_is_finite v) (NotFinite at)

-- and at most `largest` in size
abbrev pub size_fault : Float → ℕ → Float → Option NumberFault
size_fault largest at v = number_fault at v ⨾ unless (le (size v) largest) (TooLarge at)

-- 1000
abbrev pub largest_angle : Float
largest_angle = bits 0x408F_4000_0000_0000

abbrev pub angle_fault : ℕ → Float → Option NumberFault
angle_fault at v = size_fault largest_angle at v

-- three angles as the argument `first` and the two after it, of which 255 is the last
abbrev pub angles_fault : ℕ → Float → Float → Float → Option NumberFault
angles_fault first a b c = angle_fault first a ⨾ angle_fault (min (first + 1) 255) b ⨾ angle_fault (min (first + 2) 255) c
