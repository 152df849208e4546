-- The literals 0.0, 0.5, 1.0 and 2.0, as code has them: bit patterns.
use Rattle.std.proofs.Common.{refl}
use lib.Ieee.{binary64, fits, of_bits}
use Rattle.exact.proofs.Within.{0#, 1#, num, 2⁻}
use Rattle.rounding.proofs.Rounds.{Exact}
use Rattle.rounding.proofs.Convert.{literal_exact}

pub zero_exact : Exact (of_bits binary64 0) 0#
unfolding of_bits fits
zero_exact = literal_exact tt refl

pub half_exact : Exact (of_bits binary64 0x3fe0_0000_0000_0000) (2⁻ 1)
unfolding of_bits fits
half_exact = literal_exact tt refl

pub one_exact : Exact (of_bits binary64 0x3ff0_0000_0000_0000) 1#
unfolding of_bits fits
one_exact = literal_exact tt refl

pub two_exact : Exact (of_bits binary64 0x4000_0000_0000_0000) (num 2)
unfolding of_bits fits
two_exact = literal_exact tt refl
