-- What passes the tests of a call's numbers.
use Rattle.std.proofs.Common.{◌≡◌, true, T, pos, sym, refl, subst}
use lib.Ieee.{Float, nan, inf, fin, binary64, fits, of_bits, le}
use Rattle.std.specs.Float.{float_is_finite}
use Rattle.exact.specs.Fraction.{whole}
use Rattle.exact.proofs.Within.{num}
use Rattle.exact.proofs.Distance.{size_back}
use Rattle.rounding.specs.Value.{val, Is}
use Rattle.rounding.proofs.Rounds.{Exact, own}
use Rattle.rounding.proofs.Compare.{le_yes}
use Rattle.rounding.proofs.Convert.{literal_exact}
use Rattle.numeric.specs.Floats.{size}
use Rattle.numeric.specs.Tests.{largest_angle}
use Rattle.numeric.specs.Laws.{Angle}
use Rattle.numeric.proofs.Sines.{sized, size_within}

pub number_is : (v : Float) → T (fits binary64 v) → float_is_finite v ≡ true → Is v
unfolding float_is_finite
number_is nan f e = absurd (subst T (sym e) tt)
number_is (inf s) f e = absurd (subst T (sym e) tt)
number_is (fin s m d) f e = record { fit = f; fin = tt }

pub thousand : Exact largest_angle (num 1000)
unfolding of_bits fits
thousand = literal_exact tt refl

pub angle_is : (v : Float) → Is v → le (size v) largest_angle ≡ true → Angle v
angle_is v i l = record { is = i; size = size_back (val v) (whole (pos 1000)) (size_within i (le_yes (own (sized v i).0) thousand l)) }
