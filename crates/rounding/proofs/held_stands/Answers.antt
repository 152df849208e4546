use Rattle.exact.proofs.Within.{computes}
use Rattle.exact.proofs.Distance.{from_≈}
use Rattle.rounding.proofs.Exact.{float_short, sum_exact, difference_exact, product_exact, quotient_exact}
use Rattle.rounding.proofs.Stated.{exactly, nonzero, short, held}
use Rattle.rounding.proofs.held_stands.Goals as goal

pub returns : goal.returns
unfolding computes
returns c = record {
  values = λ x i. held _ (float_short i);
  results = λ x y i j. (
    λ h. exactly _ (sum_exact i j (short h)),
    λ h. exactly _ (difference_exact i j (short h)),
    λ h. exactly _ (product_exact i j (short h)),
    λ q z e h. exactly _ (quotient_exact i j (nonzero y z) (from_≈ _ _ e) (short h)),
  );
}
