use Rattle.exact.proofs.Order.{from_frac, to_frac}
use Rattle.exact.proofs.Within.{computes}
use Rattle.exact.proofs.Distance.{size, close_back, from_≈}
use Rattle.rounding.proofs.Operations.{sum_rounds, difference_rounds, product_rounds, quotient_rounds, root_rounds}
use Rattle.rounding.proofs.Stated.{rounded, nonzero}
use Rattle.rounding.proofs.operations_stand.Goals as goal

pub returns : goal.returns
unfolding computes
returns c = record {
  sum = λ x y m i j h l. rounded _ _ (sum_rounds i j (size h) (from_frac _ _ l));
  difference = λ x y m i j h l. rounded _ _ (difference_rounds i j (size h) (from_frac _ _ l));
  product = λ x y m i j h l. rounded _ _ (product_rounds i j (size h) (from_frac _ _ l));
  quotient = λ x y q m i j z e h l. rounded _ _ (quotient_rounds i j (nonzero y z) (from_≈ _ _ e) (size h) (from_frac _ _ l));
  root = λ x i h. let r = root_rounds i (from_frac _ _ h) in (r.0, to_frac _ _ r.1, close_back _ _ _ r.2);
}
