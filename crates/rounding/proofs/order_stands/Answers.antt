use Rattle.exact.proofs.Order.{from_frac, to_frac}
use Rattle.exact.proofs.Within.{≤_trans, ≤_antisym, not_≤}
use Rattle.rounding.proofs.Compare.{lt_cross, le_cross}
use Rattle.rounding.proofs.Convert.{quotient_unit}
use Rattle.rounding.proofs.Stated.{nonzero}
use Rattle.rounding.proofs.order_stands.Goals as goal

pub returns : goal.returns
returns c = record {
  less = λ x y i j. lt_cross x y i.fin j.fin;
  most = λ x y i j. le_cross x y i.fin j.fin;
  unit = λ x y i j z l h.
      let l' = from_frac _ _ l in
      let h' = from_frac _ _ h in
      let r = quotient_unit i j (not_≤ (λ k. nonzero y z (≤_antisym k (≤_trans l' h')))) l' h' in
      (r.0, to_frac _ _ r.1, to_frac _ _ r.2);
}
