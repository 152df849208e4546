use Rattle.std.proofs.Common.{sym}
use Rattle.exact.proofs.Order.{from_frac, to_frac}
use Rattle.exact.proofs.Within.{not_≤, <_not}
use Rattle.exact.proofs.Numbers.{as_over}
use Rattle.exact.proofs.Distance.{same_frac}
use Rattle.rounding.specs.Value.{L, ticks}
use Rattle.rounding.proofs.Ticks.{L_pos}
use Rattle.rounding.proofs.Values.{of_ticks}
use Rattle.rounding.proofs.Convert.{bits_exact, whole_exact, truncated}
use Rattle.rounding.proofs.Stated.{exactly}
use Rattle.rounding.proofs.conversions_stand.Goals as goal

pub returns : goal.returns
returns c = record {
  ticks = λ x i. same_frac _ _ (sym (as_over (ticks x) L L_pos (of_ticks i)));
  bits = λ b h. exactly _ (bits_exact b h);
  integers = λ z h. exactly _ (whole_exact z h);
  truncation = λ w x i l h.
      let t = truncated w i (from_frac _ _ l) (not_≤ (λ k. h (to_frac _ _ k))) in
      (to_frac _ _ t.0, λ k. <_not t.1 (from_frac _ _ k));
}
