use Rattle.std.proofs.Common.{subst, inl, inr}
use Rattle.exact.proofs.Order.{from_frac, ◌≤◌}
use Rattle.exact.proofs.Within.{computes, 2⁻}
use Rattle.exact.proofs.Distance.{from_≈}
use Rattle.rounding.specs.Value.{val}
use Rattle.rounding.proofs.Exact.{negated_exact, times_one, times_minus_one, plus_zero, minus_zero, neighbours_exact, half_of_large, half_of_low, half_rounds}
use Rattle.rounding.proofs.Convert.{multiple_exact}
use Rattle.rounding.proofs.Stated.{rounded, exactly, either}
use Rattle.rounding.proofs.exact_stands.Goals as goal

pub returns : goal.returns
unfolding computes
returns c = record {
  negation = λ x i. exactly _ (negated_exact i);
  one = λ x c i j. (λ e. exactly _ (times_one i j (from_≈ _ _ e)), λ e. exactly _ (times_minus_one i j (from_≈ _ _ e)));
  nought = λ x c i j e. (exactly _ (plus_zero i j (from_≈ _ _ e)), exactly _ (minus_zero i j (from_≈ _ _ e)));
  neighbours = λ x y i j h k. exactly _ (neighbours_exact i j (from_frac _ _ h) (from_frac _ _ k));
  half = λ x h i j e. (
    λ l. exactly _ (elim (either (val x)) [
      | inl s ↦ half_of_large i j (from_≈ _ _ e) (subst (λ z. 2⁻ 1021 ≤ z) s (from_frac _ _ l))
      | inr s ↦ half_of_low i j (from_≈ _ _ e) (subst (λ z. 2⁻ 1021 ≤ z) s (from_frac _ _ l))
    ]),
    rounded _ _ (half_rounds i j (from_≈ _ _ e)),
  );
  multiple = λ c k n j i e a b d. exactly _ (multiple_exact k n j i (from_≈ _ _ e) a b d);
}
