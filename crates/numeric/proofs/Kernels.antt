-- The kernels of sine and cosine against the exact series, of which they sum the first terms.
use lib.Ieee.Fits.{and_l, and_r}
use Rattle.std.proofs.Common.{◌≡◌, ℕ, suc, Bool, true, ◌&&◌, T, eqb, List, [], ◌∷◌, pos, sym, ap, ◌∙◌, eqb→eq}
use lib.Ieee.{Float, fits, of_bits}
use Rattle.exact.specs.Fraction.{Frac, whole, part, ◌over◌}
use Rattle.exact.specs.Sine.{factorial}
use Rattle.exact.proofs.Ring.{con, ◌⊗◌, ◌⊝◌}
use Rattle.exact.proofs.Rational.{ℚ, cls, ◌*◌, ◌-◌, ∅, ◌▸◌, ◌≐◌, ring}
use Rattle.exact.proofs.Order.{◌≤◌}
use Rattle.exact.proofs.Within.{1#, 0ₑ, 1ₑ, 2⁻, computes, closed, ≤_of, ◌within◌, within_≤, within_*, ◌≈⟨◌⟩◌, near, near_≤}
use Rattle.exact.proofs.Series.{pow, alt, Sᵥ, Cᵥ}
use Rattle.rounding.specs.Value.{Is}
use Rattle.rounding.proofs.Values.{#◌}
use Rattle.rounding.proofs.Rounds.{Rounds}
use Rattle.rounding.proofs.Operations.{rounds_at}
use Rattle.numeric.specs.Floats.{one}
use Rattle.numeric.specs.Sine.{sixth, odd_inverses, even_inverses, sin_kernel, cos_kernel}
use Rattle.numeric.proofs.Polynomials.{nest, most, most_is, Bounds, even_near, odd_near}

-- ---- the exact series by Horner's rule

-- 1/n! for each n
abbrev inverses : List ℕ → List Frac
inverses [] = []
inverses (n ∷ ns) = pos 1 over factorial n ∷ inverses ns

-- each number is 2 more than the one before
abbrev by_two : ℕ → List ℕ → Bool
by_two n [] = true
by_two n (m ∷ ms) = eqb m (suc (suc n)) && by_two m ms

alt_nest : (x : ℚ) (n : ℕ) (ns : List ℕ) → T (by_two n ns) → alt x (n ∷ ns) ≡ pow x n * nest (x * x) (inverses (n ∷ ns))
unfolding alt nest
alt_nest x n [] t = ring (pow x n ▸ cls (pos 1 over factorial n) ▸ x ▸ ∅) (λ p i x. p ⊗ i ⊝ 0ₑ ≐ p ⊗ (i ⊝ x ⊗ x ⊗ 0ₑ)) tt
alt_nest x n (m ∷ ms) t = ap (λ v. pow x n * cls (pos 1 over factorial n) - v) (alt_nest x m ms (and_r (eqb m (suc (suc n))) _ t) ∙ ap (λ v. v * nest (x * x) (inverses (m ∷ ms))) two)
    ∙ ring (pow x n ▸ cls (pos 1 over factorial n) ▸ x ▸ nest (x * x) (inverses (m ∷ ms)) ▸ ∅) (λ p i x l. p ⊗ i ⊝ x ⊗ (x ⊗ p) ⊗ l ≐ p ⊗ (i ⊝ x ⊗ x ⊗ l)) tt
  where
    two : pow x m ≡ x * (x * pow x n)
    two = unfold pow in ap (pow x) (eqb→eq m (suc (suc n)) (and_l (eqb m (suc (suc n))) _ t))

abbrev later_odds : List ℕ
later_odds = 5 ∷ 7 ∷ 9 ∷ 11 ∷ 13 ∷ 15 ∷ 17 ∷ 19 ∷ 21 ∷ []

abbrev later_evens : List ℕ
later_evens = 2 ∷ 4 ∷ 6 ∷ 8 ∷ 10 ∷ 12 ∷ 14 ∷ 16 ∷ 18 ∷ 20 ∷ 22 ∷ []

-- S x = x − x (x² (1/3! − …))
S_nest : (x : ℚ) → x - x * (x * x * nest (x * x) (inverses (3 ∷ later_odds))) ≡ Sᵥ x
unfolding pow nest
S_nest x = ring (x ▸ nest (x * x) (inverses (3 ∷ later_odds)) ▸ ∅) (λ x h. x ⊝ x ⊗ (x ⊗ x ⊗ h) ≐ x ⊗ 1ₑ ⊗ (1ₑ ⊝ x ⊗ x ⊗ h)) tt ∙ sym (alt_nest x 1 (3 ∷ later_odds) tt)

C_nest : (x : ℚ) → nest (x * x) (inverses (0 ∷ later_evens)) ≡ Cᵥ x
unfolding pow
C_nest x = ring (nest (x * x) (inverses (0 ∷ later_evens)) ▸ ∅) (λ h. h ≐ 1ₑ ⊗ h) tt ∙ sym (alt_nest x 0 later_evens tt)

-- ---- the kernels, for an r of size 4/5 at most, r² of 0.64. Below, errors are counted in roundings of 2^-53: 2^-48 is 32 of them.

abbrev widest : Frac
widest = pos 4 over 5

-- m: 1/6 + 0.64 m ≤ m. e: a step's 0.5 + 0.3 + 0.3, the literal's 0.1 and 0.64 · 32 are 22; at the last, 0.64 of the terms from 1/17! on are 17.
-- In all, as a share of r: 1.3 of the difference, 0.3 of the product r y, and 21 of y = r² h
abbrev sine_bounds : Bounds
sine_bounds = record { k = pos 1 over 6; d = part 56; m = pos 1 over 2; e = part 48 }

pub sin_kernel_near : {r : Float} {w : ℚ} → Is r → # r within w → 2⁻ 100 ≤ w → w ≤ cls widest → Rounds (sin_kernel r) (Sᵥ (# r)) (w * 2⁻ 48)
unfolding of_bits fits computes
sin_kernel_near {r} i h low high = rounds_at (S_nest (# r)) (odd_near sine_bounds widest (part 48) tt i h low high sixth odd_inverses (pos 1 over factorial 3) (inverses later_odds) tt)

-- m: 1 + 0.64 m ≤ m. e: a step's 2.9 + 1.9 + 1.9 and 0.64 · 32 are 28; the terms from 1/18! on are less than 1
abbrev cosine_bounds : Bounds
cosine_bounds = record { k = whole (pos 1); d = part 58; m = whole (pos 3); e = part 48 }

pub cos_kernel_near : {r : Float} → Is r → # r within cls widest → Rounds (cos_kernel r) (Cᵥ (# r)) (2⁻ 48)
unfolding of_bits fits computes
cos_kernel_near {r} i h = rounds_at (C_nest (# r)) (even_near cosine_bounds widest i h tt one even_inverses (pos 1 over factorial 0) (inverses later_evens) tt).rounds

-- ---- below 2^-27 the series is its first term: x³/3! is 2^-56 of x at most

pub S_tiny : {x w : ℚ} → x within 2⁻ 27 → x within w → x ≈⟨ w * 2⁻ 54 ⟩ Sᵥ x
unfolding computes
S_tiny {x} {w} h hw = near_≤ (near (within_* hw (within_* (within_* h h) (within_≤ (most_is {b = part 54} (within_* h h) (inverses (3 ∷ later_odds))) most_one)))
    (ring (x ▸ (x * x * nest (x * x) (inverses (3 ∷ later_odds))) ▸ ∅) (λ x h. x ⊗ h ≐ x ⊝ (x ⊝ x ⊗ h)) tt ∙ ap (λ s. x - s) (S_nest x)))
    (≤_of (ring (w ▸ ∅) (λ w. w ⊗ (con (part 27) ⊗ con (part 27) ⊗ 1ₑ) ≐ w ⊗ con (part 54)) tt))
  where
    most_one : cls (most (part 54) (inverses (3 ∷ later_odds))) ≤ 1#
    most_one = closed tt
