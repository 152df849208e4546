-- The addition theorem: S(x + y) is S(x) C(y) + C(x) S(y), and C(x + y) is C(x) C(y) − S(x) S(y), up to 2⁻⁵⁸ for |x|, |y| ≤ 4/5; and with it the sine and cosine of any sum.
use mathlib.Core.Path.{◌≡◌, refl, sym, ◌∙◌, ap, ap₂, subst}
use mathlib.Core.List.{List, [], ◌∷◌}
use Prim.Native.Nat as N
use Prim.Native.Nat.{ℕ}
use lib.Dec.{lit<}
use lib.IntN.{ℤ, pos, ◌+ℤ◌}
use Rattle.exact.specs.Fraction.{Frac, whole, ◌over◌, ◌+ᶠ◌, ◌*ᶠ◌}
use Rattle.exact.specs.Sine.{quarter, turns, sine, cosine}
use Rattle.exact.proofs.Ring.{con, ◌⊕◌, ◌⊗◌, ◌⊝◌}
use Rattle.exact.proofs.Rational.{ℚ, cls, ◌+◌, ◌*◌, ◌-◌, plus_cls, times_cls, whole_+, ∅, ◌▸◌, ◌≐◌, ring}
use Rattle.exact.proofs.Order.{◌≤◌}
use Rattle.exact.proofs.Within.{0ₑ, 1ₑ, num, 2⁻, num_*, 0≤num, computes, closed, ◌within◌, within_+, within_*, within_≤, within_at, within_self, near}
use Rattle.exact.proofs.Pairs.{Pair, pair, ◌≋⟨◌⟩◌, ≋_at, ≋_≤, ≋_trans, ≋_sym, sum, quarters_near, quarters_sum}
use Rattle.exact.proofs.Polys.{Num, Means, ev, bound, ℤ_num, ℤ_means, poly_num, poly_means, Px, leaf, ◌⊹◌, ◌⊛◌, ~◌, ◌at◌, flat, mean, flat_over, const_is, line_is}
use Rattle.exact.proofs.Series.{Sₚ, Cₚ, Sᵥ, Cᵥ, S_is, C_is, value, common, wave}
use Rattle.exact.proofs.Waves.{eighth}
use Rattle.exact.proofs.Sines.{left, wave_by, exact, exact_is, exact_far, exact_equal, rest_small}

-- ---- polynomials in two variables: in x, with polynomials in y for coefficients; 5 x and 5 y within 4

abbrev two : Num (List ℤ)
two = poly_num ℤ_num ℤ_means 4

abbrev in_x : List ℤ → List (List ℤ)
in_x [] = []
in_x (c ∷ p) = (c ∷ []) ∷ in_x p

abbrev in_y : List ℤ → List (List ℤ)
in_y p = p ∷ []

-- y + x
abbrev y+x : List (List ℤ)
y+x = (pos 0 ∷ pos 1 ∷ []) ∷ (pos 1 ∷ []) ∷ []

abbrev κ : ℕ
κ = common 5

abbrev κ² : ℕ
κ² = N.◌*◌ κ κ

-- κ² (S(x + y) − S(x) C(y) − C(x) S(y)), κ² (C(x + y) − C(x) C(y) + S(x) S(y))
abbrev S_sum : Px (List ℤ)
S_sum = leaf (in_y (pos κ ∷ [])) ⊛ (in_x (Sₚ 5) at leaf y+x) ⊹ ~ (leaf (in_x (Sₚ 5)) ⊛ leaf (in_y (Cₚ 5)) ⊹ leaf (in_x (Cₚ 5)) ⊛ leaf (in_y (Sₚ 5)))

abbrev C_sum : Px (List ℤ)
C_sum = leaf (in_y (pos κ ∷ [])) ⊛ (in_x (Cₚ 5) at leaf y+x) ⊹ ~ (leaf (in_x (Cₚ 5)) ⊛ leaf (in_y (Cₚ 5)) ⊹ ~ (leaf (in_x (Sₚ 5)) ⊛ leaf (in_y (Sₚ 5))))

-- the first missing term of S at x + y: (8/5)²³/23! = 2^-58.86; what is missing of C comes to less
S_sum_small : num (bound two 4 (flat two S_sum)) * cls (pos 1 over κ²) ≤ 2⁻ 58
unfolding computes Sₚ Cₚ
S_sum_small = closed tt

C_sum_small : num (bound two 4 (flat two C_sum)) * cls (pos 1 over κ²) ≤ 2⁻ 58
unfolding computes Sₚ Cₚ
C_sum_small = closed tt

module _ (x y : ℚ) (hx : num 5 * x within num 4) (hy : num 5 * y within num 4) where
  M : Means two
  M = poly_means ℤ_num ℤ_means 4 (num 5 * y) hy

  in_x_is : (p : List ℤ) (z : ℚ) → ev two M (in_x p) z ≡ value p z
  unfolding ev M
  in_x_is [] z = refl
  in_x_is (c ∷ p) z = ap₂ (λ u v. u + z * v) (const_is ℤ_num ℤ_means c (num 5 * y)) (in_x_is p z)

  in_y_is : (p : List ℤ) (z : ℚ) → ev two M (in_y p) z ≡ value p (num 5 * y)
  unfolding M
  in_y_is p z = const_is two M p z

  y+x_is : ev two M y+x (num 5 * x) ≡ num 5 * (x + y)
  unfolding M
  y+x_is = line_is two M (pos 0 ∷ pos 1 ∷ []) (pos 1 ∷ []) (num 5 * x)
      ∙ ap₂ (λ u v. u + num 5 * x * v) (line_is ℤ_num ℤ_means (pos 0) (pos 1) (num 5 * y)) (const_is ℤ_num ℤ_means (pos 1) (num 5 * y))
      ∙ ring (x ▸ y ▸ ∅) (λ x y. 0ₑ ⊕ con (whole (pos 5)) ⊗ y ⊗ 1ₑ ⊕ con (whole (pos 5)) ⊗ x ⊗ 1ₑ ≐ con (whole (pos 5)) ⊗ (x ⊕ y)) tt

  κ_is : ev two M (in_y (pos κ ∷ [])) (num 5 * x) ≡ num κ
  κ_is = in_y_is (pos κ ∷ []) (num 5 * x) ∙ const_is ℤ_num ℤ_means (pos κ) (num 5 * y)

  -- a series at x + y, at x and at y
  module _ (p : List ℤ) (v : ℚ → ℚ) (p_is : (z : ℚ) → value p (num 5 * z) ≡ num κ * v z) where
    at_sum : ev two M (in_y (pos κ ∷ [])) (num 5 * x) * ev two M (in_x p) (ev two M y+x (num 5 * x)) ≡ num κ * (num κ * v (x + y))
    at_sum = ap₂ (λ u v. u * v) κ_is (ap (ev two M (in_x p)) y+x_is ∙ in_x_is p (num 5 * (x + y)) ∙ p_is (x + y))

    at_x : ev two M (in_x p) (num 5 * x) ≡ num κ * v x
    at_x = in_x_is p (num 5 * x) ∙ p_is x

    at_y : ev two M (in_y p) (num 5 * x) ≡ num κ * v y
    at_y = in_y_is p (num 5 * x) ∙ p_is y

  S₅ : (z : ℚ) → value (Sₚ 5) (num 5 * z) ≡ num κ * Sᵥ z
  S₅ z = S_is 5 z tt

  C₅ : (z : ℚ) → value (Cₚ 5) (num 5 * z) ≡ num κ * Cᵥ z
  C₅ z = C_is 5 z tt

  S_sum_is : mean two M (num 5 * x) S_sum ≡ num κ² * (Sᵥ (x + y) - (Sᵥ x * Cᵥ y + Cᵥ x * Sᵥ y))
  S_sum_is = ap₂ (λ u v. u - v) (at_sum (Sₚ 5) Sᵥ S₅)
      (ap₂ (λ u v. u + v) (ap₂ (λ u v. u * v) (at_x (Sₚ 5) Sᵥ S₅) (at_y (Cₚ 5) Cᵥ C₅)) (ap₂ (λ u v. u * v) (at_x (Cₚ 5) Cᵥ C₅) (at_y (Sₚ 5) Sᵥ S₅)))
      ∙ ring (num κ ▸ Sᵥ (x + y) ▸ Sᵥ x ▸ Cᵥ x ▸ Sᵥ y ▸ Cᵥ y ▸ ∅) (λ κ z s c t d. κ ⊗ (κ ⊗ z) ⊝ (κ ⊗ s ⊗ (κ ⊗ d) ⊕ κ ⊗ c ⊗ (κ ⊗ t)) ≐ κ ⊗ κ ⊗ (z ⊝ (s ⊗ d ⊕ c ⊗ t))) tt
      ∙ ap (λ v. v * (Sᵥ (x + y) - (Sᵥ x * Cᵥ y + Cᵥ x * Sᵥ y))) (sym (num_* κ κ))

  C_sum_is : mean two M (num 5 * x) C_sum ≡ num κ² * (Cᵥ (x + y) - (Cᵥ x * Cᵥ y - Sᵥ x * Sᵥ y))
  C_sum_is = ap₂ (λ u v. u - v) (at_sum (Cₚ 5) Cᵥ C₅)
      (ap₂ (λ u v. u - v) (ap₂ (λ u v. u * v) (at_x (Cₚ 5) Cᵥ C₅) (at_y (Cₚ 5) Cᵥ C₅)) (ap₂ (λ u v. u * v) (at_x (Sₚ 5) Sᵥ S₅) (at_y (Sₚ 5) Sᵥ S₅)))
      ∙ ring (num κ ▸ Cᵥ (x + y) ▸ Sᵥ x ▸ Cᵥ x ▸ Sᵥ y ▸ Cᵥ y ▸ ∅) (λ κ z s c t d. κ ⊗ (κ ⊗ z) ⊝ (κ ⊗ c ⊗ (κ ⊗ d) ⊝ κ ⊗ s ⊗ (κ ⊗ t)) ≐ κ ⊗ κ ⊗ (z ⊝ (c ⊗ d ⊝ s ⊗ t))) tt
      ∙ ap (λ v. v * (Cᵥ (x + y) - (Cᵥ x * Cᵥ y - Sᵥ x * Sᵥ y))) (sym (num_* κ κ))

  fifths_sum : wave (x + y) ≋⟨ 2⁻ 58 ⟩ sum (wave x) (wave y)
  fifths_sum = record {
    of_s = near (flat_over two M (num 5 * x) S_sum κ² (lit< tt) hx S_sum_is S_sum_small) refl;
    of_c = near (flat_over two M (num 5 * x) C_sum κ² (lit< tt) hx C_sum_is C_sum_small) refl;
  }

-- 5 P/4 ≤ 4
fifths : {x : ℚ} → x within cls eighth → num 5 * x within num 4
unfolding computes
fifths h = within_≤ (within_* (within_self (0≤num 5)) h) (closed tt)

pub wave_sum : (x y : ℚ) → x within cls eighth → y within cls eighth → wave (x + y) ≋⟨ 2⁻ 58 ⟩ sum (wave x) (wave y)
wave_sum x y hx hy = fifths_sum x y (fifths hx) (fifths hy)

-- ---- the sum of any two angles: k and l quarter turns are taken off, which leaves at most P/2 of the sum

module _ (x y : ℚ) (k l : ℤ) (hx : left x k within cls eighth) (hy : left y l within cls eighth) where
  left_sum : left x k + left y l ≡ left (x + y) (k +ℤ l)
  left_sum = ring (x ▸ y ▸ cls (whole k) ▸ cls (whole l) ▸ ∅) (λ x y k l. x ⊝ k ⊗ con quarter ⊕ (y ⊝ l ⊗ con quarter) ≐ x ⊕ y ⊝ (k ⊕ l) ⊗ con quarter) tt ∙ ap (λ v. x + y - v * cls quarter) (sym (whole_+ k l))

  left_sum_small : left (x + y) (k +ℤ l) within cls quarter
  left_sum_small = within_at left_sum (subst (λ v. left x k + left y l within v) (ring ∅ (con eighth ⊕ con eighth ≐ con quarter) tt) (within_+ hx hy))

  by_sum : wave_by (x + y) (k +ℤ l) ≋⟨ 2⁻ 58 ⟩ sum (wave_by x k) (wave_by y l)
  by_sum = ≋_at refl (sym (quarters_sum k l (wave (left x k)) (wave (left y l)))) (quarters_near (k +ℤ l) (≋_at (ap wave left_sum) refl (wave_sum (left x k) (left y l) hx hy)))

-- 2⁻⁵⁹ for the number of quarter turns and 2⁻⁵⁸ for the sum
pub exact_sum : (u v : Frac) → exact (u +ᶠ v) ≋⟨ 2⁻ 57 ⟩ sum (exact u) (exact v)
unfolding computes
exact_sum u v = ≋_≤ (≋_trans (≋_sym (exact_far (u +ᶠ v) (turns u +ℤ turns v) (left_sum_small (cls u) (cls v) (turns u) (turns v) (rest_small u) (rest_small v))))
    (≋_at refl (ap₂ sum (sym (exact_is u)) (sym (exact_is v))) (by_sum (cls u) (cls v) (turns u) (turns v) (rest_small u) (rest_small v)))) (closed tt)

-- sin and cos of a doubled angle
abbrev pub doubled : Frac → Pair
doubled v = pair (num 2 * (cls (sine v) * cls (cosine v))) (cls (cosine v) * cls (cosine v) - cls (sine v) * cls (sine v))

pub exact_double : (v : Frac) → exact (v +ᶠ v) ≋⟨ 2⁻ 57 ⟩ doubled v
exact_double v = ≋_at refl (ap (λ s. pair s (cls (cosine v) * cls (cosine v) - cls (sine v) * cls (sine v))) (ring (cls (sine v) ▸ cls (cosine v) ▸ ∅) (λ s c. s ⊗ c ⊕ c ⊗ s ≐ con (whole (pos 2)) ⊗ (s ⊗ c)) tt)) (exact_sum v v)

pub exact_half : (a : Frac) → exact a ≋⟨ 2⁻ 57 ⟩ doubled (a *ᶠ (pos 1 over 2))
exact_half a = ≋_at (exact_equal (h +ᶠ h) a (plus_cls h h ∙ ap₂ (λ x y. x + y) (times_cls a (pos 1 over 2)) (times_cls a (pos 1 over 2)) ∙ ring (cls a ▸ ∅) (λ a. a ⊗ con (pos 1 over 2) ⊕ a ⊗ con (pos 1 over 2) ≐ a) tt)) refl (exact_double h)
  where
    h : Frac
    h = a *ᶠ (pos 1 over 2)
