-- The two series as polynomials with whole coefficients: κ S(x) and κ C(x) in the variable d x, for κ = 22! d²².
use mathlib.Core.Path.{◌≡◌, refl, sym, ◌∙◌, ap, ap₂}
use mathlib.Core.Bool.{Bool, true, false, ◌&&◌}
use mathlib.Core.List.{List, [], ◌∷◌}
use Prim.Native.Nat as N
use Prim.Native.Nat.{ℕ, zero, suc}
use native.Mathlib.Omega.{arith}
use native.Mathlib.Nat.{mul-pos, pow-zero, pow-succ'}
use lib.Dec.{T, eqb, eqb→eq}
use lib.IntN.{ℤ, pos}
use lib.Ieee.Fits.{and_l, and_r}
use Rattle.std.specs.List.{list_all}
use Rattle.exact.specs.Fraction as F
use Rattle.exact.specs.Fraction.{Frac, whole, ◌over◌, ◌*ᶠ◌}
use Rattle.exact.specs.Sine.{power, factorial, alternating, odds, evens, S, C}
use Rattle.exact.proofs.Ring.{◌⊗◌, ⊖◌, ◌⊝◌}
use Rattle.exact.proofs.Rational.{ℚ, cls, ◌+◌, ◌*◌, neg, ◌-◌, plus_cls, times_cls, neg_cls, ∅, ◌▸◌, ◌≐◌, ring}
use Rattle.exact.proofs.Within.{0#, 1#, 0ₑ, 1ₑ, num, num_*}
use Rattle.exact.proofs.Numbers.{over_is}
use Rattle.exact.proofs.Pairs.{Pair, pair, mirror}
use Rattle.exact.proofs.Polys.{ev, add, opposite, ℤ_num, ℤ_means, add_is, opposite_is, const_is, shift_is}

-- ---- the series over rational numbers

unfoldable pub pow : ℚ → ℕ → ℚ
pow x zero = 1#
pow x (suc n) = x * pow x n

unfoldable pub alt : ℚ → List ℕ → ℚ
alt x [] = 0#
alt x (n ∷ ns) = pow x n * cls (pos 1 over factorial n) - alt x ns

pub pow_cls : (x : Frac) (n : ℕ) → cls (power x n) ≡ pow (cls x) n
unfolding pow
pow_cls x zero = refl
pow_cls x (suc n) = times_cls x (power x n) ∙ ap (λ v. cls x * v) (pow_cls x n)

pub alt_cls : (x : Frac) (ns : List ℕ) → cls (alternating x ns) ≡ alt (cls x) ns
unfolding alt alternating
alt_cls x [] = refl
alt_cls x (n ∷ ns) = plus_cls (power x n *ᶠ (pos 1 over factorial n)) (F.neg (alternating x ns))
    ∙ ap₂ (λ u v. u + v) (times_cls (power x n) (pos 1 over factorial n) ∙ ap (λ v. v * cls (pos 1 over factorial n)) (pow_cls x n)) (neg_cls (alternating x ns) ∙ ap neg (alt_cls x ns))

pow_* : (a x : ℚ) (n : ℕ) → pow (a * x) n ≡ pow a n * pow x n
unfolding pow
pow_* a x zero = ring ∅ (1ₑ ≐ 1ₑ ⊗ 1ₑ) tt
pow_* a x (suc n) = ap (λ v. a * x * v) (pow_* a x n) ∙ ring (a ▸ x ▸ pow a n ▸ pow x n ▸ ∅) (λ a x p q. a ⊗ x ⊗ (p ⊗ q) ≐ a ⊗ p ⊗ (x ⊗ q)) tt

factorial_pos : (n : ℕ) → N.◌<◌ 0 (factorial n)
factorial_pos zero = omega arith
factorial_pos (suc n) = mul-pos (omega arith) (factorial_pos n)

-- ---- their polynomials

abbrev pub mono : ℕ → ℤ → List ℤ
mono zero c = c ∷ []
mono (suc n) c = pos 0 ∷ mono n c

mono_is : (n : ℕ) (c : ℤ) (x : ℚ) → ev ℤ_num ℤ_means (mono n c) x ≡ pow x n * cls (whole c)
unfolding pow
mono_is zero c x = const_is ℤ_num ℤ_means c x ∙ ring (cls (whole c) ▸ ∅) (λ c. c ≐ 1ₑ ⊗ c) tt
mono_is (suc n) c x = shift_is ℤ_num ℤ_means (mono n c) x ∙ ap (λ v. x * v) (mono_is n c x) ∙ ring (x ▸ pow x n ▸ cls (whole c) ▸ ∅) (λ x p c. x ⊗ (p ⊗ c) ≐ x ⊗ p ⊗ c) tt

-- n! dⁿ, by which κ is divided
abbrev pub lot : ℕ → ℕ → ℕ
lot d n = N.◌*◌ (factorial n) (N.◌^◌ d n)

abbrev pub series : ℕ → ℕ → List ℕ → List ℤ
series κ d [] = []
series κ d (n ∷ ns) = add ℤ_num (mono n (pos (N.◌/◌ κ (lot d n)))) (opposite ℤ_num (series κ d ns))

abbrev pub even_lots : ℕ → ℕ → List ℕ → Bool
even_lots κ d [] = true
even_lots κ d (n ∷ ns) = eqb (N.◌*◌ (N.◌/◌ κ (lot d n)) (lot d n)) κ && even_lots κ d ns

num_pow : (d n : ℕ) → pow (num d) n ≡ num (N.◌^◌ d n)
unfolding pow
num_pow d zero = ap num (sym (pow-zero d))
num_pow d (suc n) = ap (λ v. num d * v) (num_pow d n) ∙ sym (num_* d (N.◌^◌ d n)) ∙ ap num (sym (pow-succ' d n))

pub series_is : (κ d : ℕ) (ns : List ℕ) (x : ℚ) → T (even_lots κ d ns) → ev ℤ_num ℤ_means (series κ d ns) (num d * x) ≡ num κ * alt x ns
unfolding alt ev
series_is κ d [] x t = ring (num κ ▸ ∅) (λ κ. 0ₑ ≐ κ ⊗ 0ₑ) tt
series_is κ d (n ∷ ns) x t = add_is ℤ_num ℤ_means (mono n (pos q)) (opposite ℤ_num (series κ d ns)) (num d * x)
    ∙ ap₂ (λ u v. u + v) first (opposite_is ℤ_num ℤ_means (series κ d ns) (num d * x) ∙ ap neg (series_is κ d ns x (and_r (eqb (N.◌*◌ q (lot d n)) κ) _ t)))
    ∙ ring (num κ ▸ pow x n ▸ cls (pos 1 over factorial n) ▸ alt x ns ▸ ∅) (λ κ p i a. κ ⊗ (p ⊗ i) ⊝ κ ⊗ a ≐ κ ⊗ (p ⊗ i ⊝ a)) tt
  where
    q : ℕ
    q = N.◌/◌ κ (lot d n)

    κ_is : num κ ≡ num q * (num (factorial n) * pow (num d) n)
    κ_is = ap num (sym (eqb→eq (N.◌*◌ q (lot d n)) κ (and_l _ _ t))) ∙ num_* q (lot d n) ∙ ap (λ v. num q * v) (num_* (factorial n) (N.◌^◌ d n) ∙ ap (λ v. num (factorial n) * v) (sym (num_pow d n)))

    first : ev ℤ_num ℤ_means (mono n (pos q)) (num d * x) ≡ num κ * (pow x n * cls (pos 1 over factorial n))
    first = mono_is n (pos q) (num d * x) ∙ ap (λ v. v * num q) (pow_* (num d) x n)
        ∙ ring (pow (num d) n ▸ pow x n ▸ num q ▸ ∅) (λ d p q. d ⊗ p ⊗ q ≐ q ⊗ (1ₑ ⊗ d) ⊗ p) tt
        ∙ ap (λ v. num q * (v * pow (num d) n) * pow x n) (sym (over_is (factorial n) (factorial_pos n)))
        ∙ ring (num q ▸ num (factorial n) ▸ cls (pos 1 over factorial n) ▸ pow (num d) n ▸ pow x n ▸ ∅) (λ q f i d p. q ⊗ (f ⊗ i ⊗ d) ⊗ p ≐ q ⊗ (f ⊗ d) ⊗ (p ⊗ i)) tt
        ∙ ap (λ v. v * (pow x n * cls (pos 1 over factorial n))) (sym κ_is)

-- ---- S and C

abbrev pub common : ℕ → ℕ
common d = N.◌*◌ (factorial 22) (N.◌^◌ d 22)

unfoldable pub Sₚ : ℕ → List ℤ
Sₚ d = series (common d) d odds

unfoldable pub Cₚ : ℕ → List ℤ
Cₚ d = series (common d) d evens

abbrev pub Sᵥ : ℚ → ℚ
Sᵥ x = alt x odds

abbrev pub Cᵥ : ℚ → ℚ
Cᵥ x = alt x evens

abbrev pub value : List ℤ → ℚ → ℚ
value p x = ev ℤ_num ℤ_means p x

module _ (d : ℕ) (x : ℚ) where
  pub S_is : T (even_lots (common d) d odds) → value (Sₚ d) (num d * x) ≡ num (common d) * Sᵥ x
  unfolding Sₚ
  S_is t = series_is (common d) d odds x t

  pub C_is : T (even_lots (common d) d evens) → value (Cₚ d) (num d * x) ≡ num (common d) * Cᵥ x
  unfolding Cₚ
  C_is t = series_is (common d) d evens x t

-- with d = 1
pub S₁_is : (x : ℚ) → value (Sₚ 1) x ≡ num (common 1) * Sᵥ x
S₁_is x = ap (value (Sₚ 1)) (ring (x ▸ ∅) (λ x. x ≐ 1ₑ ⊗ x) tt) ∙ S_is 1 x tt

pub C₁_is : (x : ℚ) → value (Cₚ 1) x ≡ num (common 1) * Cᵥ x
C₁_is x = ap (value (Cₚ 1)) (ring (x ▸ ∅) (λ x. x ≐ 1ₑ ⊗ x) tt) ∙ C_is 1 x tt

-- ---- even and odd

evenb : ℕ → Bool
evenb zero = true
evenb (suc zero) = false
evenb (suc (suc n)) = evenb n

module _ (x : ℚ) where
  even_pow : (n : ℕ) → T (evenb n) → pow (neg x) n ≡ pow x n
  unfolding evenb pow
  even_pow zero t = refl
  even_pow (suc zero) t = absurd t
  even_pow (suc (suc n)) t = ap (λ v. neg x * (neg x * v)) (even_pow n t) ∙ ring (x ▸ pow x n ▸ ∅) (λ x p. ⊖ x ⊗ (⊖ x ⊗ p) ≐ x ⊗ (x ⊗ p)) tt

  odd_pow : (n : ℕ) → T (evenb (suc n)) → pow (neg x) n ≡ neg (pow x n)
  unfolding evenb pow
  odd_pow zero t = absurd t
  odd_pow (suc n) t = ap (λ v. neg x * v) (even_pow n t) ∙ ring (x ▸ pow x n ▸ ∅) (λ x p. ⊖ x ⊗ p ≐ ⊖ (x ⊗ p)) tt

  alt_even : (ns : List ℕ) → T (list_all evenb ns) → alt (neg x) ns ≡ alt x ns
  unfolding alt
  alt_even [] t = refl
  alt_even (n ∷ ns) t = ap₂ (λ u v. u * cls (pos 1 over factorial n) - v) (even_pow n (and_l (evenb n) _ t)) (alt_even ns (and_r (evenb n) _ t))

  alt_odd : (ns : List ℕ) → T (list_all (λ n. evenb (suc n)) ns) → alt (neg x) ns ≡ neg (alt x ns)
  unfolding alt
  alt_odd [] t = ring ∅ (0ₑ ≐ ⊖ 0ₑ) tt
  alt_odd (n ∷ ns) t = ap₂ (λ u v. u * cls (pos 1 over factorial n) - v) (odd_pow n (and_l (evenb (suc n)) _ t)) (alt_odd ns (and_r (evenb (suc n)) _ t))
      ∙ ring (pow x n ▸ cls (pos 1 over factorial n) ▸ alt x ns ▸ ∅) (λ p i a. ⊖ p ⊗ i ⊝ ⊖ a ≐ ⊖ (p ⊗ i ⊝ a)) tt

  pub C_even : Cᵥ (neg x) ≡ Cᵥ x
  unfolding evenb
  C_even = alt_even evens tt

  pub S_odd : Sᵥ (neg x) ≡ neg (Sᵥ x)
  unfolding evenb
  S_odd = alt_odd odds tt

-- ---- the two as a pair

abbrev pub wave : ℚ → Pair
wave x = pair (Sᵥ x) (Cᵥ x)

pub wave_cls : (r : Frac) → pair (cls (S r)) (cls (C r)) ≡ wave (cls r)
wave_cls r = ap₂ pair (alt_cls r odds) (alt_cls r evens)

pub wave_mirror : (x : ℚ) → wave (neg x) ≡ mirror (wave x)
wave_mirror x = ap₂ pair (S_odd x) (C_even x)
