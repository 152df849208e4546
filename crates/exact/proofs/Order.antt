-- The order of the rational numbers, and inequalities by certificates.
use mathlib.Core.Path.{◌≡◌, sym, ◌∙◌, ap, subst}
use mathlib.Core.Quot.{ind}
use mathlib.Core.Bool.{Bool, true, false, not, ◌&&◌}
use mathlib.Core.List.{[], ◌∷◌}
use mathlib.Core.Logic.{◌⊎◌, inl, inr}
use mathlib.Core.HLevel.{Π_prop}
use Prim.Native.Nat.{ℕ, zero, suc}
use lib.Dec.{T, T_prop, eqb}
use lib.Signed.{non_neg}
use lib.IntN.{ℤ, pos, negsuc, neg_ℤ, ◌+ℤ◌}
use lib.Ieee.Fits.{and_l, and_r}
use Rattle.exact.specs.Fraction.{Frac, 0ᶠ, 1ᶠ, den, cross, ◌over◌, ◌≤ᶠ◌}
use Rattle.exact.proofs.Ring.{con, ◌⊕◌, ◌⊗◌, ⊖◌, ◌⊝◌, Poly, end, term, norm}
use Rattle.exact.proofs.Ints.{scaled, non_neg_+, non_neg_*, square_zero, cut, le_z_is, neg_*ℤ, is_zero}
use Rattle.exact.proofs.Rational.{ℚ, cls, ◌+◌, ◌*◌, neg, ◌-◌, nonneg, ℚ_set, none_is, ℚ_coef, Ex, Vars, ∅, ◌▸◌, Over, fill, val, value, value_norm, ◌≐◌, ring}

-- ---- what is not below 0

both_up : (P : ℚ → ℚ → Type 0) → ((x y : ℚ) → IsProp (P x y)) → ((a b : Frac) → P (cls a) (cls b)) → (x y : ℚ) → P x y
both_up P p h x y = ind {β = λ x. P x y} (λ x. p x y) (λ a. ind {β = λ y. P (cls a) y} (λ y. p (cls a) y) (h a) y) x

pub nonneg_+ : (x y : ℚ) → T (nonneg x) → T (nonneg y) → T (nonneg (x + y))
unfolding ◌+◌ nonneg
nonneg_+ = both_up (λ x y. T (nonneg x) → T (nonneg y) → T (nonneg (x + y))) (λ x y. Π_prop (λ s. Π_prop (λ t. T_prop (nonneg (x + y)))))
    (λ a b s t. non_neg_+ (cross a b) (cross b a) (rw (scaled a.num b.low) s) (rw (scaled b.num a.low) t))

pub nonneg_* : (x y : ℚ) → T (nonneg x) → T (nonneg y) → T (nonneg (x * y))
unfolding ◌*◌ nonneg
nonneg_* = both_up (λ x y. T (nonneg x) → T (nonneg y) → T (nonneg (x * y))) (λ x y. Π_prop (λ s. Π_prop (λ t. T_prop (nonneg (x * y)))))
    (λ a b. non_neg_* a.num b.num)

not_nonneg : (z : ℤ) → T (not (non_neg z)) → T (non_neg (neg_ℤ z))
not_nonneg (pos n) t = absurd t
not_nonneg (negsuc n) t = tt

other_sign : (a : Frac) → T (not (nonneg (cls a))) → T (nonneg (neg (cls a)))
unfolding nonneg neg
other_sign a = not_nonneg a.num

pub sign : (x : ℚ) → T (nonneg x) ⊎ T (nonneg (neg x))
sign x = go (nonneg x) (ind {β = λ x. T (not (nonneg x)) → T (nonneg (neg x))} (λ x. Π_prop (λ t. T_prop (nonneg (neg x)))) other_sign x)
  where
    go : (b : Bool) → (T (not b) → T (nonneg (neg x))) → T b ⊎ T (nonneg (neg x))
    go true f = inl tt
    go false f = inr (f tt)

both_signs : (z : ℤ) → T (non_neg z) → T (non_neg (neg_ℤ z)) → T (is_zero z)
both_signs (pos zero) s t = tt
both_signs (pos (suc n)) s t = absurd t
both_signs (negsuc n) s t = absurd s

pub no_sign : (x : ℚ) → T (nonneg x) → T (nonneg (neg x)) → x ≡ cls 0ᶠ
unfolding nonneg neg
no_sign = ind {β = λ x. T (nonneg x) → T (nonneg (neg x)) → x ≡ cls 0ᶠ} (λ x. Π_prop (λ s. Π_prop (λ t. ℚ_set x (cls 0ᶠ))))
    (λ a s t. none_is a (both_signs a.num s t))

pub only_zero : (x : ℚ) → T (nonneg (neg (x * x))) → T (nonneg (neg x))
unfolding ◌*◌ nonneg neg
only_zero = ind {β = λ x. T (nonneg (neg (x * x))) → T (nonneg (neg x))} (λ x. Π_prop (λ t. T_prop (nonneg (neg x)))) (λ a. square_zero a.num)

pub cut_ℚ : (x c : ℚ) → T (not (nonneg (neg c))) → T (nonneg (neg (x * c))) → T (nonneg (neg x))
unfolding ◌*◌ nonneg neg
cut_ℚ = both_up (λ x c. T (not (nonneg (neg c))) → T (nonneg (neg (x * c))) → T (nonneg (neg x))) (λ x c. Π_prop (λ s. Π_prop (λ t. T_prop (nonneg (neg x)))))
    (λ a b. cut a.num b.num)

pub nonneg_square : (x : ℚ) → T (nonneg (x * x))
nonneg_square x = go (sign x)
  where
    go : T (nonneg x) ⊎ T (nonneg (neg x)) → T (nonneg (x * x))
    go (inl t) = nonneg_* x x t t
    go (inr t) = subst (λ z. T (nonneg z)) (ring (x ▸ ∅) (λ x. ⊖ x ⊗ ⊖ x ≐ x ⊗ x) tt) (nonneg_* (neg x) (neg x) t t)

-- ---- the order

infix 50 ◌≤◌ ◌<◌
pub record ◌<◌ (x y : ℚ) : Type 0 where
  pub by : T (not (nonneg (x - y)))

pub record ◌≤◌ (x y : ℚ) : Type 0 where
  pub by : T (nonneg (y - x))

-- it is that of the fractions
pub from_frac : (a b : Frac) → a ≤ᶠ b → cls a ≤ cls b
unfolding ◌+◌ neg nonneg
from_frac a b h = record { by = subst T (le_z_is (cross a b) (cross b a) ∙ ap (λ z. non_neg (cross b a +ℤ z)) (sym (neg_*ℤ a.num (pos (den b))))) h.by }

pub to_frac : (a b : Frac) → cls a ≤ cls b → a ≤ᶠ b
unfolding ◌+◌ neg nonneg
to_frac a b h = record { by = subst T (sym (le_z_is (cross a b) (cross b a) ∙ ap (λ z. non_neg (cross b a +ℤ z)) (sym (neg_*ℤ a.num (pos (den b)))))) h.by }

abbrev pub half : Frac
half = pos 1 over 2

-- ---- inequalities by certificates. `le (x ▸ y ▸ z ▸ ∅) (λ x y z. x ≼ y ⇒ λ h. y ≼ z ⇒ λ k. x ≼ z by h ⊞ k) tt` proves x ≤ y → y ≤ z → x ≤ z:
-- z − x is what the certificate h ⊞ k adds up to, and a number not below 0. A certificate is made of the assumptions, squares and numbers by sums and products.

infixl 60 ◌⊞◌
infixl 70 ◌⊠◌
pub data Cert : Type 0 where
  given : ℕ → Cert
  squared : Ex → Cert
  number : Frac → Cert
  ◌⊞◌ : Cert → Cert → Cert
  ◌⊠◌ : Cert → Cert → Cert

infix 30 ◌≼◌
pub data Claim : Type 0 where
  ◌≼◌ : Ex → Ex → Claim

infix 20 ◌by◌
infixr 10 ◌⇒◌
pub data Goal : Type 0 where
  ◌by◌ : Claim → Cert → Goal
  ◌⇒◌ : Claim → (Cert → Goal) → Goal

-- the right side less the left
abbrev pub gap : Claim → Ex
gap (l ≼ r) = r ⊝ l

abbrev pub Holds : Vars → Claim → Type 0
Holds v (l ≼ r) = val v l ≤ val v r

-- what a goal says, with k assumptions before it
abbrev pub Means : Vars → ℕ → Goal → Type 0
Means v k (c by p) = Holds v c
Means v k (c ⇒ f) = Holds v c → Means v (suc k) (f (given k))

abbrev pub total : (ℕ → Ex) → Cert → Ex
total g (given i) = g i
total g (squared e) = e ⊗ e
total g (number c) = con c
total g (c ⊞ d) = total g c ⊕ total g d
total g (c ⊠ d) = total g c ⊗ total g d

abbrev pub sound : Cert → Bool
sound (given i) = true
sound (squared e) = true
sound (number c) = non_neg c.num
sound (c ⊞ d) = sound c && sound d
sound (c ⊠ d) = sound c && sound d

-- a number not below 0
abbrev pub left : Poly Frac → Bool
left end = true
left (term [] c end) = non_neg c.num
left (term [] c (term n d p)) = false
left (term (x ∷ m) c p) = false

abbrev pub assume : ℕ → Ex → (ℕ → Ex) → ℕ → Ex
assume k e g i = elim (eqb i k) [ true ↦ e | false ↦ g i ]

abbrev pub proves : ℕ → (ℕ → Ex) → Goal → Bool
proves k g (c by p) = sound p && left (norm ℚ_coef (gap c ⊝ total g p))
proves k g (c ⇒ f) = proves (suc k) (assume k (gap c) g) (f (given k))

module _ (v : Vars) where
  Facts : (ℕ → Ex) → Type 0
  Facts g = (i : ℕ) → T (nonneg (val v (g i)))

  total_is : (g : ℕ → Ex) → Facts g → (p : Cert) → T (sound p) → T (nonneg (val v (total g p)))
  unfolding nonneg Facts
  total_is g h (given i) t = h i
  total_is g h (squared e) t = nonneg_square (val v e)
  total_is g h (number c) t = t
  total_is g h (c ⊞ d) t = nonneg_+ (val v (total g c)) (val v (total g d)) (total_is g h c (and_l (sound c) (sound d) t)) (total_is g h d (and_r (sound c) (sound d) t))
  total_is g h (c ⊠ d) t = nonneg_* (val v (total g c)) (val v (total g d)) (total_is g h c (and_l (sound c) (sound d) t)) (total_is g h d (and_r (sound c) (sound d) t))

  left_is : (p : Poly Frac) → T (left p) → T (nonneg (value v p))
  unfolding nonneg
  left_is end t = tt
  left_is (term [] c end) t = rw (ring (cls c ▸ ∅) (λ c. c ⊗ con 1ᶠ ⊕ con 0ᶠ ≐ c) tt) t
  left_is (term [] c (term n d p)) t = absurd t
  left_is (term (x ∷ m) c p) t = absurd t

  by_is : (g : ℕ → Ex) → Facts g → (c : Claim) (p : Cert) → T (sound p && left (norm ℚ_coef (gap c ⊝ total g p))) → Holds v c
  by_is g h (l ≼ r) p t = record {
    by = subst (λ z. T (nonneg z))
        (ring (val v l ▸ val v r ▸ val v (total g p) ▸ ∅) (λ l r s. s ⊕ (r ⊝ l ⊝ s) ≐ r ⊝ l) tt)
        (nonneg_+ (val v (total g p)) (val v (r ⊝ l ⊝ total g p)) (total_is g h p (and_l (sound p) _ t))
        (subst (λ z. T (nonneg z)) (value_norm v (r ⊝ l ⊝ total g p)) (left_is (norm ℚ_coef (r ⊝ l ⊝ total g p)) (and_r (sound p) _ t))));
  }

  gap_is : (c : Claim) → Holds v c → T (nonneg (val v (gap c)))
  gap_is (l ≼ r) h = h.by

  more : (k : ℕ) (e : Ex) (g : ℕ → Ex) → T (nonneg (val v e)) → Facts g → Facts (assume k e g)
  unfolding Facts
  more k e g t h i = elim (eqb i k) as (λ b. T (nonneg (val v (elim b [ true ↦ e | false ↦ g i ])))) [ true ↦ t | false ↦ h i ]

  proved : (k : ℕ) (g : ℕ → Ex) → Facts g → (c : Goal) → T (proves k g c) → Means v k c
  proved k g h (c by p) t = by_is g h c p t
  proved k g h (c ⇒ f) t = λ a. proved (suc k) (assume k (gap c) g) (more k (gap c) g (gap_is c a) h) (f (given k)) t

  abbrev pub nothing : ℕ → Ex
  nothing i = con 0ᶠ

  none : Facts nothing
  unfolding nonneg Facts
  none i = tt

pub le : (v : Vars) (f : Over v Goal) → T (proves zero (nothing v) (fill Goal zero v f)) → Means v zero (fill Goal zero v f)
le v f = proved v zero (nothing v) (none v) (fill Goal zero v f)

-- where `le v f tt` is refused, `f' : leftover v f ≡ end`, `f' = refl` is refused with the polynomial that the certificate leaves
abbrev residue : ℕ → (ℕ → Ex) → Goal → Poly Frac
residue k g (c by p) = norm ℚ_coef (gap c ⊝ total g p)
residue k g (c ⇒ f) = residue (suc k) (assume k (gap c) g) (f (given k))

abbrev pub leftover : (v : Vars) → Over v Goal → Poly Frac
leftover v f = residue zero (nothing v) (fill Goal zero v f)
