-- Polynomials in one variable: the list of their coefficients, the constant first. Sums, products and compositions compute, and so does a bound of the
-- value: |c₀ + c₁ x + …| ≤ |c₀| + |c₁| m + … where |x| ≤ m. The coefficients are whole numbers, or such polynomials in another variable.
use mathlib.Core.Path.{◌≡◌, refl, sym, ◌∙◌, ap, ap₂, subst}
use mathlib.Core.List.{List, [], ◌∷◌, map}
use Prim.Native.Nat as N
use Prim.Native.Nat.{ℕ}
use lib.IntN.{ℤ, pos, neg_ℤ, ◌+ℤ◌, ◌*ℤ◌, nat_abs}
use Rattle.exact.specs.Fraction.{whole, ◌over◌}
use Rattle.exact.proofs.Ring.{◌⊕◌, ◌⊗◌, ⊖◌}
use Rattle.exact.proofs.Rational.{ℚ, cls, ◌+◌, ◌*◌, neg, whole_+, whole_*, whole_neg, ∅, ◌▸◌, ◌≐◌, ring}
use Rattle.exact.proofs.Order.{◌≤◌}
use Rattle.exact.proofs.Within.{0#, 0ₑ, num, num_+, num_*, ≤_refl, ◌within◌, within_+, within_*, within_self, within_at}
use Rattle.exact.proofs.Numbers.{abs_is, divide}

-- ---- coefficients: operations that compute, with a bound

pub record Num (C : Type 0) : Type 0 where
  pub zero : C
  pub plus : C → C → C
  pub times : C → C → C
  pub minus : C → C
  pub size : C → ℕ

pub record Means {C : Type 0} (K : Num C) : Type 0 where
  pub at : C → ℚ
  pub zero : at K.zero ≡ 0#
  pub plus : (c d : C) → at (K.plus c d) ≡ at c + at d
  pub times : (c d : C) → at (K.times c d) ≡ at c * at d
  pub minus : (c : C) → at (K.minus c) ≡ neg (at c)
  pub size : (c : C) → at c within num (K.size c)

module _ {C : Type 0} (K : Num C) where
  abbrev pub add : List C → List C → List C
  add [] q = q
  add (c ∷ p) [] = c ∷ p
  add (c ∷ p) (d ∷ q) = K.plus c d ∷ add p q

  abbrev pub scale : C → List C → List C
  scale c = map (K.times c)

  abbrev pub mul : List C → List C → List C
  mul [] q = []
  mul (c ∷ p) q = add (scale c q) (K.zero ∷ mul p q)

  abbrev pub opposite : List C → List C
  opposite = map K.minus

  -- p at q
  abbrev pub compose : List C → List C → List C
  compose [] q = []
  compose (c ∷ p) q = add (c ∷ []) (mul q (compose p q))

  abbrev pub derivative : List C → List C
  derivative [] = []
  derivative (c ∷ p) = add p (K.zero ∷ derivative p)

  abbrev pub bound : ℕ → List C → ℕ
  bound m [] = 0
  bound m (c ∷ p) = N.◌+◌ (K.size c) (N.◌*◌ m (bound m p))

  -- a bound of (p (x + h) − p x − h p' x) / h²
  abbrev pub bend : ℕ → List C → ℕ
  bend m [] = 0
  bend m (c ∷ p) = N.◌+◌ (N.◌*◌ m (bend m p)) (bound m (derivative p))

abbrev pub ℤ_num : Num ℤ
ℤ_num = record { zero = pos 0; plus = ◌+ℤ◌; times = ◌*ℤ◌; minus = neg_ℤ; size = nat_abs }

abbrev pub ℤ_means : Means ℤ_num
ℤ_means = record { at = λ z. cls (whole z); zero = refl; plus = whole_+; times = whole_*; minus = whole_neg; size = abs_is }

-- ---- the value of a polynomial, and its laws

module _ {C : Type 0} (K : Num C) (M : Means K) where
  unfoldable pub ev : List C → ℚ → ℚ
  ev [] x = 0#
  ev (c ∷ p) x = M.at c + x * ev p x

  pub add_is : (p q : List C) (x : ℚ) → ev (add K p q) x ≡ ev p x + ev q x
  unfolding ev
  add_is [] q x = ring (ev q x ▸ ∅) (λ q. q ≐ 0ₑ ⊕ q) tt
  add_is (c ∷ p) [] x = ring (ev (c ∷ p) x ▸ ∅) (λ p. p ≐ p ⊕ 0ₑ) tt
  add_is (c ∷ p) (d ∷ q) x = ap₂ (λ u v. u + x * v) (M.plus c d) (add_is p q x)
      ∙ ring (M.at c ▸ M.at d ▸ x ▸ ev p x ▸ ev q x ▸ ∅) (λ c d x p q. c ⊕ d ⊕ x ⊗ (p ⊕ q) ≐ c ⊕ x ⊗ p ⊕ (d ⊕ x ⊗ q)) tt

  pub scale_is : (c : C) (q : List C) (x : ℚ) → ev (scale K c q) x ≡ M.at c * ev q x
  unfolding ev
  scale_is c [] x = ring (M.at c ▸ ∅) (λ c. 0ₑ ≐ c ⊗ 0ₑ) tt
  scale_is c (d ∷ q) x = ap₂ (λ u v. u + x * v) (M.times c d) (scale_is c q x)
      ∙ ring (M.at c ▸ M.at d ▸ x ▸ ev q x ▸ ∅) (λ c d x q. c ⊗ d ⊕ x ⊗ (c ⊗ q) ≐ c ⊗ (d ⊕ x ⊗ q)) tt

  -- 0 + x v
  pub shift_is : (p : List C) (x : ℚ) → ev (K.zero ∷ p) x ≡ x * ev p x
  unfolding ev
  shift_is p x = ap (λ u. u + x * ev p x) M.zero ∙ ring (x ▸ ev p x ▸ ∅) (λ x p. 0ₑ ⊕ x ⊗ p ≐ x ⊗ p) tt

  pub mul_is : (p q : List C) (x : ℚ) → ev (mul K p q) x ≡ ev p x * ev q x
  unfolding ev
  mul_is [] q x = ring (ev q x ▸ ∅) (λ q. 0ₑ ≐ 0ₑ ⊗ q) tt
  mul_is (c ∷ p) q x = add_is (scale K c q) (K.zero ∷ mul K p q) x ∙ ap₂ (λ u v. u + v) (scale_is c q x) (shift_is (mul K p q) x ∙ ap (λ v. x * v) (mul_is p q x))
      ∙ ring (M.at c ▸ x ▸ ev p x ▸ ev q x ▸ ∅) (λ c x p q. c ⊗ q ⊕ x ⊗ (p ⊗ q) ≐ (c ⊕ x ⊗ p) ⊗ q) tt

  pub opposite_is : (p : List C) (x : ℚ) → ev (opposite K p) x ≡ neg (ev p x)
  unfolding ev
  opposite_is [] x = ring ∅ (0ₑ ≐ ⊖ 0ₑ) tt
  opposite_is (c ∷ p) x = ap₂ (λ u v. u + x * v) (M.minus c) (opposite_is p x)
      ∙ ring (M.at c ▸ x ▸ ev p x ▸ ∅) (λ c x p. ⊖ c ⊕ x ⊗ ⊖ p ≐ ⊖ (c ⊕ x ⊗ p)) tt

  pub const_is : (c : C) (x : ℚ) → ev (c ∷ []) x ≡ M.at c
  unfolding ev
  const_is c x = ring (M.at c ▸ x ▸ ∅) (λ c x. c ⊕ x ⊗ 0ₑ ≐ c) tt

  -- a + b x
  pub line_is : (a b : C) (x : ℚ) → ev (a ∷ b ∷ []) x ≡ M.at a + x * M.at b
  unfolding ev
  line_is a b x = ap (λ v. M.at a + x * v) (const_is b x)

  pub compose_is : (p q : List C) (x : ℚ) → ev (compose K p q) x ≡ ev p (ev q x)
  unfolding ev
  compose_is [] q x = refl
  compose_is (c ∷ p) q x = add_is (c ∷ []) (mul K q (compose K p q)) x
      ∙ ap₂ (λ u v. u + v) (const_is c x) (mul_is q (compose K p q) x ∙ ap (λ v. ev q x * v) (compose_is p q x))

  pub derivative_is : (c : C) (p : List C) (x : ℚ) → ev (derivative K (c ∷ p)) x ≡ ev p x + x * ev (derivative K p) x
  derivative_is c p x = add_is p (K.zero ∷ derivative K p) x ∙ ap (λ v. ev p x + v) (shift_is (derivative K p) x)

  pub bound_is : (p : List C) {x : ℚ} {m : ℕ} → x within num m → ev p x within num (bound K m p)
  unfolding ev
  bound_is [] h = within_self (≤_refl 0#)
  bound_is (c ∷ p) {x} {m} h = subst (λ b. M.at c + x * ev p x within b) (ap (λ b. num (K.size c) + b) (sym (num_* m (bound K m p))) ∙ sym (num_+ (K.size c) (N.◌*◌ m (bound K m p))))
      (within_+ (M.size c) (within_* h (bound_is p h)))

  -- ---- how far the value is from its tangent

  unfoldable pub turn_off : List C → ℚ → ℚ → ℚ
  turn_off [] x h = 0#
  turn_off (c ∷ p) x h = (x + h) * turn_off p x h + ev (derivative K p) x

  pub tangent : (p : List C) (x h : ℚ) → ev p (x + h) ≡ ev p x + h * ev (derivative K p) x + h * h * turn_off p x h
  unfolding ev turn_off
  tangent [] x h = ring (h ▸ ∅) (λ h. 0ₑ ≐ 0ₑ ⊕ h ⊗ 0ₑ ⊕ h ⊗ h ⊗ 0ₑ) tt
  tangent (c ∷ p) x h = ap (λ v. M.at c + (x + h) * v) (tangent p x h)
      ∙ ring (M.at c ▸ x ▸ h ▸ ev p x ▸ ev (derivative K p) x ▸ turn_off p x h ▸ ∅) (λ c x h p d t. c ⊕ (x ⊕ h) ⊗ (p ⊕ h ⊗ d ⊕ h ⊗ h ⊗ t) ≐ c ⊕ x ⊗ p ⊕ h ⊗ (p ⊕ x ⊗ d) ⊕ h ⊗ h ⊗ ((x ⊕ h) ⊗ t ⊕ d)) tt
      ∙ ap (λ v. M.at c + x * ev p x + h * v + h * h * ((x + h) * turn_off p x h + ev (derivative K p) x)) (sym (derivative_is c p x))

  pub bend_is : (p : List C) {x : ℚ} (h : ℚ) {m : ℕ} → x within num m → x + h within num m → turn_off p x h within num (bend K m p)
  unfolding turn_off
  bend_is [] h hx hy = within_self (≤_refl 0#)
  bend_is (c ∷ p) {x} h {m} hx hy = subst (λ b. (x + h) * turn_off p x h + ev (derivative K p) x within b)
      (ap (λ b. b + num (bound K m (derivative K p))) (sym (num_* m (bend K m p))) ∙ sym (num_+ (N.◌*◌ m (bend K m p)) (bound K m (derivative K p))))
      (within_+ (within_* hy (bend_is p h hx hy)) (bound_is (derivative K p) hx))

-- ---- expressions of polynomials: what they come to, and what they mean

infixl 60 ◌⊹◌
infixl 70 ◌⊛◌
infix 75 ◌at◌
infix 80 ~◌
pub data Px (C : Type 0) : Type 0 where
  leaf : List C → Px C
  ◌⊹◌ : Px C → Px C → Px C
  ◌⊛◌ : Px C → Px C → Px C
  ~◌ : Px C → Px C
  ◌at◌ : List C → Px C → Px C

module _ {C : Type 0} (K : Num C) where
  abbrev pub flat : Px C → List C
  flat (leaf p) = p
  flat (a ⊹ b) = add K (flat a) (flat b)
  flat (a ⊛ b) = mul K (flat a) (flat b)
  flat (~ a) = opposite K (flat a)
  flat (p at a) = compose K p (flat a)

module _ {C : Type 0} (K : Num C) (M : Means K) (x : ℚ) where
  abbrev pub mean : Px C → ℚ
  mean (leaf p) = ev K M p x
  mean (a ⊹ b) = mean a + mean b
  mean (a ⊛ b) = mean a * mean b
  mean (~ a) = neg (mean a)
  mean (p at a) = ev K M p (mean a)

  pub flat_is : (e : Px C) → ev K M (flat K e) x ≡ mean e
  flat_is (leaf p) = refl
  flat_is (a ⊹ b) = add_is K M (flat K a) (flat K b) x ∙ ap₂ (λ u v. u + v) (flat_is a) (flat_is b)
  flat_is (a ⊛ b) = mul_is K M (flat K a) (flat K b) x ∙ ap₂ (λ u v. u * v) (flat_is a) (flat_is b)
  flat_is (~ a) = opposite_is K M (flat K a) x ∙ ap neg (flat_is a)
  flat_is (p at a) = compose_is K M p (flat K a) x ∙ ap (λ v. ev K M p v) (flat_is a)

  -- its value is bounded by computing; and where that is κ y, so is y
  pub flat_bound : (e : Px C) {m : ℕ} → x within num m → mean e within num (bound K m (flat K e))
  flat_bound e h = within_at (flat_is e) (bound_is K M (flat K e) h)

  pub flat_over : (e : Px C) (κ : ℕ) {m : ℕ} {y z : ℚ} → N.◌<◌ 0 κ → x within num m → mean e ≡ num κ * y → num (bound K m (flat K e)) * cls (pos 1 over κ) ≤ z → y within z
  flat_over e κ p h is b = divide κ p (within_at is (flat_bound e h)) b

-- polynomials in x with |x| ≤ m, as coefficients of polynomials in another variable
module _ {C : Type 0} (K : Num C) (M : Means K) (m : ℕ) where
  abbrev pub poly_num : Num (List C)
  poly_num = record { zero = []; plus = add K; times = mul K; minus = opposite K; size = bound K m }

  pub zero_is : (x : ℚ) → ev K M [] x ≡ 0#
  unfolding ev
  zero_is x = refl

  abbrev pub poly_means : (x : ℚ) → x within num m → Means poly_num
  poly_means x h = record { at = λ p. ev K M p x; zero = zero_is x; plus = λ p q. add_is K M p q x; times = λ p q. mul_is K M p q x; minus = λ p. opposite_is K M p x; size = λ p. bound_is K M p h }
