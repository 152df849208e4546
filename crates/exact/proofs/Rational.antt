-- The rational numbers: fractions, with those of equal cross products made equal. `≡` is equality here, so `rw`, `ap` and the solver apply.
use mathlib.Core.Path.{◌≡◌, refl, sym, ◌∙◌, ap, ap₂}
use mathlib.Core.Quot.{Quot, mk, sound, Quot-set, lift, ind}
use mathlib.Core.Bool.{Bool, Bool-set, not}
use mathlib.Core.List.{[], ◌∷◌}
use Prim.Native.Nat as N
use Prim.Native.Nat.{ℕ, zero, suc}
use native.Mathlib.Omega.{arith}
use lib.Dec.{T}
use lib.Signed.{non_neg}
use lib.IntN.{ℤ, pos, negsuc, neg_ℤ, ◌+ℤ◌, ◌*ℤ◌, +ℤ_comm, *ℤ_comm}
use native.Mathlib.Nat.{mul_comm}
use Rattle.exact.specs.Fraction as F
use Rattle.exact.specs.Fraction.{Frac, 0ᶠ, 1ᶠ, den, cross, whole, ◌≈◌, ◌over◌, ◌+ᶠ◌, ◌-ᶠ◌, ◌*ᶠ◌, inverse}
use Rattle.exact.specs.Quat.{Quat}
use Rattle.exact.proofs.Ring.{Ring, Coef, Into, Expr, var, con, ◌⊕◌, ◌⊗◌, ⊖◌, ⟦◌⟧, Poly, poly, norm, norm_is, empty, solve}
use Rattle.exact.proofs.Ints.{ℤ_solve, scaled, is_zero, is_zero_is, neg_*ℤ}

-- ---- cross products of sums and products

abbrev D : Frac → ℤ
D x = pos (den x)

-- the denominator of a sum and of a product
den_is : (a b : ℕ) → suc (N.◌-◌ (N.◌*◌ (suc a) (suc b)) 1) ≡ N.◌*◌ (suc a) (suc b)
den_is a b = omega arith

D_is : (x y : Frac) → D (x *ᶠ y) ≡ D x *ℤ D y
D_is x y = ap pos (den_is x.low y.low)

module _ (a b p q r : ℤ) where
  plus_ok : (c s t : ℤ) → s ≡ p *ℤ r → t ≡ q *ℤ r → a *ℤ q ≡ b *ℤ p → (a *ℤ r +ℤ c *ℤ p) *ℤ t ≡ (b *ℤ r +ℤ c *ℤ q) *ℤ s
  plus_ok c s t hs ht h = rw (hs, ht) (
      ℤ_solve (a ∷ c ∷ p ∷ q ∷ r ∷ []) ((var 0 ⊗ var 4 ⊕ var 1 ⊗ var 2) ⊗ (var 3 ⊗ var 4)) (var 0 ⊗ var 3 ⊗ (var 4 ⊗ var 4) ⊕ var 1 ⊗ var 2 ⊗ var 3 ⊗ var 4) tt
      ∙ ap (λ z. z *ℤ (r *ℤ r) +ℤ c *ℤ p *ℤ q *ℤ r) h
      ∙ ℤ_solve (b ∷ c ∷ p ∷ q ∷ r ∷ []) (var 0 ⊗ var 2 ⊗ (var 4 ⊗ var 4) ⊕ var 1 ⊗ var 2 ⊗ var 3 ⊗ var 4) ((var 0 ⊗ var 4 ⊕ var 1 ⊗ var 3) ⊗ (var 2 ⊗ var 4)) tt)

  times_ok : (c s t : ℤ) → s ≡ p *ℤ r → t ≡ q *ℤ r → a *ℤ q ≡ b *ℤ p → a *ℤ c *ℤ t ≡ b *ℤ c *ℤ s
  times_ok c s t hs ht h = rw (hs, ht) (
      ℤ_solve (a ∷ c ∷ q ∷ r ∷ []) (var 0 ⊗ var 1 ⊗ (var 2 ⊗ var 3)) (var 0 ⊗ var 2 ⊗ (var 1 ⊗ var 3)) tt
      ∙ ap (λ z. z *ℤ (c *ℤ r)) h
      ∙ ℤ_solve (b ∷ c ∷ p ∷ r ∷ []) (var 0 ⊗ var 2 ⊗ (var 1 ⊗ var 3)) (var 0 ⊗ var 1 ⊗ (var 2 ⊗ var 3)) tt)

  plus_assoc : (c s t u v : ℤ) → s ≡ p *ℤ q → t ≡ q *ℤ r → u ≡ s *ℤ r → v ≡ p *ℤ t
      → ((a *ℤ q +ℤ b *ℤ p) *ℤ r +ℤ c *ℤ s) *ℤ v ≡ (a *ℤ t +ℤ (b *ℤ r +ℤ c *ℤ q) *ℤ p) *ℤ u
  plus_assoc c s t u v hs ht hu hv = rw (hu, hv, hs, ht) (
      ℤ_solve (a ∷ b ∷ c ∷ p ∷ q ∷ r ∷ []) (((var 0 ⊗ var 4 ⊕ var 1 ⊗ var 3) ⊗ var 5 ⊕ var 2 ⊗ (var 3 ⊗ var 4)) ⊗ (var 3 ⊗ (var 4 ⊗ var 5)))
      ((var 0 ⊗ (var 4 ⊗ var 5) ⊕ (var 1 ⊗ var 5 ⊕ var 2 ⊗ var 4) ⊗ var 3) ⊗ (var 3 ⊗ var 4 ⊗ var 5)) tt)

  times_assoc : (c s t u v : ℤ) → s ≡ p *ℤ q → t ≡ q *ℤ r → u ≡ s *ℤ r → v ≡ p *ℤ t → a *ℤ b *ℤ c *ℤ v ≡ a *ℤ (b *ℤ c) *ℤ u
  times_assoc c s t u v hs ht hu hv = rw (hu, hv, hs, ht) (
      ℤ_solve (a ∷ b ∷ c ∷ p ∷ q ∷ r ∷ []) (var 0 ⊗ var 1 ⊗ var 2 ⊗ (var 3 ⊗ (var 4 ⊗ var 5))) (var 0 ⊗ (var 1 ⊗ var 2) ⊗ (var 3 ⊗ var 4 ⊗ var 5)) tt)

  distribute : (c s t u v w : ℤ) → s ≡ p *ℤ q → t ≡ p *ℤ r → u ≡ q *ℤ r → v ≡ s *ℤ r → w ≡ t *ℤ u
      → (a *ℤ q +ℤ b *ℤ p) *ℤ c *ℤ w ≡ (a *ℤ c *ℤ u +ℤ b *ℤ c *ℤ t) *ℤ v
  distribute c s t u v w hs ht hu hv hw = rw (hv, hw, hs, ht, hu) (
      ℤ_solve (a ∷ b ∷ c ∷ p ∷ q ∷ r ∷ []) ((var 0 ⊗ var 4 ⊕ var 1 ⊗ var 3) ⊗ var 2 ⊗ (var 3 ⊗ var 5 ⊗ (var 4 ⊗ var 5)))
      ((var 0 ⊗ var 2 ⊗ (var 4 ⊗ var 5) ⊕ var 1 ⊗ var 2 ⊗ (var 3 ⊗ var 5)) ⊗ (var 3 ⊗ var 4 ⊗ var 5)) tt)

module _ (a p s : ℤ) where
  zero_ok : s ≡ pos 1 *ℤ p → (pos 0 *ℤ p +ℤ a *ℤ pos 1) *ℤ p ≡ a *ℤ s
  zero_ok h = rw h (ℤ_solve (a ∷ p ∷ []) ((con (pos 0) ⊗ var 1 ⊕ var 0 ⊗ con (pos 1)) ⊗ var 1) (var 0 ⊗ (con (pos 1) ⊗ var 1)) tt)

  one_ok : s ≡ pos 1 *ℤ p → pos 1 *ℤ a *ℤ p ≡ a *ℤ s
  one_ok h = rw h (ℤ_solve (a ∷ p ∷ []) (con (pos 1) ⊗ var 0 ⊗ var 1) (var 0 ⊗ (con (pos 1) ⊗ var 1)) tt)

  neg_ok : (a *ℤ p +ℤ neg_ℤ a *ℤ p) *ℤ pos 1 ≡ pos 0 *ℤ s
  neg_ok = ℤ_solve (a ∷ p ∷ s ∷ []) ((var 0 ⊗ var 1 ⊕ ⊖ var 0 ⊗ var 1) ⊗ con (pos 1)) (con (pos 0) ⊗ var 2) tt

-- ---- the type and its operations

abbrev pub ℚ : Type 0
ℚ = Quot ◌≈◌

pub ℚ_set : IsSet ℚ
ℚ_set = Quot-set

abbrev pub cls : Frac → ℚ
cls x = mk x

abbrev lift₂ : {B : Type 0} → IsSet B → (f : Frac → Frac → B) → ((x x' y : Frac) → x ≈ x' → f x y ≡ f x' y) → ((x y y' : Frac) → y ≈ y' → f x y ≡ f x y') → ℚ → ℚ → B
lift₂ set f l r p q = lift set (λ x. lift set (f x) (r x) q) (λ x x' h. ind {β = λ q. lift set (f x) (r x) q ≡ lift set (f x') (r x') q} (λ q. set _ _) (λ y. l x x' y h) q) p

swap_over : {m n : ℤ} {k l : ℕ} → m ≡ n → k ≡ l → cls (m over k) ≡ cls (n over l)
swap_over p q = ap₂ (λ (n : ℤ) (d : ℕ). cls (n over d)) p q

pub plus_comm : (x y : Frac) → cls (x +ᶠ y) ≡ cls (y +ᶠ x)
plus_comm x y = swap_over (+ℤ_comm (cross x y) (cross y x)) (mul_comm (den x) (den y))

pub times_comm : (x y : Frac) → cls (x *ᶠ y) ≡ cls (y *ᶠ x)
times_comm x y = swap_over (*ℤ_comm x.num y.num) (mul_comm (den x) (den y))

pub plus_left : (x x' y : Frac) → x ≈ x' → cls (x +ᶠ y) ≡ cls (x' +ᶠ y)
plus_left x x' y h = sound (plus_ok x.num x'.num (D x) (D x') (D y) y.num (D (x +ᶠ y)) (D (x' +ᶠ y)) (D_is x y) (D_is x' y) h)

pub times_left : (x x' y : Frac) → x ≈ x' → cls (x *ᶠ y) ≡ cls (x' *ᶠ y)
times_left x x' y h = sound (times_ok x.num x'.num (D x) (D x') (D y) y.num (D (x *ᶠ y)) (D (x' *ᶠ y)) (D_is x y) (D_is x' y) h)

pub neg_at : (x y : Frac) → x ≈ y → cls (F.neg x) ≡ cls (F.neg y)
neg_at x y h = sound (neg_*ℤ x.num (D y) ∙ ap neg_ℤ h ∙ sym (neg_*ℤ y.num (D x)))

pub sign_at : (x y : Frac) → x ≈ y → non_neg x.num ≡ non_neg y.num
sign_at x y h = sym (scaled x.num y.low) ∙ ap non_neg h ∙ scaled y.num x.low

infixl 60 ◌+◌ ◌-◌
infixl 70 ◌*◌
unfoldable pub ◌+◌ : ℚ → ℚ → ℚ
◌+◌ = lift₂ ℚ_set (λ x y. cls (x +ᶠ y)) plus_left (λ x y y' h. plus_comm x y ∙ plus_left y y' x h ∙ plus_comm y' x)

unfoldable pub ◌*◌ : ℚ → ℚ → ℚ
◌*◌ = lift₂ ℚ_set (λ x y. cls (x *ᶠ y)) times_left (λ x y y' h. times_comm x y ∙ times_left y y' x h ∙ times_comm y' x)

unfoldable pub neg : ℚ → ℚ
neg = lift ℚ_set (λ x. cls (F.neg x)) neg_at

abbrev pub ◌-◌ : ℚ → ℚ → ℚ
x - y = x + neg y

unfoldable pub nonneg : ℚ → Bool
nonneg = lift Bool-set (λ x. non_neg x.num) sign_at

-- ---- a ring

module _ (f g : ℚ → ℚ → ℚ → ℚ) where
  at_all : ((a b c : Frac) → f (cls a) (cls b) (cls c) ≡ g (cls a) (cls b) (cls c)) → (x y z : ℚ) → f x y z ≡ g x y z
  at_all h x y z = ind {β = λ x. f x y z ≡ g x y z} (λ x. ℚ_set _ _)
      (λ a. ind {β = λ y. f (cls a) y z ≡ g (cls a) y z} (λ y. ℚ_set _ _)
      (λ b. ind {β = λ z. f (cls a) (cls b) z ≡ g (cls a) (cls b) z} (λ z. ℚ_set _ _) (λ c. h a b c) z) y) x

pub +_assoc : (x y z : ℚ) → x + y + z ≡ x + (y + z)
unfolding ◌+◌
+_assoc = at_all (λ x y z. x + y + z) (λ x y z. x + (y + z)) λ a b c. sound
    (plus_assoc a.num b.num (D a) (D b) (D c) c.num _ _ _ _ (D_is a b) (D_is b c) (D_is (a +ᶠ b) c) (D_is a (b +ᶠ c)))

pub *_assoc : (x y z : ℚ) → x * y * z ≡ x * (y * z)
unfolding ◌*◌
*_assoc = at_all (λ x y z. x * y * z) (λ x y z. x * (y * z)) λ a b c. sound
    (times_assoc a.num b.num (D a) (D b) (D c) c.num _ _ _ _ (D_is a b) (D_is b c) (D_is (a *ᶠ b) c) (D_is a (b *ᶠ c)))

pub *_+ : (x y z : ℚ) → (x + y) * z ≡ x * z + y * z
unfolding ◌+◌ ◌*◌
*_+ = at_all (λ x y z. (x + y) * z) (λ x y z. x * z + y * z) λ a b c. sound
    (distribute a.num b.num (D a) (D b) (D c) c.num _ _ _ _ _ (D_is a b) (D_is a c) (D_is b c) (D_is (a +ᶠ b) c) (D_is (a *ᶠ c) (b *ᶠ c)))

pub +_comm : (x y : ℚ) → x + y ≡ y + x
unfolding ◌+◌
+_comm x y = at_all (λ x y z. x + y) (λ x y z. y + x) (λ a b c. plus_comm a b) x y x

pub *_comm : (x y : ℚ) → x * y ≡ y * x
unfolding ◌*◌
*_comm x y = at_all (λ x y z. x * y) (λ x y z. y * x) (λ a b c. times_comm a b) x y x

pub +_zero : (x : ℚ) → cls 0ᶠ + x ≡ x
unfolding ◌+◌
+_zero x = at_all (λ x y z. cls 0ᶠ + x) (λ x y z. x) (λ a b c. sound (zero_ok a.num (D a) _ (D_is 0ᶠ a))) x x x

pub *_one : (x : ℚ) → cls 1ᶠ * x ≡ x
unfolding ◌*◌
*_one x = at_all (λ x y z. cls 1ᶠ * x) (λ x y z. x) (λ a b c. sound (one_ok a.num (D a) _ (D_is 1ᶠ a))) x x x

pub +_neg : (x : ℚ) → x - x ≡ cls 0ᶠ
unfolding ◌+◌ neg
+_neg x = at_all (λ x y z. x - x) (λ x y z. cls 0ᶠ) (λ a b c. sound (neg_ok a.num (D a) (D (a -ᶠ a)))) x x x

abbrev pub ℚ_ring : Ring ℚ
ℚ_ring = record {
  0# = cls 0ᶠ;
  1# = cls 1ᶠ;
  ◌+◌ = ◌+◌;
  ◌*◌ = ◌*◌;
  neg = neg;
  +_assoc = +_assoc;
  +_comm = +_comm;
  +_zero = +_zero;
  +_neg = +_neg;
  *_assoc = *_assoc;
  *_comm = *_comm;
  *_one = *_one;
  *_+ = *_+;
}

-- coefficients are fractions, which compute
abbrev pub ℚ_coef : Coef Frac
ℚ_coef = record { unit = 1ᶠ; plus = ◌+ᶠ◌; times = ◌*ᶠ◌; minus = F.neg; none = λ c. is_zero c.num }

pub none_is : (c : Frac) → T (is_zero c.num) → cls c ≡ cls 0ᶠ
none_is c t = sound (ap (λ z. z *ℤ pos 1) (is_zero_is c.num t) ∙ ℤ_solve (D c ∷ []) (con (pos 0) ⊗ con (pos 1)) (con (pos 0) ⊗ var 0) tt)

pub plus_cls : (c d : Frac) → cls (c +ᶠ d) ≡ cls c + cls d
unfolding ◌+◌
plus_cls c d = refl

pub times_cls : (c d : Frac) → cls (c *ᶠ d) ≡ cls c * cls d
unfolding ◌*◌
times_cls c d = refl

pub neg_cls : (c : Frac) → cls (F.neg c) ≡ neg (cls c)
unfolding neg
neg_cls c = refl

-- whole numbers add and multiply as rational numbers do
pub whole_+ : (a b : ℤ) → cls (whole (a +ℤ b)) ≡ cls (whole a) + cls (whole b)
unfolding ◌+◌
whole_+ a b = sound (ℤ_solve (a ∷ b ∷ []) ((var 0 ⊕ var 1) ⊗ con (pos 1)) ((var 0 ⊗ con (pos 1) ⊕ var 1 ⊗ con (pos 1)) ⊗ con (pos 1)) tt)

pub whole_* : (a b : ℤ) → cls (whole (a *ℤ b)) ≡ cls (whole a) * cls (whole b)
whole_* a b = times_cls (whole a) (whole b)

pub whole_neg : (a : ℤ) → cls (whole (neg_ℤ a)) ≡ neg (cls (whole a))
whole_neg a = neg_cls (whole a)

abbrev pub ℚ_into : Into ℚ_coef ℚ_ring
ℚ_into = record { at = λ c. cls c; unit = refl; plus = plus_cls; times = times_cls; minus = neg_cls; none = none_is }

-- ---- division

turn : (n l : ℕ) → pos (N.◌*◌ (suc n) (suc l)) *ℤ pos 1 ≡ pos 1 *ℤ pos (suc (N.◌-◌ (N.◌*◌ (suc l) (suc n)) 1))
turn n l = ap pos (at n l)
  where
    at : (n l : ℕ) → N.◌*◌ (N.◌*◌ (suc n) (suc l)) 1 ≡ N.◌*◌ 1 (suc (N.◌-◌ (N.◌*◌ (suc l) (suc n)) 1))
    at n l = omega arith

pub inverse_is : (x : Frac) → T (not (is_zero x.num)) → cls x * cls (inverse x) ≡ cls 1ᶠ
unfolding ◌*◌
inverse_is x t = go x.num x.low t
  where
    go : (n : ℤ) (l : ℕ) → T (not (is_zero n)) → cls (record { num = n; low = l }) * cls (inverse (record { num = n; low = l })) ≡ cls 1ᶠ
    go (pos zero) l t = absurd t
    go (pos (suc n)) l t = sound (turn n l)
    go (negsuc n) l t = sound (turn n l)

-- a fraction is its numerator times one over its denominator
pub frac_is : (x : Frac) → cls x ≡ cls (whole x.num) * cls ((pos 1) over (den x))
unfolding ◌*◌
frac_is x = sound (ap (λ (n : ℕ). x.num *ℤ pos n) (same x.low) ∙ ℤ_solve (x.num ∷ D x ∷ []) (var 0 ⊗ var 1) (var 0 ⊗ con (pos 1) ⊗ var 1) tt)
  where
    same : (n : ℕ) → suc (N.◌-◌ (N.◌*◌ 1 (suc (N.◌-◌ (suc n) 1))) 1) ≡ suc n
    same n = omega arith

-- ---- the solver: `ring (x ▸ y ▸ ∅) (λ x y. x ⊗ y ≐ y ⊗ x) tt` proves x * y ≡ y * x. A quaternion's four numbers go in by `q ▹`.

abbrev pub Ex : Type 0
Ex = Expr Frac

infixr 40 ◌▸◌ ◌▹◌
pub data Vars : Type 0 where
  ∅ : Vars
  ◌▸◌ : ℚ → Vars → Vars
  ◌▹◌ : Quat ℚ → Vars → Vars

abbrev pub env : Vars → ℕ → ℚ
env ∅ i = cls 0ᶠ
env (x ▸ v) zero = x
env (x ▸ v) (suc i) = env v i
env (q ▹ v) zero = q.x
env (q ▹ v) (suc zero) = q.y
env (q ▹ v) (suc (suc zero)) = q.z
env (q ▹ v) (suc (suc (suc zero))) = q.w
env (q ▹ v) (suc (suc (suc (suc i)))) = env v i

-- a function of the variables, and what it is of the variables k, k + 1, …
abbrev pub Over : Vars → Type 0 → Type 0
Over ∅ B = B
Over (x ▸ v) B = Ex → Over v B
Over (q ▹ v) B = Quat Ex → Over v B

abbrev pub fill : (B : Type 0) (k : ℕ) (v : Vars) → Over v B → B
fill B k ∅ b = b
fill B k (x ▸ v) f = fill B (suc k) v (f (var k))
fill B k (q ▹ v) f = fill B (suc (suc (suc (suc k)))) v (f (record { x = var k; y = var (suc k); z = var (suc (suc k)); w = var (suc (suc (suc k))) }))

abbrev pub val : Vars → Ex → ℚ
val v e = ⟦◌⟧ ℚ_coef ℚ_ring ℚ_into (env v) e

abbrev pub value : Vars → Poly Frac → ℚ
value v p = poly ℚ_coef ℚ_ring ℚ_into (env v) p

pub value_norm : (v : Vars) (e : Ex) → value v (norm ℚ_coef e) ≡ val v e
value_norm v e = norm_is ℚ_coef ℚ_ring ℚ_into (env v) e

infix 30 ◌≐◌
pub data Equation : Type 0 where
  ◌≐◌ : Ex → Ex → Equation

abbrev pub Says : Vars → Equation → Type 0
Says v (e ≐ f) = val v e ≡ val v f

abbrev pub true_of : Equation → Bool
true_of (e ≐ f) = empty ℚ_coef (norm ℚ_coef (e ⊕ ⊖ f))

pub solved : (v : Vars) (q : Equation) → T (true_of q) → Says v q
solved v (e ≐ f) = solve ℚ_coef ℚ_ring ℚ_into (env v) e f

pub ring : (v : Vars) (f : Over v Equation) → T (true_of (fill Equation zero v f)) → Says v (fill Equation zero v f)
ring v f = solved v (fill Equation zero v f)
