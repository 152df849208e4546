-- Error analysis: `x within m` says |x| ≤ m, and `x ≈⟨ e ⟩ X` that x is within e of X. Sums and products of such, and closed bounds by computing.
use mathlib.Core.Path.{◌≡◌, refl, sym, ◌∙◌, ap, subst}
use mathlib.Core.Bool.{Bool, not, ◌&&◌}
use native.Mathlib.Omega.{arith}
use native.Mathlib.Numerals.{add-one}
use Prim.Native.Nat as N
use Prim.Native.Nat.{ℕ, zero, suc}
use mathlib.Core.Logic.{◌⊎◌, inl, inr}
use lib.Dec.{T, leb→le, le→leb, T_not, not_T}
use lib.IntN.{ℤ, pos, negsuc}
use lib.Signed.{non_neg}
use Rattle.exact.specs.Fraction.{Frac, 0ᶠ, 1ᶠ, whole, part, ◌over◌, inverse}
use Rattle.exact.proofs.Ring.{con, ◌⊕◌, ◌⊗◌, ⊖◌, ◌⊝◌}
use Rattle.exact.proofs.Ints.{is_zero}
use Rattle.exact.proofs.Rational.{ℚ, cls, whole_+, whole_*, inverse_is, ◌+◌, ◌*◌, neg, ◌-◌, nonneg, Ex, ∅, ◌▸◌, ◌≐◌, ring}
use Rattle.exact.proofs.Order.{◌≤◌, half, squared, number, ◌⊞◌, ◌⊠◌, ◌≼◌, ◌by◌, ◌⇒◌, ◌<◌, le, sign, only_zero, cut_ℚ, no_sign, from_frac, to_frac}

-- 0, 1 and 2⁻ᵏ, as numbers and in certificates
abbrev pub 0# : ℚ
0# = cls 0ᶠ

abbrev pub 0ₑ : Ex
0ₑ = con 0ᶠ

abbrev pub 1# : ℚ
1# = cls 1ᶠ

abbrev pub 1ₑ : Ex
1ₑ = con 1ᶠ

abbrev pub num : ℕ → ℚ
num n = cls (whole (pos n))

abbrev pub 2⁻ : ℕ → ℚ
2⁻ k = cls (part k)

pub num_+ : (a b : ℕ) → num (N.◌+◌ a b) ≡ num a + num b
num_+ a b = whole_+ (pos a) (pos b)

pub num_* : (a b : ℕ) → num (N.◌*◌ a b) ≡ num a * num b
num_* a b = whole_* (pos a) (pos b)

pub num_suc : (n : ℕ) → num (suc n) ≡ num n + 1#
num_suc n = ap (λ (k : ℕ). num k) (sym (add-one n)) ∙ num_+ n 1

-- closed numbers are compared by computing: `closed tt`, under `unfolding computes`
unfoldable pub computes : Unit {0}
unfolding ◌+◌ ◌*◌ neg nonneg
computes = tt

pub closed : {x y : ℚ} → T (nonneg (y - x)) → x ≤ y
closed t = record { by = t }

pub 0≤num : (n : ℕ) → 0# ≤ num n
unfolding computes
0≤num n = closed tt

-- 0 ≤ 1 / k
pub 0≤over : (k : ℕ) → 0# ≤ cls (pos 1 over k)
unfolding computes
0≤over k = closed tt

pub 0≤part : (k : ℕ) → 0# ≤ 2⁻ k
0≤part k = 0≤over (N.◌^◌ 2 k)

-- ---- order

pub ≤_refl : (x : ℚ) → x ≤ x
≤_refl x = le (x ▸ ∅) (λ x. x ≼ x by number 0ᶠ) tt

pub ≤_trans : {x y z : ℚ} → x ≤ y → y ≤ z → x ≤ z
≤_trans {x} {y} {z} = le (x ▸ y ▸ z ▸ ∅) (λ x y z. x ≼ y ⇒ λ h. y ≼ z ⇒ λ k. x ≼ z by h ⊞ k) tt

pub ≤_of : {x y : ℚ} → x ≡ y → x ≤ y
≤_of {x} p = subst (λ z. x ≤ z) p (≤_refl x)

pub ≤_+ : {x y u v : ℚ} → x ≤ y → u ≤ v → x + u ≤ y + v
≤_+ {x} {y} {u} {v} = le (x ▸ y ▸ u ▸ v ▸ ∅) (λ x y u v. x ≼ y ⇒ λ h. u ≼ v ⇒ λ k. x ⊕ u ≼ y ⊕ v by h ⊞ k) tt

pub ≤_* : {x y u v : ℚ} → 0# ≤ x → x ≤ y → 0# ≤ u → u ≤ v → x * u ≤ y * v
≤_* {x} {y} {u} {v} = le (x ▸ y ▸ u ▸ v ▸ ∅) (λ x y u v. 0ₑ ≼ x ⇒ λ hx. x ≼ y ⇒ λ h. 0ₑ ≼ u ⇒ λ hu. u ≼ v ⇒ λ k. x ⊗ u ≼ y ⊗ v by h ⊠ (hu ⊞ k) ⊞ hx ⊠ k) tt

pub num_≤ : {a b : ℕ} → N.◌≤◌ a b → num a ≤ num b
num_≤ {a} {b} h = from_frac _ _ (record { by = le→leb (N.◌*◌ a 1) (N.◌*◌ b 1) (omega arith) })

pub 0≤+ : {x y : ℚ} → 0# ≤ x → 0# ≤ y → 0# ≤ x + y
0≤+ {x} {y} = le (x ▸ y ▸ ∅) (λ x y. 0ₑ ≼ x ⇒ λ h. 0ₑ ≼ y ⇒ λ k. 0ₑ ≼ x ⊕ y by h ⊞ k) tt

pub 0≤* : {x y : ℚ} → 0# ≤ x → 0# ≤ y → 0# ≤ x * y
0≤* {x} {y} = le (x ▸ y ▸ ∅) (λ x y. 0ₑ ≼ x ⇒ λ h. 0ₑ ≼ y ⇒ λ k. 0ₑ ≼ x ⊗ y by h ⊠ k) tt

pub 0≤square : (x : ℚ) → 0# ≤ x * x
0≤square x = le (x ▸ ∅) (λ x. 0ₑ ≼ x ⊗ x by squared x) tt

at : {x y : ℚ} → x ≡ y → T (nonneg x) → T (nonneg y)
at p t = subst (λ z. T (nonneg z)) p t

pub ≤_antisym : {x y : ℚ} → x ≤ y → y ≤ x → x ≡ y
≤_antisym {x} {y} h k = ring (x ▸ y ▸ ∅) (λ x y. x ≐ x ⊝ y ⊕ y) tt
    ∙ ap (λ z. z + y) (no_sign (x - y) k.by (at (ring (x ▸ y ▸ ∅) (λ x y. y ⊝ x ≐ ⊖ (x ⊝ y)) tt) h.by)) ∙ ring (y ▸ ∅) (λ y. 0ₑ ⊕ y ≐ y) tt

pub ≤_total : (x y : ℚ) → (x ≤ y) ⊎ (y ≤ x)
≤_total x y = elim (sign (y - x)) [ inl t ↦ inl (record { by = t }) | inr t ↦ inr (record { by = at (ring (x ▸ y ▸ ∅) (λ x y. ⊖ (y ⊝ x) ≐ x ⊝ y) tt) t }) ]

-- of squares to numbers, without roots: were y < x, then −(x − y)² = (y² − x²) + 2y (x − y) would be no less than 0
pub root : {x y : ℚ} → 0# ≤ y → x * x ≤ y * y → x ≤ y
root {x} {y} hy h = elim (≤_total x y) [ inl l ↦ l | inr k ↦ other k ]
  where
    other : y ≤ x → x ≤ y
    other k = record {
      by = at (ring (x ▸ y ▸ ∅) (λ x y. ⊖ (x ⊝ y) ≐ y ⊝ x) tt) (only_zero (x - y) (at
          (ring (x ▸ y ▸ ∅) (λ x y. ⊖ ((x ⊝ y) ⊗ (x ⊝ y)) ⊝ 0ₑ ≐ ⊖ ((x ⊝ y) ⊗ (x ⊝ y))) tt)
          (le (x ▸ y ▸ ∅) (λ x y. 0ₑ ≼ y ⇒ λ hy. x ⊗ x ≼ y ⊗ y ⇒ λ h. y ≼ x ⇒ λ k. 0ₑ ≼ ⊖ ((x ⊝ y) ⊗ (x ⊝ y)) by h ⊞ number (whole (pos 2)) ⊠ hy ⊠ k) tt hy h k).by));
    }

pub cancel : {x y c : ℚ} → 0# < c → x * c ≤ y * c → x ≤ y
cancel {x} {y} {c} h k = record {
  by = at (ring (x ▸ y ▸ ∅) (λ x y. ⊖ (x ⊝ y) ≐ y ⊝ x) tt) (cut_ℚ (x - y) c
      (subst (λ z. T (not (nonneg z))) (ring (c ▸ ∅) (λ c. 0ₑ ⊝ c ≐ ⊖ c) tt) h.by)
      (at (ring (x ▸ y ▸ c ▸ ∅) (λ x y c. y ⊗ c ⊝ x ⊗ c ≐ ⊖ ((x ⊝ y) ⊗ c)) tt) k.by));
}

pub not_≤ : {x y : ℚ} → (y ≤ x → ⊥) → x < y
not_≤ {x} {y} f = record { by = not_T (nonneg (x - y)) (λ t. f (record { by = t })) }

pub <_not : {x y : ℚ} → x < y → y ≤ x → ⊥
<_not {x} {y} h k = T_not (nonneg (x - y)) h.by k.by

pub <_≤ : {x y z : ℚ} → x < y → y ≤ z → x < z
<_≤ h k = not_≤ (λ l. <_not h (≤_trans k l))

-- ---- bounds

infix 50 ◌within◌ ◌≈⟨◌⟩◌
pub record ◌within◌ (x m : ℚ) : Type 0 where
  pub up : x ≤ m
  pub down : neg x ≤ m

pub record ◌≈⟨◌⟩◌ (x e X : ℚ) : Type 0 where
  pub up : x ≤ X + e
  pub down : X ≤ x + e

pub within_≤ : {x a b : ℚ} → x within a → a ≤ b → x within b
within_≤ h k = record { up = ≤_trans h.up k; down = ≤_trans h.down k }

pub within_at : {x y a : ℚ} → x ≡ y → x within a → y within a
within_at {a = a} p h = subst (λ z. z within a) p h

pub within_neg : {x a : ℚ} → x within a → neg x within a
within_neg {x} {a} h = record { up = h.down; down = le (x ▸ a ▸ ∅) (λ x a. x ≼ a ⇒ λ h. ⊖ ⊖ x ≼ a by h) tt h.up }

pub within_self : {x : ℚ} → 0# ≤ x → x within x
within_self {x} h = record { up = ≤_refl x; down = le (x ▸ ∅) (λ x. 0ₑ ≼ x ⇒ λ h. ⊖ x ≼ x by number (whole (pos 2)) ⊠ h) tt h }

module _ {x y a b : ℚ} (h : x within a) (k : y within b) where
  pub within_+ : x + y within a + b
  within_+ = record {
    up = ≤_+ h.up k.up;
    down = le (x ▸ y ▸ a ▸ b ▸ ∅) (λ x y a b. ⊖ x ≼ a ⇒ λ h. ⊖ y ≼ b ⇒ λ k. ⊖ (x ⊕ y) ≼ a ⊕ b by h ⊞ k) tt h.down k.down;
  }

  -- 2 (ab − xy) = (a − x) (b + y) + (a + x) (b − y)
  pub within_* : x * y within a * b
  within_* = record {
    up = le (x ▸ y ▸ a ▸ b ▸ ∅) (λ x y a b. x ≼ a ⇒ λ h. ⊖ x ≼ a ⇒ λ h'. y ≼ b ⇒ λ k. ⊖ y ≼ b ⇒ λ k'. x ⊗ y ≼ a ⊗ b by number half ⊠ (h ⊠ k' ⊞ h' ⊠ k)) tt h.up h.down k.up k.down;
    down = le (x ▸ y ▸ a ▸ b ▸ ∅) (λ x y a b. x ≼ a ⇒ λ h. ⊖ x ≼ a ⇒ λ h'. y ≼ b ⇒ λ k. ⊖ y ≼ b ⇒ λ k'. ⊖ (x ⊗ y) ≼ a ⊗ b by number half ⊠ (h ⊠ k ⊞ h' ⊠ k')) tt h.up h.down k.up k.down;
  }

pub within_nonneg : {x a : ℚ} → x within a → 0# ≤ a
within_nonneg {x} {a} h = le (x ▸ a ▸ ∅) (λ x a. x ≼ a ⇒ λ p. ⊖ x ≼ a ⇒ λ q. 0ₑ ≼ a by number half ⊠ (p ⊞ q)) tt h.up h.down

-- 1 / c for a closed c above 0: by `tt`
abbrev pub above : Frac → Bool
above c = non_neg c.num && not (is_zero c.num)

abbrev Inverse : Frac → Type 0
Inverse c = (cls c * cls (inverse c) ≡ 1#) × (0# ≤ cls (inverse c)) × (0# < cls c)

pub inverse_of : (c : Frac) → T (above c) → Inverse c
unfolding computes
inverse_of c t = go c.num c.low t
  where
    go : (n : ℤ) (l : ℕ) → T (non_neg n && not (is_zero n)) → Inverse (record { num = n; low = l })
    go (pos zero) l t = absurd t
    go (pos (suc n)) l t = (inverse_is (record { num = pos (suc n); low = l }) t, closed tt, not_≤ (λ h. none (leb→le (N.◌*◌ (suc n) 1) (N.◌*◌ 0 (suc l)) (to_frac _ _ h).by)))
      where
        none : N.◌≤◌ (N.◌*◌ (suc n) 1) (N.◌*◌ 0 (suc l)) → ⊥
        none h = omega arith
    go (negsuc n) l t = absurd t

-- where c ≤ y, a quotient by y is at most one by c
pub within_over : {r y m : ℚ} (c : Frac) → T (above c) → r * y within m → cls c ≤ y → r within m * cls (inverse c)
within_over {r} {y} {m} c t h k = record { up = cancel above_y (≤_trans h.up most); down = cancel above_y (≤_trans (≤_of (ring (r ▸ y ▸ ∅) (λ r y. ⊖ r ⊗ y ≐ ⊖ (r ⊗ y)) tt)) (≤_trans h.down most)) }
  where
    i : ℚ
    i = cls (inverse c)

    -- m = m i c ≤ m i y
    most : m ≤ m * i * y
    most = le (cls c ▸ i ▸ y ▸ m ▸ ∅) (λ c i y m. 1ₑ ≼ c ⊗ i ⇒ λ p. 0ₑ ≼ i ⇒ λ q. c ≼ y ⇒ λ k. 0ₑ ≼ m ⇒ λ h. m ≼ m ⊗ i ⊗ y by h ⊠ q ⊠ k ⊞ h ⊠ p) tt (≤_of (sym (inverse_of c t).0)) (inverse_of c t).1 k (within_nonneg h)

    above_y : 0# < y
    above_y = <_≤ (inverse_of c t).2 k

-- ---- near each other

pub apart : {x e X : ℚ} → x ≈⟨ e ⟩ X → x - X within e
apart {x} {e} {X} h = record {
  up = le (x ▸ e ▸ X ▸ ∅) (λ x e X. x ≼ X ⊕ e ⇒ λ h. x ⊝ X ≼ e by h) tt h.up;
  down = le (x ▸ e ▸ X ▸ ∅) (λ x e X. X ≼ x ⊕ e ⇒ λ h. ⊖ (x ⊝ X) ≼ e by h) tt h.down;
}

pub near : {x e X d : ℚ} → d within e → d ≡ x - X → x ≈⟨ e ⟩ X
near {x} {e} {X} h p = record {
  up = le (x ▸ e ▸ X ▸ ∅) (λ x e X. x ⊝ X ≼ e ⇒ λ h. x ≼ X ⊕ e by h) tt (within_at p h).up;
  down = le (x ▸ e ▸ X ▸ ∅) (λ x e X. ⊖ (x ⊝ X) ≼ e ⇒ λ h. X ≼ x ⊕ e by h) tt (within_at p h).down;
}

pub near_at : {x x' e y y' : ℚ} → x ≡ x' → y ≡ y' → x ≈⟨ e ⟩ y → x' ≈⟨ e ⟩ y'
near_at {x} {e = e} {y' = y'} p q h = subst (λ z. z ≈⟨ e ⟩ y') p (subst (λ z. x ≈⟨ e ⟩ z) q h)

pub near_≤ : {x e f X : ℚ} → x ≈⟨ e ⟩ X → e ≤ f → x ≈⟨ f ⟩ X
near_≤ h k = near (within_≤ (apart h) k) refl

pub near_trans : {x e y f z : ℚ} → x ≈⟨ e ⟩ y → y ≈⟨ f ⟩ z → x ≈⟨ e + f ⟩ z
near_trans {x} {e} {y} {f} {z} h k = near (within_+ (apart h) (apart k)) (ring (x ▸ y ▸ z ▸ ∅) (λ x y z. x ⊝ y ⊕ (y ⊝ z) ≐ x ⊝ z) tt)

pub near_self : {e : ℚ} (x : ℚ) → 0# ≤ e → x ≈⟨ e ⟩ x
near_self {e} x h = record { up = more; down = more }
  where
    more : x ≤ x + e
    more = le (x ▸ e ▸ ∅) (λ x e. 0ₑ ≼ e ⇒ λ h. x ≼ x ⊕ e by h) tt h

pub near_sym : {e x y : ℚ} → x ≈⟨ e ⟩ y → y ≈⟨ e ⟩ x
near_sym h = record { up = h.down; down = h.up }

pub near_of : {x X : ℚ} → x ≡ X → x ≈⟨ 0# ⟩ X
near_of {x} p = near (within_self (≤_refl 0#)) (ring (x ▸ ∅) (λ x. 0ₑ ≐ x ⊝ x) tt ∙ ap (λ z. x - z) p)

pub near_nonneg : {x e X : ℚ} → x ≈⟨ e ⟩ X → 0# ≤ e
near_nonneg h = within_nonneg (apart h)

-- the size of what is near
pub near_size : {x e X b : ℚ} → x ≈⟨ e ⟩ X → X within b → x within b + e
near_size {x} {e} {X} h k = within_at (ring (x ▸ X ▸ ∅) (λ x X. X ⊕ (x ⊝ X) ≐ x) tt) (within_+ k (apart h))

pub near_neg : {x e X : ℚ} → x ≈⟨ e ⟩ X → neg x ≈⟨ e ⟩ neg X
near_neg {x} {e} {X} h = near (within_neg (apart h)) (ring (x ▸ X ▸ ∅) (λ x X. ⊖ (x ⊝ X) ≐ ⊖ x ⊝ ⊖ X) tt)

module _ {x X y Y e f : ℚ} (h : x ≈⟨ e ⟩ X) (k : y ≈⟨ f ⟩ Y) where
  pub near_+ : x + y ≈⟨ e + f ⟩ X + Y
  near_+ = near (within_+ (apart h) (apart k)) (ring (x ▸ X ▸ y ▸ Y ▸ ∅) (λ x X y Y. x ⊝ X ⊕ (y ⊝ Y) ≐ x ⊕ y ⊝ (X ⊕ Y)) tt)

  pub near_* : {m n : ℚ} → X within m → Y within n → x * y ≈⟨ e * f + e * n + m * f ⟩ X * Y
  near_* u v = near (within_+ (within_+ (within_* (apart h) (apart k)) (within_* (apart h) v)) (within_* u (apart k)))
      (ring (x ▸ X ▸ y ▸ Y ▸ ∅) (λ x X y Y. (x ⊝ X) ⊗ (y ⊝ Y) ⊕ (x ⊝ X) ⊗ Y ⊕ X ⊗ (y ⊝ Y) ≐ x ⊗ y ⊝ X ⊗ Y) tt)

  -- x y − X Y = x (y − Y) + (x − X) Y
  pub near_product : {a b : ℚ} → x within a → Y within b → x * y ≈⟨ a * f + e * b ⟩ X * Y
  near_product u v = near (within_+ (within_* u (apart k)) (within_* (apart h) v)) (ring (x ▸ X ▸ y ▸ Y ▸ ∅) (λ x X y Y. x ⊗ (y ⊝ Y) ⊕ (x ⊝ X) ⊗ Y ≐ x ⊗ y ⊝ X ⊗ Y) tt)
