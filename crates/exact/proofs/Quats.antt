-- Quaternions of rational numbers: identities by the solver, and lengths and distances without roots.
use mathlib.Core.Path.{◌≡◌, subst}
use mathlib.Core.Bool.{Bool, ◌&&◌}
use Prim.Native.Nat.{zero}
use lib.Dec.{T}
use lib.IntN.{pos}
use lib.Ieee.Fits.{and_l, and_r}
use Rattle.exact.specs.Fraction.{whole}
use Rattle.exact.specs.Quat.{Ops, Quat, product, conjugate, image, square, plus, minus, dot}
use Rattle.exact.proofs.Ring.{con, ◌⊕◌, ◌⊗◌, ⊖◌, ◌⊝◌}
use Rattle.exact.proofs.Rational.{ℚ, ◌+◌, ◌*◌, neg, ◌-◌, Ex, Vars, ∅, ◌▸◌, ◌▹◌, Over, fill, val, ◌≐◌, true_of, solved, ring}
use Rattle.exact.proofs.Order.{◌≤◌, Cert, squared, number, ◌⊞◌, ◌⊠◌, ◌≼◌, ◌by◌, ◌⇒◌, le}
use Rattle.exact.proofs.Within.{0#, 1#, 0ₑ, 1ₑ, num, ≤_trans, ≤_*, 0≤+, 0≤*, root, ◌≈⟨◌⟩◌}

-- the operations of numbers, and those of polynomials
abbrev pub ops : Ops ℚ
ops = record { ◌+ᵒ◌ = ◌+◌; ◌-ᵒ◌ = ◌-◌; ◌*ᵒ◌ = ◌*◌; neg = neg }

abbrev pub exs : Ops Ex
exs = record { ◌+ᵒ◌ = ◌⊕◌; ◌-ᵒ◌ = ◌⊝◌; ◌*ᵒ◌ = ◌⊗◌; neg = ⊖◌ }

-- ---- identities. `ring4` is the solver for the four parts of a quaternion at once

infix 30 ◌≗◌
pub data Equations : Type 0 where
  ◌≗◌ : Quat Ex → Quat Ex → Equations

abbrev pub vals : Vars → Quat Ex → Quat ℚ
vals v q = record { x = val v q.x; y = val v q.y; z = val v q.z; w = val v q.w }

abbrev pub Say : Vars → Equations → Type 0
Say v (p ≗ q) = vals v p ≡ vals v q

abbrev pub true_of4 : Equations → Bool
true_of4 (p ≗ q) = true_of (p.x ≐ q.x) && true_of (p.y ≐ q.y) && true_of (p.z ≐ q.z) && true_of (p.w ≐ q.w)

solved4 : (v : Vars) (e : Equations) → T (true_of4 e) → Say v e
solved4 v (p ≗ q) t =
    let a = true_of (p.x ≐ q.x) in
    let b = true_of (p.y ≐ q.y) in
    let c = true_of (p.z ≐ q.z) in
    let d = true_of (p.w ≐ q.w) in
    let abc = and_l (a && b && c) d t in
    let ab = and_l (a && b) c abc in
    λ i. record {
      x = solved v (p.x ≐ q.x) (and_l a b ab) i;
      y = solved v (p.y ≐ q.y) (and_r a b ab) i;
      z = solved v (p.z ≐ q.z) (and_r (a && b) c abc) i;
      w = solved v (p.w ≐ q.w) (and_r (a && b && c) d t) i;
    }

pub ring4 : (v : Vars) (f : Over v Equations) → T (true_of4 (fill Equations zero v f)) → Say v (fill Equations zero v f)
ring4 v f = solved4 v (fill Equations zero v f)

pub square_product : (p q : Quat ℚ) → square ops (product ops p q) ≡ square ops p * square ops q
square_product p q = ring (p ▹ q ▹ ∅) (λ p q. square exs (product exs p q) ≐ square exs p ⊗ square exs q) tt

pub product_assoc : (p q r : Quat ℚ) → product ops (product ops p q) r ≡ product ops p (product ops q r)
product_assoc p q r = ring4 (p ▹ q ▹ r ▹ ∅) (λ p q r. product exs (product exs p q) r ≗ product exs p (product exs q r)) tt

-- Lagrange: |p|² |q|² is (p · q)² and these squares
abbrev pub minors : Quat Ex → Quat Ex → Cert
minors p q = minor p.x p.y q.x q.y ⊞ minor p.x p.z q.x q.z ⊞ minor p.x p.w q.x q.w
    ⊞ minor p.y p.z q.y q.z ⊞ minor p.y p.w q.y q.w ⊞ minor p.z p.w q.z q.w
  where
    minor : Ex → Ex → Ex → Ex → Cert
    minor a b c d = squared (a ⊗ d ⊝ (b ⊗ c))

abbrev pub squares : Quat Ex → Cert
squares q = squared q.x ⊞ squared q.y ⊞ squared q.z ⊞ squared q.w

pub cauchy_schwarz : (p q : Quat ℚ) → dot ops p q * dot ops p q ≤ square ops p * square ops q
cauchy_schwarz p q = le (p ▹ q ▹ ∅) (λ p q. dot exs p q ⊗ dot exs p q ≼ square exs p ⊗ square exs q by minors p q) tt

-- ---- lengths and distances

infix 50 ◌upto◌ ◌~⟨◌⟩◌
-- q is at most e long
pub record ◌upto◌ (q : Quat ℚ) (e : ℚ) : Type 0 where
  pub nonneg : 0# ≤ e
  pub most : square ops q ≤ e * e

-- p and q lie within e
pub record ◌~⟨◌⟩◌ (p : Quat ℚ) (e : ℚ) (q : Quat ℚ) : Type 0 where
  pub nonneg : 0# ≤ e
  pub most : square ops (minus ops p q) ≤ e * e

module _ {p q : Quat ℚ} {e f : ℚ} (h : p upto e) (k : q upto f) where
  -- e²f² − |p|²|q|² = (e² − |p|²) f² + |p|² (f² − |q|²)
  pub upto_* : product ops p q upto e * f
  upto_* = record {
    nonneg = 0≤* h.nonneg k.nonneg;
    most = le (p ▹ q ▹ e ▸ f ▸ ∅) (λ p q e f. square exs p ≼ e ⊗ e ⇒ λ h. square exs q ≼ f ⊗ f ⇒ λ k.
        square exs (product exs p q) ≼ e ⊗ f ⊗ (e ⊗ f) by h ⊠ squared f ⊞ squares p ⊠ k) tt h.most k.most;
  }

  pub dot_≤ : dot ops p q ≤ e * f
  dot_≤ = root (0≤* h.nonneg k.nonneg) (le (p ▹ q ▹ e ▸ f ▸ ∅) (λ p q e f. dot exs p q ⊗ dot exs p q ≼ square exs p ⊗ square exs q ⇒ λ c. square exs p ≼ e ⊗ e ⇒ λ h. square exs q ≼ f ⊗ f ⇒ λ k.
      dot exs p q ⊗ dot exs p q ≼ e ⊗ f ⊗ (e ⊗ f) by c ⊞ h ⊠ squared f ⊞ squares p ⊠ k) tt (cauchy_schwarz p q) h.most k.most)

  -- (e + f)² − |p + q|² = (e² − |p|²) + (f² − |q|²) + 2 (ef − p · q)
  pub upto_+ : plus ops p q upto e + f
  upto_+ = record {
    nonneg = 0≤+ h.nonneg k.nonneg;
    most = le (p ▹ q ▹ e ▸ f ▸ ∅) (λ p q e f. square exs p ≼ e ⊗ e ⇒ λ h. square exs q ≼ f ⊗ f ⇒ λ k. dot exs p q ≼ e ⊗ f ⇒ λ d.
        square exs (plus exs p q) ≼ (e ⊕ f) ⊗ (e ⊕ f) by h ⊞ k ⊞ number (whole (pos 2)) ⊠ d) tt h.most k.most dot_≤;
  }

pub apart : {p q : Quat ℚ} {e : ℚ} → p ~⟨ e ⟩ q → minus ops p q upto e
apart h = record { nonneg = h.nonneg; most = h.most }

pub near : {p q d : Quat ℚ} {e : ℚ} → d upto e → square ops d ≡ square ops (minus ops p q) → p ~⟨ e ⟩ q
near {e = e} h s = record { nonneg = h.nonneg; most = subst (λ z. z ≤ e * e) s h.most }

module _ {p q r : Quat ℚ} {e f : ℚ} where
  pub ~_trans : p ~⟨ e ⟩ q → q ~⟨ f ⟩ r → p ~⟨ e + f ⟩ r
  ~_trans h k = near (upto_+ (apart h) (apart k)) (ring (p ▹ q ▹ r ▹ ∅) (λ p q r. square exs (plus exs (minus exs p q) (minus exs q r)) ≐ square exs (minus exs p r)) tt)

  pub ~_right : p ~⟨ e ⟩ q → r upto f → product ops p r ~⟨ e * f ⟩ product ops q r
  ~_right h k = near (upto_* (apart h) k) (ring (p ▹ q ▹ r ▹ ∅) (λ p q r. square exs (product exs (minus exs p q) r) ≐ square exs (minus exs (product exs p r) (product exs q r))) tt)

  pub ~_left : p ~⟨ e ⟩ q → r upto f → product ops r p ~⟨ f * e ⟩ product ops r q
  ~_left h k = near (upto_* k (apart h)) (ring (p ▹ q ▹ r ▹ ∅) (λ p q r. square exs (product exs r (minus exs p q)) ≐ square exs (minus exs (product exs r p) (product exs r q))) tt)

pub ~_sym : {p q : Quat ℚ} {e : ℚ} → p ~⟨ e ⟩ q → q ~⟨ e ⟩ p
~_sym {p} {q} h = near (apart h) (ring (p ▹ q ▹ ∅) (λ p q. square exs (minus exs p q) ≐ square exs (minus exs q p)) tt)

-- |p|² = |t|² + 2 t · (p − t) + |p − t|²
pub square_near : {p t : Quat ℚ} {a e : ℚ} → t upto a → p ~⟨ e ⟩ t → square ops p ≈⟨ num 2 * (a * e) + e * e ⟩ square ops t
square_near {p} {t} {a} {e} h k = record {
  up = le (p ▹ t ▹ a ▸ e ▸ ∅) (λ p t a e. dot exs t (minus exs p t) ≼ a ⊗ e ⇒ λ d. square exs (minus exs p t) ≼ e ⊗ e ⇒ λ m.
      square exs p ≼ square exs t ⊕ (con (whole (pos 2)) ⊗ (a ⊗ e) ⊕ e ⊗ e) by number (whole (pos 2)) ⊠ d ⊞ m) tt (dot_≤ h (apart k)) k.most;
  down = le (p ▹ t ▹ a ▸ e ▸ ∅) (λ p t a e. dot exs t (minus exs t p) ≼ a ⊗ e ⇒ λ d.
      square exs t ≼ square exs p ⊕ (con (whole (pos 2)) ⊗ (a ⊗ e) ⊕ e ⊗ e) by number (whole (pos 2)) ⊠ d ⊞ squares (minus exs p t) ⊞ squared e) tt (dot_≤ h (apart (~_sym k)));
}

pub ~_≤ : {p q : Quat ℚ} {e f : ℚ} → p ~⟨ e ⟩ q → e ≤ f → p ~⟨ f ⟩ q
~_≤ h k = record { nonneg = ≤_trans h.nonneg k; most = ≤_trans h.most (≤_* h.nonneg k h.nonneg k) }

pub upto_≤ : {q : Quat ℚ} {e f : ℚ} → q upto e → e ≤ f → q upto f
upto_≤ h k = record { nonneg = ≤_trans h.nonneg k; most = ≤_trans h.most (≤_* h.nonneg k h.nonneg k) }

pub ~_at : {p q : Quat ℚ} {e f : ℚ} → e ≡ f → p ~⟨ e ⟩ q → p ~⟨ f ⟩ q
~_at {p} {q} s h = subst (λ z. p ~⟨ z ⟩ q) s h

-- |q|² ≤ 1 + e ≤ (1 + e)²
pub upto_one : (q : Quat ℚ) {e : ℚ} → square ops q ≈⟨ e ⟩ 1# → 0# ≤ e → q upto 1# + e
upto_one q {e} h k = record {
  nonneg = le (e ▸ ∅) (λ e. 0ₑ ≼ e ⇒ λ k. 0ₑ ≼ 1ₑ ⊕ e by k) tt k;
  most = le (q ▹ e ▸ ∅) (λ q e. square exs q ≼ 1ₑ ⊕ e ⇒ λ h. 0ₑ ≼ e ⇒ λ k. square exs q ≼ (1ₑ ⊕ e) ⊗ (1ₑ ⊕ e) by h ⊞ k ⊞ squared e) tt h.up k;
}

pub ~_same : {p p' q q' : Quat ℚ} {e : ℚ} → p ≡ p' → q ≡ q' → p ~⟨ e ⟩ q → p' ~⟨ e ⟩ q'
~_same {p} {q' = q'} {e} s t h = subst (λ z. z ~⟨ e ⟩ q') s (subst (λ z. p ~⟨ e ⟩ z) t h)

-- ---- images q v q*

pub upto_conjugate : {q : Quat ℚ} {a : ℚ} → q upto a → conjugate ops q upto a
upto_conjugate {q} {a} h = record { nonneg = h.nonneg; most = subst (λ z. z ≤ a * a) (ring (q ▹ ∅) (λ q. square exs q ≐ square exs (conjugate exs q)) tt) h.most }

pub ~_conjugate : {p q : Quat ℚ} {e : ℚ} → p ~⟨ e ⟩ q → conjugate ops p ~⟨ e ⟩ conjugate ops q
~_conjugate {p} {q} h = near (apart h) (ring (p ▹ q ▹ ∅) (λ p q. square exs (minus exs p q) ≐ square exs (minus exs (conjugate exs p) (conjugate exs q))) tt)

-- p v p* − q v q* = (p − q) v p* + q v (p − q)*
pub image_near : {p q v : Quat ℚ} {e a b m : ℚ} → p ~⟨ e ⟩ q → p upto a → q upto b → v upto m → image ops p v ~⟨ e * m * a + b * m * e ⟩ image ops q v
image_near h k l m = ~_trans (~_right (~_right h m) (upto_conjugate k)) (~_left (~_conjugate h) (upto_* l m))
