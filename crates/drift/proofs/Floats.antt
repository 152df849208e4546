-- Quaternions of floats, as quaternions of rational numbers; and the product of two.
use Rattle.std.proofs.Common.{T, pos, sym}
use lib.Ieee.{Float}
use Rattle.exact.specs.Fraction.{Frac, 0ᶠ, 1ᶠ, whole, part, ◌+ᶠ◌, ◌*ᶠ◌}
use Rattle.exact.specs.Quat.{Quat, product, square, plus, minus}
use Rattle.exact.proofs.Ring.{con, ◌⊕◌, ◌⊗◌, ⊖◌}
use Rattle.exact.proofs.Rational.{ℚ, cls, ◌+◌, ◌*◌, ∅, ◌▸◌, ◌▹◌, ◌≐◌, ring}
use Rattle.exact.proofs.Order.{◌≤◌, squared, number, ◌⊞◌, ◌⊠◌, ◌≼◌, ◌by◌, ◌⇒◌, le}
use Rattle.exact.proofs.Distance.{close, close_back, back}
use Rattle.exact.proofs.Within.{1#, 0ₑ, 1ₑ, num, 2⁻, closed, ≤_trans, ≤_of, root, ◌within◌, ◌≈⟨◌⟩◌, near_nonneg, near_≤, near_at, near_trans, near_*, computes}
use Rattle.exact.proofs.Within.{apart as gap}
use Rattle.exact.proofs.Quats.{ops, exs, ◌upto◌, ◌~⟨◌⟩◌, apart, upto_+, upto_one, square_product, square_near, ~_sym, ~_≤}
use Rattle.rounding.specs.Value.{floats}
use Rattle.rounding.proofs.Values.{#◌}
use Rattle.rounding.proofs.Approx.{◌≤ᵇ◌, known_≤, itself}
use Rattle.rounding.proofs.Analysis.{forms, Approxs, ∎, ◌⊵◌, analyse4}
use Rattle.drift.specs.Laws.{Are, UnitWithin, Kept, Sound, IsProduct, ProductLaw}

abbrev pub values : Quat Float → Quat ℚ
values q = record { x = # q.x; y = # q.y; z = # q.z; w = # q.w }

-- ---- parts and the whole

module _ (q : Quat ℚ) where
  pub x² : q.x * q.x ≤ square ops q
  x² = le (q ▹ ∅) (λ q. q.x ⊗ q.x ≼ square exs q by squared q.y ⊞ squared q.z ⊞ squared q.w) tt

  pub y² : q.y * q.y ≤ square ops q
  y² = le (q ▹ ∅) (λ q. q.y ⊗ q.y ≼ square exs q by squared q.x ⊞ squared q.z ⊞ squared q.w) tt

  pub z² : q.z * q.z ≤ square ops q
  z² = le (q ▹ ∅) (λ q. q.z ⊗ q.z ≼ square exs q by squared q.x ⊞ squared q.y ⊞ squared q.w) tt

  pub w² : q.w * q.w ≤ square ops q
  w² = le (q ▹ ∅) (λ q. q.w ⊗ q.w ≼ square exs q by squared q.x ⊞ squared q.y ⊞ squared q.z) tt

-- where a² ≤ n ≤ c²
pub by_square : {a n : ℚ} {c : Frac} → a * a ≤ n → n ≤ cls (c *ᶠ c) → T (0ᶠ ≤ᵇ c) → a within cls c
unfolding computes
by_square {a} k h t = record {
  up = root (known_≤ t) (≤_trans k h);
  down = root (known_≤ t) (≤_trans (≤_of (ring (a ▸ ∅) (λ a. ⊖ a ⊗ ⊖ a ≐ a ⊗ a) tt)) (≤_trans k h));
}

pub square_of : {d e : ℚ} → d within e → d * d ≤ e * e
square_of {d} {e} h = le (d ▸ e ▸ ∅) (λ d e. d ≼ e ⇒ λ h. ⊖ d ≼ e ⇒ λ k. d ⊗ d ≼ e ⊗ e by h ⊠ k) tt h.up h.down

-- parts that are e apart make quaternions that are 2 e apart
pub together : {p q : Quat ℚ} {e : ℚ} → p.x ≈⟨ e ⟩ q.x → p.y ≈⟨ e ⟩ q.y → p.z ≈⟨ e ⟩ q.z → p.w ≈⟨ e ⟩ q.w → p ~⟨ num 2 * e ⟩ q
together {p} {q} {e} x y z w = record {
  nonneg = le (e ▸ ∅) (λ e. 0ₑ ≼ e ⇒ λ h. 0ₑ ≼ con (whole (pos 2)) ⊗ e by number (whole (pos 2)) ⊠ h) tt (near_nonneg x);
  most = le (p ▹ q ▹ e ▸ ∅) (λ p q e. let d = minus exs p q in d.x ⊗ d.x ≼ e ⊗ e ⇒ λ x. d.y ⊗ d.y ≼ e ⊗ e ⇒ λ y. d.z ⊗ d.z ≼ e ⊗ e ⇒ λ z. d.w ⊗ d.w ≼ e ⊗ e ⇒ λ w.
      square exs d ≼ con (whole (pos 2)) ⊗ e ⊗ (con (whole (pos 2)) ⊗ e) by x ⊞ y ⊞ z ⊞ w) tt (square_of (gap x)) (square_of (gap y)) (square_of (gap z)) (square_of (gap w));
}

-- what lies near a short quaternion is short
pub beside : {p q : Quat ℚ} {a e : ℚ} → p upto a → p ~⟨ e ⟩ q → q upto a + e
beside {p} {q} {a} {e} h k =
    let s = upto_+ h (apart (~_sym k)) in
    record { nonneg = s.nonneg; most = ≤_trans (≤_of (ring (p ▹ q ▹ ∅) (λ p q. square exs q ≐ square exs (plus exs p (minus exs q p))) tt)) s.most }

-- ---- quaternions that stand for exact ones, part by part

pub themselves : {q : Quat Float} (c : Frac) → Are q → square ops (values q) ≤ cls (c *ᶠ c) → T (0ᶠ ≤ᵇ c) → Approxs q (values q) c 0ᶠ
themselves {q} c i h t =
    let Q = values q in
    record { x = itself i.x (by_square (x² Q) h t); y = itself i.y (by_square (y² Q) h t); z = itself i.z (by_square (z² Q) h t); w = itself i.w (by_square (w² Q) h t) }

pub settles : {q : Quat Float} {t : Quat ℚ} {b e f : Frac} → Approxs q t b e → T (whole (pos 2) *ᶠ e ≤ᵇ f) → values q ~⟨ cls f ⟩ t
unfolding computes
settles h k = ~_≤ (together h.x.rounds.near h.y.rounds.near h.z.rounds.near h.w.rounds.near) (known_≤ k)

pub length_of : {q : Quat Float} {e : Frac} → UnitWithin e q → square ops (values q) ≈⟨ cls e ⟩ 1#
unfolding computes
length_of h = close h.length

pub unit_within : {q : Quat Float} {e : Frac} → Are q → square ops (values q) ≈⟨ cls e ⟩ 1# → UnitWithin e q
unfolding computes
unit_within i h = record { are = i; length = close_back _ _ _ h }

-- what is near 1 in squared length, more roughly
pub weaker : {q : Quat Float} {e f : Frac} → cls e ≤ cls f → UnitWithin e q → UnitWithin f q
weaker k h = unit_within h.are (near_≤ (length_of h) k)

pub kept_sound : {q : Quat Float} → Kept q → Sound q
unfolding computes
kept_sound = weaker (closed tt)

pub kept_upto : {q : Quat Float} → Kept q → values q upto cls (1ᶠ +ᶠ part 40)
unfolding computes
kept_upto h = record { nonneg = closed tt; most = ≤_trans (length_of h).up (closed tt) }

-- a part of what is sound is 1 in size, about
abbrev pub room : Frac
room = 1ᶠ +ᶠ part 38

pub sound_upto : {q : Quat Float} → Sound q → values q upto cls room
unfolding computes
sound_upto h = record { nonneg = closed tt; most = ≤_trans (length_of h).up (closed tt) }

-- ---- the product

pub sound_parts : {q : Quat Float} → Sound q → Approxs q (values q) room 0ᶠ
unfolding computes
sound_parts h = themselves room h.are (sound_upto h).most tt

pub kept_parts : {q : Quat Float} → Kept q → Approxs q (values q) room 0ᶠ
kept_parts h = sound_parts (kept_sound h)

-- |p q|² = |p|² |q|²
pub product_length : (p q : Quat ℚ) {a b : ℚ} → square ops p ≈⟨ a ⟩ 1# → square ops q ≈⟨ b ⟩ 1# → square ops (product ops p q) ≈⟨ a * b + a * 1# + 1# * b ⟩ 1#
unfolding computes
product_length p q h k = near_at (sym (square_product p q)) (ring ∅ (1ₑ ⊗ 1ₑ ≐ 1ₑ) tt) (near_* h k unit unit)
  where
    unit : 1# within 1#
    unit = record { up = closed tt; down = closed tt }

module _ {p q : Quat Float} (h : Sound p) (k : Kept q) where
  pub product_near : Are (product floats p q) × (values (product floats p q) ~⟨ 2⁻ 48 ⟩ product ops (values p) (values q))
  product_near =
      let r : Approxs (product floats p q) (product ops (values p) (values q)) (whole (pos 5)) (part 49) = analyse4 (sound_parts h ⊵ kept_parts k ⊵ ∎) (λ p q. product forms p q) tt in
      (record { x = r.x.rounds.is; y = r.y.rounds.is; z = r.z.rounds.is; w = r.w.rounds.is }, settles r tt)

  -- 2 · 2⁻⁴⁸ (1 + 2⁻³⁸ …) for the roundings
  pub product_square : {e : ℚ} → square ops (product ops (values p) (values q)) ≈⟨ e ⟩ 1# → e ≤ 2⁻ 37 → square ops (values (product floats p q)) ≈⟨ 2⁻ 46 + e ⟩ 1#
  unfolding computes
  product_square {e} l m =
      near_≤ (near_trans (square_near (upto_one (product ops (values p) (values q)) l (near_nonneg l)) product_near.1) l)
      (le (e ▸ ∅) (λ e. e ≼ con (part 37) ⇒ λ m. con (whole (pos 2)) ⊗ ((1ₑ ⊕ e) ⊗ con (part 48)) ⊕ con (part 48) ⊗ con (part 48) ⊕ e ≼ con (part 46) ⊕ e by m ⊠ number (part 47)) tt m)

pub product_sound : {p q : Quat Float} → Kept p → Kept q → Sound (product floats p q)
unfolding computes
product_sound {p} {q} h k = unit_within (product_near (kept_sound h) k).0 (near_≤ (product_square (kept_sound h) k (product_length (values p) (values q) (length_of h) (length_of k)) (closed tt)) (closed tt))

pub product_law : ProductLaw
unfolding computes
product_law p q h k = let r = product_near h k in record { are = r.0; near = back _ _ _ r.1; sound = λ kept. product_sound kept k }

-- as the contract of `mul_quat` says it
pub is_product : (p q : Quat Float) → IsProduct p q (product floats p q)
is_product p q h k = let r = product_law p q (kept_sound h) k in (r.are, r.near)
