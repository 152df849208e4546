-- `normal` on floats: the dot product's error is a share of it, since its terms are squares; then root, quotient and products.
use Rattle.std.proofs.Common.{◌≡◌, false, cond, ◌&&◌, pos, None, sym, refl, ap, ◌∙◌, subst, ap₂}
use mathlib.Core.Bool.{and-false}
use lib.Ieee.{Float, binary64, div, lt, of_bits, fits}
use Rattle.std.specs.Float.{sqrt}
use Rattle.fault.specs.Answers.{unless}
use Rattle.fault.specs.declared.RotationFault.TheVariants.{NotNormalizable}
use Rattle.exact.specs.Fraction.{Frac, 1ᶠ, whole, part, ◌+ᶠ◌, ◌-ᶠ◌, ◌*ᶠ◌}
use Rattle.exact.specs.Quat.{Quat, square, scale}
use Rattle.exact.proofs.Ring.{con, ◌⊕◌, ◌⊗◌, ⊖◌}
use Rattle.exact.proofs.Rational.{ℚ, cls, ◌+◌, ◌*◌, ◌-◌, ∅, ◌▸◌, ◌▹◌}
use Rattle.exact.proofs.Order.{◌≤◌, squared, number, ◌⊞◌, ◌⊠◌, ◌≼◌, ◌by◌, ◌⇒◌, le, from_frac, to_frac}
use Rattle.exact.proofs.Distance.{back}
use Rattle.exact.proofs.Within.{0#, 1#, 0ₑ, 2⁻, closed, computes, ≤_trans, root, ◌within◌, ◌≈⟨◌⟩◌, near_≤, near_trans}
use Rattle.exact.proofs.Quats.{ops, exs, ◌~⟨◌⟩◌, ~_≤}
use Rattle.rounding.specs.Value.{Is, floats}
use Rattle.rounding.specs.Theorems.{limit}
use Rattle.rounding.proofs.Values.{#◌}
use Rattle.rounding.proofs.Rounds.{Exact, own}
use Rattle.rounding.proofs.Convert.{literal_exact}
use Rattle.rounding.proofs.Literals.{one_exact}
use Rattle.rounding.proofs.Relative.{square_share, sum_share}
use Rattle.rounding.proofs.Operations.{product_rounds, quotient_above, root_rounds, root_share}
use Rattle.rounding.proofs.Approx.{known_≤, u, tiny, grown}
use Rattle.numeric.specs.Floats.{bits, one}
use Rattle.vectors.specs.Vectors.{recip, overflows, underflows, scaled, normal, normal_fault, finite4}
use Rattle.drift.specs.Laws.{Are, Ample, Broad, Normalised, NormalLaw}
use Rattle.drift.proofs.Tests.{not_infinite, are_finite, not_below}
use Rattle.drift.proofs.Floats.{values, unit_within, together, x², y², z², w², by_square}
use Rattle.drift.proofs.Normal.{σ, β, η, scaled_up, normal_length, moved}

-- 2⁻¹⁰²², below which a squared length is scaled up
smallest_normal : Exact (bits 0x0010_0000_0000_0000) (2⁻ 1022)
unfolding of_bits fits
smallest_normal = literal_exact tt refl

-- ---- step by step, for a squared length from 1/8 to 4

abbrev four : Frac
four = whole (pos 4)

-- four roundings of 2⁻⁵³ in each square's way through the sum
abbrev pub κ : Frac
κ = part 51 +ᶠ part 100

module _ {q : Quat Float} (i : Are q) (lo : 2⁻ 3 ≤ square ops (values q)) (hi : square ops (values q) ≤ cls four) where
  abbrev Q : Quat ℚ
  Q = values q

  abbrev D : Float
  D = square floats q

  pub length²_near : Is D × (# D ≈⟨ square ops Q * cls κ ⟩ square ops Q)
  unfolding computes
  length²_near =
      let most = ≤_trans hi (known_≤ tt) in
      let x = square_share i.x (≤_trans (x² Q) most) in
      let y = square_share i.y (≤_trans (y² Q) most) in
      let z = square_share i.z (≤_trans (z² Q) most) in
      let w = square_share i.w (≤_trans (w² Q) most) in
      let xy = sum_share four x y (≤_trans (le (Q ▹ ∅) (λ q. q.x ⊗ q.x ⊕ q.y ⊗ q.y ≼ square exs q by squared q.z ⊞ squared q.w) tt) hi) tt tt in
      let xyz = sum_share four xy z (≤_trans (le (Q ▹ ∅) (λ q. q.x ⊗ q.x ⊕ q.y ⊗ q.y ⊕ q.z ⊗ q.z ≼ square exs q by squared q.w) tt) hi) tt tt in
      let all = sum_share four xyz w hi tt tt in
      (all.rounds.is, near_≤ all.rounds.near (le (square ops Q ▸ ∅) (λ n. con (part 3) ≼ n ⇒ λ h. n ⊗ con (c *ᶠ grown +ᶠ u) ⊕ con l ≼ n ⊗ con κ by h ⊠ number (κ -ᶠ (c *ᶠ grown +ᶠ u))) tt lo))
    where
      c : Frac
      c = (u *ᶠ grown +ᶠ u) *ᶠ grown +ᶠ u

      l : Frac
      l = (((tiny +ᶠ tiny) *ᶠ grown +ᶠ tiny) *ᶠ grown +ᶠ tiny) *ᶠ grown

  D_least : 2⁻ 4 ≤ # D
  D_least = le (square ops Q ▸ # D ▸ ∅) (λ n d. con (part 3) ≼ n ⇒ λ l. n ≼ d ⊕ n ⊗ con κ ⇒ λ h. con (part 4) ≼ d by h ⊞ l ⊠ number (1ᶠ -ᶠ κ)) tt lo length²_near.1.down

  -- nothing is scaled
  unscaled : scaled q ≡ q
  unscaled =
      let o : overflows q ≡ false = ap (λ b. b && finite4 q) (not_infinite D length²_near.0) in
      let n : underflows q ≡ false = ap (λ b. lt (bits 0) D && b) (not_below (own length²_near.0) smallest_normal (≤_trans (known_≤ tt) D_least)) ∙ and-false (lt (bits 0) D) in
      ap₂ (λ a b. cond a (scale floats q (bits 0x1A70_0000_0000_0000)) (cond b (scale floats q (bits 0x6570_0000_0000_0000)) q)) o n

  abbrev S : Float
  S = sqrt binary64 D

  S_near : Is S × (0# ≤ # S) × (# S * # S ≈⟨ square ops Q * cls σ ⟩ square ops Q)
  unfolding computes
  S_near =
      let d = length²_near.1 in
      let k = root_rounds length²_near.0 (≤_trans (closed tt) D_least) in
      (k.0, k.1, near_≤ (near_trans k.2 d) (le (square ops Q ▸ # D ▸ ∅) (λ n d. con (part 3) ≼ n ⇒ λ l. d ≼ n ⊕ n ⊗ con κ ⇒ λ h. d ⊗ con root_share ⊕ n ⊗ con κ ≼ n ⊗ con σ by h ⊠ number root_share ⊞ l ⊠ number (σ -ᶠ κ -ᶠ (1ᶠ +ᶠ κ) *ᶠ root_share)) tt lo d.up))

  S_least : 2⁻ 2 ≤ # S
  S_least = root S_near.1 (le (square ops Q ▸ # S ▸ ∅) (λ n s. con (part 3) ≼ n ⇒ λ l. n ≼ s ⊗ s ⊕ n ⊗ con σ ⇒ λ h. con (part 2) ⊗ con (part 2) ≼ s ⊗ s by h ⊞ l ⊠ number (1ᶠ -ᶠ σ)) tt lo S_near.2.down)

  S_most : # S within cls four
  S_most = record {
    up = root (known_≤ tt) (le (square ops Q ▸ # S ▸ ∅) (λ n s. n ≼ con four ⇒ λ l. s ⊗ s ≼ n ⊕ n ⊗ con σ ⇒ λ h. s ⊗ s ≼ con four ⊗ con four by h ⊞ l ⊠ number (1ᶠ +ᶠ σ)) tt hi S_near.2.up);
    down = le (# S ▸ ∅) (λ s. 0ₑ ≼ s ⇒ λ h. ⊖ s ≼ con four by h) tt S_near.1;
  }

  abbrev R : Float
  R = div binary64 one S

  R_near : Is R × (# R * # S ≈⟨ cls β ⟩ 1#)
  unfolding computes
  R_near =
      let size : # one within 1# = subst (λ z. z within 1#) (sym one_exact.value) (record { up = closed tt; down = closed tt }) in
      let k = quotient_above (part 2) tt one_exact.is S_near.0 S_least size S_most (closed tt) in
      (k.0, near_≤ (subst (λ z. # R * # S ≈⟨ 1# * 2⁻ 53 + cls four * 2⁻ 1075 ⟩ z) one_exact.value k.1) (closed tt))

  abbrev P : Quat Float
  P = scale floats q R

  is_scaled : normal q ≡ P
  unfolding normal
  is_scaled = ap (λ v. scale floats v (recip (square floats v))) unscaled

  -- a part of r q is of size 1, about
  abbrev full : Frac
  full = 1ᶠ +ᶠ part 45

  P_near : Are P × (values P ~⟨ cls η ⟩ scale ops Q (# R))
  unfolding computes
  P_near =
      let t = scale ops Q (# R) in
      let h : square ops t ≤ cls (full *ᶠ full) = ≤_trans (scaled_up Q (# S) (# R) S_near.2 R_near.1) (closed tt) in
      let l : cls full ≤ cls limit = closed tt in
      let x = product_rounds i.x R_near.0 (by_square (x² t) h tt) l in
      let y = product_rounds i.y R_near.0 (by_square (y² t) h tt) l in
      let z = product_rounds i.z R_near.0 (by_square (z² t) h tt) l in
      let w = product_rounds i.w R_near.0 (by_square (w² t) h tt) l in
      (record { x = x.is; y = y.is; z = z.is; w = w.is }, ~_≤ (together x.near y.near z.near w.near) (closed tt))

  pub normal_are : Are (normal q)
  normal_are = subst Are (sym is_scaled) P_near.0

  pub normal_unit : square ops (values (normal q)) ≈⟨ 2⁻ 49 ⟩ 1#
  normal_unit = subst (λ p. square ops (values p) ≈⟨ 2⁻ 49 ⟩ 1#) (sym is_scaled) (normal_length Q (# S) (# R) S_near.2 R_near.1 (values P) P_near.1)

  pub normal_moved : {δ : ℚ} → 0# ≤ δ → δ ≤ 1# → (1# - δ) * (1# - δ) ≤ square ops Q → square ops Q ≤ (1# + δ) * (1# + δ) → values (normal q) ~⟨ δ + 2⁻ 48 ⟩ Q
  normal_moved {δ} d₀ d₁ l h = subst (λ p. values p ~⟨ δ + 2⁻ 48 ⟩ Q) (sym is_scaled) (moved Q (# S) (# R) S_near.2 R_near.1 (values P) P_near.1 δ S_near.1 d₀ d₁ l h)

-- ---- as the law says it

pub ample_broad : {q : Quat Float} → Ample q → Broad q
unfolding computes
ample_broad {q} h = record { are = h.are; least = to_frac _ _ (≤_trans (closed tt) (from_frac _ _ h.least)); most = h.most }

pub normalised : {q : Quat Float} → Broad q → Normalised q (normal q)
unfolding computes
normalised {q} h =
    let lo = from_frac _ _ h.least in
    let hi = from_frac _ _ h.most in
    record {
      unit = unit_within (normal_are h.are lo hi) (normal_unit h.are lo hi);
      near = λ δ k. back _ _ _ (normal_moved h.are lo hi (from_frac _ _ k.nonneg) (≤_trans (from_frac _ _ k.half) (closed tt)) (from_frac _ _ k.least) (from_frac _ _ k.most));
    }

-- and it is not refused
pub normal_passes : (q : Quat Float) → Are (normal q) → normal_fault q ≡ None
normal_passes q i = ap (λ b. unless b (NotNormalizable 0)) (are_finite i)

pub normal_law : NormalLaw
normal_law q h = let n = normalised h in (n, normal_passes q n.unit.are)
