-- One step: a turn of what is kept, normalised, against the exact product.
use Rattle.std.proofs.Common.{pos}
use lib.Ieee.{Float}
use Rattle.exact.specs.Fraction.{Frac, 1ᶠ, whole, part, ◌+ᶠ◌}
use Rattle.exact.specs.Quat.{Quat, square, product}
use Rattle.exact.proofs.Ring.{con, ◌⊕◌, ◌⊗◌, ◌⊝◌}
use Rattle.exact.proofs.Rational.{ℚ, cls, ◌+◌, ◌*◌, ◌-◌, ∅, ◌▸◌}
use Rattle.exact.proofs.Order.{◌≤◌, number, ◌⊞◌, ◌≼◌, ◌by◌, ◌⇒◌, le}
use Rattle.exact.proofs.Within.{0#, 1#, 1ₑ, num, 2⁻, closed, computes, ≤_trans, ◌≈⟨◌⟩◌, near_≤}
use Rattle.exact.proofs.Quats.{ops, ◌upto◌, ◌~⟨◌⟩◌, ~_trans, ~_left, ~_right, ~_≤}
use Rattle.exact.proofs.Distance.{near, long, back}
use Rattle.rounding.specs.Value.{floats}
use Rattle.drift.specs.Laws.{Are, UnitWithin, Kept, Sound, Turned, turned, TurnedLaw}
use Rattle.drift.proofs.Floats.{values, length_of, unit_within, weaker, sound_upto, product_near, product_length, product_square}
use Rattle.drift.proofs.Normalize.{normal_are, normal_unit, normal_moved, normal_passes}

module _ {k t : Quat Float} (h : Sound k) (g : Kept t) where
  abbrev K : Quat ℚ
  K = values k

  abbrev T : Quat ℚ
  T = values t

  abbrev m : Quat Float
  m = product floats k t

  abbrev made : Are m × (values m ~⟨ 2⁻ 48 ⟩ product ops K T)
  made = product_near h g

  -- the length of the product is δ from 1 at most: 2⁻³⁹ and 2⁻⁴¹ from the factors, and roundings
  abbrev δ : Frac
  δ = part 39 +ᶠ part 41 +ᶠ part 46

  -- 2⁻³⁸ and 2⁻⁴⁰ from the factors' squared lengths, their product, and roundings
  length : square ops (values m) ≈⟨ cls (part 38 +ᶠ part 40 +ᶠ part 46 +ᶠ part 70) ⟩ 1#
  unfolding computes
  length = near_≤ (product_square h g (product_length K T (length_of h) (length_of g)) (closed tt)) (closed tt)

  lo : 2⁻ 3 ≤ square ops (values m)
  lo = le (square ops (values m) ▸ ∅) (λ n. 1ₑ ≼ n ⊕ con (part 38 +ᶠ part 40 +ᶠ part 46 +ᶠ part 70) ⇒ λ h. con (part 3) ≼ n by h) tt length.down

  hi : square ops (values m) ≤ num 4
  unfolding computes
  hi = ≤_trans length.up (closed tt)

  turned_unit : UnitWithin (part 49) (turned k t)
  unfolding computes
  turned_unit = unit_within (normal_are made.0 lo hi) (normal_unit made.0 lo hi)

  -- k is at most c long, and e from Π; t is f from τ, which is at most a long; the product's length is d from 1
  pub turned_by : {c d : ℚ} → K upto c → 0# ≤ d → d ≤ 1# → (1# - d) * (1# - d) ≤ square ops (values m) → square ops (values m) ≤ (1# + d) * (1# + d)
      → {Π τ : Quat ℚ} {e f a : ℚ} → K ~⟨ e ⟩ Π → T ~⟨ f ⟩ τ → τ upto a → values (turned k t) ~⟨ d + 2⁻ 48 + (2⁻ 48 + (c * f + e * a)) ⟩ product ops Π τ
  turned_by u d₀ d₁ l m d e b = ~_trans (normal_moved made.0 lo hi d₀ d₁ l m) (~_trans made.1 (~_trans (~_left e u) (~_right d b)))

  -- the same where the product's squared length is n from 1, and so its length d
  pub turned_within : {c d n : ℚ} → K upto c → 0# ≤ d → d ≤ 1# → square ops (values m) ≈⟨ n ⟩ 1# → (1# - d) * (1# - d) + n ≤ 1# → 1# + n ≤ (1# + d) * (1# + d)
      → {Π τ : Quat ℚ} {e f a : ℚ} → K ~⟨ e ⟩ Π → T ~⟨ f ⟩ τ → τ upto a → values (turned k t) ~⟨ d + 2⁻ 48 + (2⁻ 48 + (c * f + e * a)) ⟩ product ops Π τ
  turned_within {d = δ} {n} u d₀ d₁ s l h d e b =
      let least = le (square ops (values m) ▸ δ ▸ n ▸ ∅) (λ s d n. (1ₑ ⊝ d) ⊗ (1ₑ ⊝ d) ⊕ n ≼ 1ₑ ⇒ λ l. 1ₑ ≼ s ⊕ n ⇒ λ h. (1ₑ ⊝ d) ⊗ (1ₑ ⊝ d) ≼ s by l ⊞ h) tt l s.down in
      turned_by u d₀ d₁ least (≤_trans s.up h) d e b

  -- with what is sound
  pub turned_near : {Π τ : Quat ℚ} {e f a : ℚ} → K ~⟨ e ⟩ Π → T ~⟨ f ⟩ τ → τ upto a → values (turned k t) ~⟨ e * a + f * cls (1ᶠ +ᶠ part 38) + cls (part 39 +ᶠ part 41 +ᶠ part 45) ⟩ product ops Π τ
  unfolding computes
  turned_near {Π} {τ} {e} {f} {a} d l b =
      ~_≤ (turned_within {d = cls δ} (sound_upto h) (closed tt) (closed tt) length (closed tt) (closed tt) d l b)
      (le (e ▸ f ▸ a ▸ ∅) (λ e f a. con δ ⊕ con (part 48) ⊕ (con (part 48) ⊕ (con (1ᶠ +ᶠ part 38) ⊗ f ⊕ e ⊗ a)) ≼ e ⊗ a ⊕ f ⊗ con (1ᶠ +ᶠ part 38) ⊕ con (part 39 +ᶠ part 41 +ᶠ part 45) by number (whole (pos 0))) tt)

  pub turned_kept : Kept (turned k t)
  unfolding computes
  turned_kept = weaker (closed tt) turned_unit

  pub is_turned : Turned k t (turned k t)
  unfolding computes
  is_turned = record { unit = turned_unit; near = λ p τ e f a d l b. back _ _ _ (turned_near (near d) (near l) (long b)) }

pub turned_law : TurnedLaw
turned_law k t = ((λ h g. is_turned h g), (λ h g. normal_passes _ (is_turned h g).unit.are))
