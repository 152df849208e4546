-- One step, where what is turned is kept: nearer than where it is only sound.
use Rattle.std.proofs.Common.{pos}
use lib.Ieee.{Float}
use Rattle.exact.specs.Fraction.{Frac, 1ᶠ, whole, part, ◌+ᶠ◌}
use Rattle.exact.specs.Quat.{Quat, square, product}
use Rattle.exact.proofs.Ring.{con, ◌⊕◌, ◌⊗◌}
use Rattle.exact.proofs.Rational.{ℚ, cls, ◌+◌, ◌*◌, ∅, ◌▸◌}
use Rattle.exact.proofs.Order.{◌≤◌, number, ◌⊠◌, ◌≼◌, ◌by◌, ◌⇒◌, le}
use Rattle.exact.proofs.Within.{1#, 1ₑ, 2⁻, closed, computes, ◌≈⟨◌⟩◌, near_≤}
use Rattle.exact.proofs.Quats.{ops, ◌upto◌, ◌~⟨◌⟩◌, ~_≤}
use Rattle.rounding.specs.Value.{floats}
use Rattle.drift.specs.Laws.{Kept, turned}
use Rattle.drift.proofs.Floats.{values, length_of, kept_sound, kept_upto, product_length, product_square}
use Rattle.drift.proofs.Step.{turned_within}

module _ {k t : Quat Float} (h : Kept k) (g : Kept t) where
  abbrev m : Quat Float
  m = product floats k t

  -- the length of the product is δ from 1 at most: 2⁻⁴¹ from each factor, and roundings
  abbrev δ : Frac
  δ = part 40 +ᶠ part 46

  -- 2⁻⁴⁰ from each factor's squared length, their product, and roundings
  length : square ops (values m) ≈⟨ cls (part 39 +ᶠ part 46 +ᶠ part 80) ⟩ 1#
  unfolding computes
  length = near_≤ (product_square (kept_sound h) g (product_length (values k) (values t) (length_of h) (length_of g)) (closed tt)) (closed tt)

  -- k is e from Π and t is f from τ, which is at most a long
  pub kept_near : {Π τ : Quat ℚ} {e f a : ℚ} → values k ~⟨ e ⟩ Π → values t ~⟨ f ⟩ τ → τ upto a → values (turned k t) ~⟨ e * a + f * cls (1ᶠ +ᶠ part 40) + cls (part 40 +ᶠ part 45) ⟩ product ops Π τ
  unfolding computes
  kept_near {Π} {τ} {e} {f} {a} d l b =
      ~_≤ (turned_within (kept_sound h) g {d = cls δ} (kept_upto h) (closed tt) (closed tt) length (closed tt) (closed tt) d l b)
      (le (e ▸ f ▸ a ▸ ∅) (λ e f a. con δ ⊕ con (part 48) ⊕ (con (part 48) ⊕ (con (1ᶠ +ᶠ part 40) ⊗ f ⊕ e ⊗ a)) ≼ e ⊗ a ⊕ f ⊗ con (1ᶠ +ᶠ part 40) ⊕ con (part 40 +ᶠ part 45) by number (whole (pos 0))) tt)

-- one turn takes 2⁻³⁷ more
pub step_near : {k t : Quat Float} {Π τ : Quat ℚ} {e : ℚ} → Kept k → Kept t → values k ~⟨ e ⟩ Π → values t ~⟨ 2⁻ 38 ⟩ τ → τ upto cls (1ᶠ +ᶠ part 40) → e ≤ 1# → values (turned k t) ~⟨ e + 2⁻ 37 ⟩ product ops Π τ
step_near {e = e} h g d l b m = ~_≤ (kept_near h g d l b) (le (e ▸ ∅) (λ e. e ≼ 1ₑ ⇒ λ h. e ⊗ con (1ᶠ +ᶠ part 40) ⊕ con (part 38) ⊗ con (1ᶠ +ᶠ part 40) ⊕ con (part 40 +ᶠ part 45) ≼ e ⊕ con (part 37) by number (part 40) ⊠ h) tt m)
