-- One turn more, and two, over what stands off an exact orientation: the length of the exact product, and how near the floats lie.
use Rattle.std.specs.Prelude.{◌≡◌, ℕ, pos, Float}
use Rattle.std.proofs.Common.{sym, subst}
use Prim.Native.Nat as N
use Rattle.exact.specs.Fraction.{Frac, 1ᶠ, whole, part, ◌+ᶠ◌, ◌-ᶠ◌, ◌*ᶠ◌}
use Rattle.exact.specs.Quat.{Quat, fractions, product, square}
use Rattle.exact.specs.Turn.{X, Z, about}
use Rattle.exact.specs.Facts.{one}
use Rattle.exact.proofs.Ring.{con, ◌⊕◌, ◌⊗◌}
use Rattle.exact.proofs.Rational.{cls, ◌+◌, ◌*◌, ∅, ◌▸◌}
use Rattle.exact.proofs.Order.{◌≤◌, number, ◌⊠◌, ◌≼◌, ◌by◌, ◌⇒◌, le}
use Rattle.exact.proofs.Within.{1#, 1ₑ, num, num_+, num_≤, 2⁻, closed, computes, ◌≈⟨◌⟩◌, near_≤}
use Rattle.exact.proofs.Quats.{ops, ◌upto◌, ◌~⟨◌⟩◌, upto_one, ~_trans, ~_left, ~_right, ~_≤}
use Rattle.exact.proofs.Distance.{classes, near, long, back, close, close_back}
use Rattle.exact.proofs.Turns.{about_length}
use Rattle.rounding.specs.Value.{val, floats}
use Rattle.drift.specs.Laws.{IsTurn, Fair, turned}
use Rattle.drift.specs.Drift.{UnitAt, Stands, hung}
use Rattle.drift.proofs.Floats.{values, kept_sound, kept_upto, product_near, product_sound, product_length}
use Rattle.drift.proofs.Step.{turned_kept, turned_near}
use Rattle.drift.proofs.Drift.{hung_stands}

-- ---- the floor

pub floor_stands : (q : Quat Float) → q ≡ hung → Stands 0 q one
unfolding computes
floor_stands q e = subst (λ q. Stands 0 q one) (sym e) (record { kept = hung_stands.kept; near = back _ _ _ (~_≤ (near hung_stands.near) (closed tt)) })

-- ---- one turn more

-- d 2⁻³⁸ and what an exact turn's length is off make less than (d + 1) 2⁻³⁸
pub turn_unit : (d : ℕ) (t τ : Quat Frac) → N.◌≤◌ d 11 → UnitAt d t → square ops (classes τ) ≈⟨ 2⁻ 60 ⟩ 1# → UnitAt (N.◌+◌ d 1) (product fractions t τ)
unfolding computes
turn_unit d t τ l h k =
    let D = num d in
    close_back _ _ _ (subst (λ z. square ops (product ops (classes t) (classes τ)) ≈⟨ z * 2⁻ 38 ⟩ 1#) (sym (num_+ d 1)) (near_≤ (product_length (classes t) (classes τ) (close h) k)
    (le (D ▸ ∅) (λ d. d ≼ con (whole (pos 11)) ⇒ λ h. d ⊗ con (part 38) ⊗ con (part 60) ⊕ d ⊗ con (part 38) ⊗ 1ₑ ⊕ 1ₑ ⊗ con (part 60) ≼ (d ⊕ 1ₑ) ⊗ con (part 38) by h ⊠ number (part 98)) tt (num_≤ l))))

-- d 2⁻³⁶, 2⁻³⁸ for the turn, 2⁻³⁹, 2⁻⁴¹ and 2⁻⁴⁵ for product and normalising
pub turn_stands : (d : ℕ) (m s : Quat Float) (t σ : Quat Frac) → N.◌≤◌ d 11 → Stands d m t → Fair s σ → Stands (N.◌+◌ d 1) (turned m s) (product fractions t σ)
unfolding computes
turn_stands d m s t σ l h f =
    let D = num d in
    let r : values (turned m s) ~⟨ num (N.◌+◌ d 1) * 2⁻ 36 ⟩ classes (product fractions t σ) = ~_≤ (turned_near (kept_sound h.kept) f.kept (near h.near) (near f.near) (long f.long))
    (subst (λ z. D * 2⁻ 36 * cls (1ᶠ +ᶠ part 40) + 2⁻ 38 * cls (1ᶠ +ᶠ part 38) + cls (part 39 +ᶠ part 41 +ᶠ part 45) ≤ z * 2⁻ 36) (sym (num_+ d 1))
    (le (D ▸ ∅) (λ d. d ≼ con (whole (pos 11)) ⇒ λ h. d ⊗ con (part 36) ⊗ con (1ᶠ +ᶠ part 40) ⊕ con (part 38) ⊗ con (1ᶠ +ᶠ part 38) ⊕ con (part 39 +ᶠ part 41 +ᶠ part 45) ≼ (d ⊕ 1ₑ) ⊗ con (part 36) by h ⊠ number (part 76)) tt (num_≤ l))) in
    record { kept = turned_kept (kept_sound h.kept) f.kept; near = back _ _ _ r }

-- ---- two turns, normalised once

module _ (d : ℕ) (m p q : Quat Float) (t : Quat Frac) (pan tilt : Float) (l : N.◌≤◌ d 10) (h : Stands d m t) (hp : IsTurn Z pan p) (hq : IsTurn X tilt q) where
  abbrev ζ : Quat Frac
  ζ = about Z (val pan)

  abbrev ξ : Quat Frac
  ξ = about X (val tilt)

  -- 2⁻⁴⁸ for the product, 2⁻⁴³ for the turn, d 2⁻³⁶ for the mount
  panned_near : values (product floats m p) ~⟨ 2⁻ 48 + (cls (1ᶠ +ᶠ part 40) * 2⁻ 43 + num d * 2⁻ 36 * (1# + 2⁻ 73)) ⟩ classes (product fractions t ζ)
  unfolding computes
  panned_near =
      let ζ_long : classes ζ upto 1# + 2⁻ 73 = upto_one (classes ζ) (about_length Z (val pan)) (closed tt) in
      ~_trans (product_near (kept_sound h.kept) hp.kept).1 (~_trans (~_left (near hp.near) (kept_upto h.kept)) (~_right (near h.near) ζ_long))

  pub aim_stands : Stands (N.◌+◌ d 2) (turned (product floats m p) q) (product fractions (product fractions t ζ) ξ)
  unfolding computes
  aim_stands =
      let D = num d in
      let s = product_sound h.kept hp.kept in
      let ξ_long : classes ξ upto 1# + 2⁻ 73 = upto_one (classes ξ) (about_length X (val tilt)) (closed tt) in
      let r : values (turned (product floats m p) q) ~⟨ num (N.◌+◌ d 2) * 2⁻ 36 ⟩ classes (product fractions (product fractions t ζ) ξ) = ~_≤ (turned_near s hq.kept panned_near (near hq.near) ξ_long)
      (subst (λ z. (2⁻ 48 + (cls (1ᶠ +ᶠ part 40) * 2⁻ 43 + D * 2⁻ 36 * (1# + 2⁻ 73))) * (1# + 2⁻ 73) + 2⁻ 43 * cls (1ᶠ +ᶠ part 38) + cls (part 39 +ᶠ part 41 +ᶠ part 45) ≤ z * 2⁻ 36) (sym (num_+ d 2))
      (le (D ▸ ∅) (λ d. d ≼ con (whole (pos 10)) ⇒ λ h.
      (con (part 48) ⊕ (con (1ᶠ +ᶠ part 40) ⊗ con (part 43) ⊕ d ⊗ con (part 36) ⊗ (1ₑ ⊕ con (part 73)))) ⊗ (1ₑ ⊕ con (part 73)) ⊕ con (part 43) ⊗ con (1ᶠ +ᶠ part 38) ⊕ con (part 39 +ᶠ part 41 +ᶠ part 45) ≼ (d ⊕ con (whole (pos 2))) ⊗ con (part 36)
      by h ⊠ number (part 36 *ᶠ ((1ᶠ +ᶠ part 73) *ᶠ (1ᶠ +ᶠ part 73) -ᶠ 1ᶠ))) tt (num_≤ l))) in
      record { kept = turned_kept s hq.kept; near = back _ _ _ r }
