-- The exact sine and cosine of an angle of at most 1 in size: S and C themselves up to 2^-73, and the sine up to a share of 2^-72 of the angle.
use Rattle.std.proofs.Common.{◌≡◌, ℤ, pos, negsuc, nat_abs, sym, refl, ap, ◌∙◌, inl, inr, arith, leb→le}
use Prim.Native.Nat as N
use Rattle.exact.specs.Fraction.{Frac, whole, part, ◌over◌, inverse}
use Rattle.exact.specs.Sine.{quarter, turns, sine}
use Rattle.exact.proofs.Ring.{con, ◌⊕◌, ◌⊗◌, ◌⊝◌}
use Rattle.exact.proofs.Rational.{ℚ, cls, ◌*◌, ∅, ◌▸◌, ◌≐◌, ring}
use Rattle.exact.proofs.Order.{◌≤◌, half, number, ◌⊠◌, ◌≼◌, ◌by◌, ◌⇒◌, le, to_frac}
use Rattle.exact.proofs.Within.{≤_total, 1#, 0ₑ, 2⁻, 0≤part, 0≤*, ◌within◌, within_+, within_*, within_≤, within_neg, within_at, within_self, within_nonneg, ◌≈⟨◌⟩◌, near_≤, near_at, near_self}
use Rattle.exact.proofs.Pairs.{◌≋⟨◌⟩◌, ≋_at, ≋_sym, quarters}
use Rattle.exact.proofs.Series.{Sᵥ, wave}
use Rattle.exact.proofs.Waves.{eighth}
use Rattle.exact.proofs.Sines.{left, wave_by, exact, exact_is, exact_any, rest_small}
use Rattle.exact.proofs.Numbers.{abs_≤}
use Rattle.rounding.proofs.Approx.{known_≤}
use Rattle.numeric.proofs.Numbers.{fixed}

-- no quarter turns
none_left : (x : ℚ) → left x (pos 0) ≡ x
none_left x = ring (x ▸ ∅) (λ x. x ⊝ 0ₑ ⊗ con quarter ≐ x) tt

none : (x : ℚ) → wave_by x (pos 0) ≡ wave x
unfolding quarters
none x = ap wave (none_left x)

pub small_near : (v : Frac) → cls v within 1# → exact v ≋⟨ 2⁻ 73 ⟩ wave (cls v)
small_near v h = ≋_sym (≋_at (none (cls v)) refl (exact_any v (pos 0) (within_at (sym (none_left (cls v))) h)))

-- a whole number below 1 in size
below_one : (k : ℤ) → cls (whole k) within cls (pos 9 over 10) → k ≡ pos 0
below_one k h = go k (leb→le (N.◌*◌ (nat_abs k) 10) 9 (to_frac (whole (pos (nat_abs k))) (pos 9 over 10) (abs_≤ k h)).by)
  where
    go : (k : ℤ) → N.◌≤◌ (N.◌*◌ (nat_abs k) 10) 9 → k ≡ pos 0
    go (pos n) h = ap pos (omega arith)
    go (negsuc n) h = absurd (omega arith)

-- up to 1/2 the nearest number of quarter turns is 0: (1/2 + P/4) (2/P) < 9/10
none_nearest : (v : Frac) → cls v within cls half → exact v ≡ wave (cls v)
none_nearest v h = exact_is v ∙ ap (wave_by (cls v)) (below_one (turns v) (within_≤ (within_at (ring (cls v ▸ cls (whole (turns v)) ▸ ∅) (λ v k. (v ⊝ (v ⊝ k ⊗ con quarter)) ⊗ con (inverse quarter) ≐ k) tt)
    (within_* (within_+ h (within_neg (rest_small v))) (within_self (known_≤ {a = whole (pos 0)} {b = inverse quarter} tt)))) (fixed ((con half ⊕ con eighth) ⊗ con (inverse quarter) ≼ con (pos 9 over 10)) tt))) ∙ none (cls v)

-- from 1/2 on 2^-73 is a share of 2^-72 at most
pub small_sine : (v : Frac) {w : ℚ} → cls v within w → w ≤ 1# → cls (sine v) ≈⟨ w * 2⁻ 72 ⟩ Sᵥ (cls v)
small_sine v {w} h l = elim (≤_total w (cls half)) [
  | inl k ↦ near_at (ap (λ p. p.s) (sym (none_nearest v (within_≤ h k)))) refl (near_self (Sᵥ (cls v)) (0≤* (within_nonneg h) (0≤part 72)))
  | inr k ↦ near_≤ (small_near v (within_≤ h l)).of_s (le (w ▸ ∅) (λ w. con half ≼ w ⇒ λ k. con (part 73) ≼ w ⊗ con (part 72) by number (part 72) ⊠ k) tt k)
]
