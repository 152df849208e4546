-- Sine and cosine of an angle that is not negative: the kernels at what the quarter turns leave, turned on by as many.
use Rattle.std.proofs.Common.{◌≡◌, ℕ, zero, suc, pos, sym, refl, ap, ap₂, inl, inr}
use Prim.Native.Nat as N
use lib.Ieee.{Float}
use Rattle.exact.specs.Fraction.{part, ◌over◌, ◌-ᶠ◌}
use Rattle.exact.proofs.Ring.{con, ◌⊕◌, ◌⊗◌}
use Rattle.exact.proofs.Rational.{ℚ, cls, ◌+◌, ◌*◌, ∅, ◌▸◌}
use Rattle.exact.proofs.Order.{◌≤◌, number, ◌⊞◌, ◌⊠◌, ◌≼◌, ◌by◌, ◌⇒◌, le}
use Rattle.exact.proofs.Within.{≤_total, 0#, 1#, 0ₑ, 1ₑ, num, 2⁻, ≤_refl, ≤_trans, ◌within◌, within_≤, within_at, within_self, within_nonneg, ◌≈⟨◌⟩◌, apart, near_at, near_≤, near_trans}
use Rattle.exact.proofs.Pairs.{Pair, pair, ◌≋⟨◌⟩◌, ≋_at, ≋_≤, ≋_trans, quarters, quarters_near}
use Rattle.exact.proofs.Pairs.{turned as Turned_pair}
use Rattle.exact.proofs.Series.{Sᵥ, wave}
use Rattle.exact.proofs.Waves.{wave_steady}
use Rattle.exact.proofs.Sines.{left, exact, exact_any}
use Rattle.rounding.specs.Value.{val, Is}
use Rattle.rounding.proofs.Values.{#◌, neg_value, neg_is}
use Rattle.rounding.proofs.Approx.{known_≤}
use Rattle.numeric.specs.Sine.{sin_kernel, cos_kernel, quarter_turns, remainder, quarter, turned, upward}
use Rattle.numeric.proofs.Numbers.{fixed}
use Rattle.numeric.proofs.Kernels.{sin_kernel_near, cos_kernel_near}
use Rattle.numeric.proofs.Small.{small_near}
use Rattle.numeric.proofs.Reduction.{left_small, no_turns, remainder_near, remainder_small, remainder_none}

-- ---- two floats within e of a pair, and quarter turns of them

pub record PairNear (p : Float × Float) (e : ℚ) (w : Pair) : Type 0 where
  pub is_s : Is p.0
  pub is_c : Is p.1
  pub near : pair (# p.0) (# p.1) ≋⟨ e ⟩ w

quarter_is : (n : ℕ) {s c : Float} → Is s → Is c → Is (quarter n s c).0 × Is (quarter n s c).1 × (Turned_pair n (pair (# s) (# c)) ≡ pair (# (quarter n s c).0) (# (quarter n s c).1))
quarter_is zero i j = (i, j, refl)
quarter_is (suc zero) {s} {c} i j = (j, neg_is i, ap (pair (# c)) (sym (neg_value s)))
quarter_is (suc (suc zero)) {s} {c} i j = (neg_is i, neg_is j, ap₂ pair (sym (neg_value s)) (sym (neg_value c)))
quarter_is (suc (suc (suc n))) {s} {c} i j = (neg_is j, i, ap (λ z. pair z (# s)) (sym (neg_value c)))

turned_near : (k : ℕ) {s c : Float} {e : ℚ} {w : Pair} → PairNear (s, c) e w → PairNear (turned k s c) e (quarters (pos k) w)
unfolding quarters
turned_near k h = let q = quarter_is (N.◌%◌ k 4) h.is_s h.is_c in record { is_s = q.0; is_c = q.1; near = ≋_at q.2 refl (quarters_near (pos k) h.near) }

module _ {a : Float} (i : Is a) (0≤a : 0# ≤ # a) (a≤ : # a ≤ num 1000) where
  -- ---- within 2^-47

  abbrev k : ℕ
  k = quarter_turns a

  abbrev r : Float
  r = remainder a k

  kernels_near : PairNear (sin_kernel r, cos_kernel r) (2⁻ 48) (wave (# r))
  kernels_near =
      let j = (remainder_near i 0≤a a≤).is in
      let h = remainder_small i 0≤a a≤ in
      let s = sin_kernel_near j h (known_≤ tt) (≤_refl _) in
      let c = cos_kernel_near j h in
      record { is_s = s.is; is_c = c.is; near = record { of_s = near_≤ s.near (fixed (con (pos 4 over 5) ⊗ con (part 48) ≼ con (part 48)) tt); of_c = c.near } }

  left_one : left (# a) (pos k) within 1#
  left_one = within_≤ (left_small i 0≤a a≤) (known_≤ tt)

  steady : wave (# r) ≋⟨ 2⁻ 51 * (1# + 2⁻ 68) ⟩ wave (left (# a) (pos k))
  steady = wave_steady (left (# a) (pos k)) (# r) (2⁻ 51) left_one (within_≤ (remainder_small i 0≤a a≤) (known_≤ tt)) (apart (remainder_near i 0≤a a≤).near)

  -- a kernel's 2^-48, the remainder's 2^-51, and 2^-73 for another number of turns than the exact one
  pub upward_near : PairNear (upward a) (2⁻ 47) (exact (val a))
  unfolding upward
  upward_near =
      let p = turned_near k kernels_near in
      record {
        is_s = p.is_s;
        is_c = p.is_c;
        near = ≋_≤ (≋_trans (≋_trans p.near (quarters_near (pos k) steady)) (exact_any (val a) (pos k) left_one)) (fixed (con (part 48) ⊕ con (part 51) ⊗ (1ₑ ⊕ con (part 68)) ⊕ con (part 73) ≼ con (part 47)) tt);
      }

  -- ---- the sine of a up to 1, within a share of 2^-45

  -- up to 3/4 no turns are taken off, and the kernel's share is 2^-48
  kernel_sharp : 2⁻ 27 ≤ # a → # a ≤ cls (pos 3 over 4) → # (upward a).0 ≈⟨ # a * 2⁻ 48 ⟩ Sᵥ (# a)
  unfolding upward
  kernel_sharp low h =
      let r = remainder_none i in
      let s = sin_kernel_near r.is (within_at (sym r.value) (within_self 0≤a)) (≤_trans (known_≤ {a = part 100} {b = part 27} tt) low) (≤_trans h (known_≤ {a = pos 3 over 4} {b = pos 4 over 5} tt)) in
      near_at (ap (λ (n : ℕ). # (turned n (sin_kernel (remainder a n)) (cos_kernel (remainder a n))).0) (sym (no_turns i 0≤a a≤ h))) (ap Sᵥ r.value) s.near

  -- from there on 2^-47 and 2^-73 are less than 3/4 · 2^-45
  pub upward_sharp : {w : ℚ} → 2⁻ 27 ≤ # a → # a within w → w ≤ 1# → # (upward a).0 ≈⟨ w * 2⁻ 45 ⟩ Sᵥ (# a)
  upward_sharp {w} low h one = elim (≤_total (# a) (cls (pos 3 over 4))) [
    | inl l ↦ near_≤ (kernel_sharp low l) (le (# a ▸ w ▸ ∅) (λ a w. a ≼ w ⇒ λ h. 0ₑ ≼ w ⇒ λ k. a ⊗ con (part 48) ≼ w ⊗ con (part 45) by h ⊠ number (part 48) ⊞ k ⊠ number (part 45 -ᶠ part 48)) tt h.up (within_nonneg h))
    | inr l ↦ near_≤ (near_trans upward_near.near.of_s (small_near (val a) (within_≤ h one)).of_s)
        (le (# a ▸ w ▸ ∅) (λ a w. con (pos 3 over 4) ≼ a ⇒ λ l. a ≼ w ⇒ λ h. con (part 47) ⊕ con (part 73) ≼ w ⊗ con (part 45) by number (part 45) ⊠ (l ⊞ h)) tt l h.up)
  ]
