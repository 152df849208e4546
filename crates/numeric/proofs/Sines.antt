-- The laws of sine and cosine: by those of an angle that is not negative, for either sign and for small angles.
use Rattle.std.proofs.Common.{◌≡◌, Bool, true, false, cond, ◌⊎◌, pos, sym, refl, ap, ◌∙◌, subst, inl, inr}
use lib.Ieee as F
use lib.Ieee.{Float, nan, inf, fin, fits, of_bits, lt}
use Rattle.std.specs.Float.{float_with_sign}
use Rattle.exact.specs.Fraction.{Frac, whole, part, ◌+ᶠ◌, ◌-ᶠ◌, ◌*ᶠ◌}
use Rattle.exact.specs.Fraction.{neg as negᶠ}
use Rattle.exact.specs.Sine.{sine, cosine}
use Rattle.exact.proofs.Ring.{con, ◌⊕◌, ◌⊗◌}
use Rattle.exact.proofs.Rational.{ℚ, cls, ◌+◌, ◌*◌, neg, neg_cls, times_cls, ∅, ◌▸◌}
use Rattle.exact.proofs.Order.{◌≤◌, ◌<◌, number, ◌⊠◌, ◌≼◌, ◌by◌, ◌⇒◌, le}
use Rattle.exact.proofs.Within.{0#, 1#, 0ₑ, num, 2⁻, 0≤part, computes, closed, ≤_trans, ≤_of, ◌within◌, within_≤, within_at, within_self, within_neg, within_nonneg, ◌≈⟨◌⟩◌, near_at, near_≤, near_trans, near_self, near_sym, near_neg, <_not}
use Rattle.exact.proofs.Distance.{close, close_back}
use Rattle.exact.proofs.Distance.{size as size_in}
use Rattle.exact.proofs.Series.{Sᵥ, S_odd}
use Rattle.exact.proofs.Sines.{exact, exact_equal, exact_mirror, sine_size, cosine_size}
use Rattle.exact.proofs.Numbers.{≤_of_<}
use Rattle.rounding.specs.Value.{val, Is}
use Rattle.rounding.specs.Theorems.{magnitude}
use Rattle.rounding.proofs.Values.{#◌, neg_value, neg_is}
use Rattle.rounding.proofs.Rounds.{Exact, own}
use Rattle.rounding.proofs.Compare.{lt_yes, lt_no}
use Rattle.rounding.proofs.Convert.{literal_exact}
use Rattle.rounding.proofs.Literals.{zero_exact}
use Rattle.rounding.proofs.Approx.{known_≤, Approx, given, looser}
use Rattle.numeric.specs.Floats.{bits, tiny, size}
use Rattle.numeric.specs.Sine.{upward, sin_float, cos_float}
use Rattle.numeric.specs.Laws.{Angle, IsSine, IsCosine, SineLaw, CosineLaw}
use Rattle.numeric.proofs.Numbers.{fixed, opposite, own_opposite, in_magnitude, magnitude_≤}
use Rattle.numeric.proofs.Polynomials.{share_≤}
use Rattle.numeric.proofs.Kernels.{S_tiny}
use Rattle.numeric.proofs.Small.{small_near, small_sine}
use Rattle.numeric.proofs.Upward.{PairNear, upward_near, upward_sharp}

-- ---- the size of a float

pub sized : (v : Float) → Is v → Is (size v) × (0# ≤ # size v) × ((# size v ≡ # v) ⊎ (# size v ≡ neg (# v)))
unfolding float_with_sign F.neg computes
sized nan i = absurd i.fin
sized (inf s) i = absurd i.fin
sized (fin false m e) i = (i, closed tt, inl refl)
sized (fin true m e) i = (neg_is i, closed tt, inr (neg_value (fin true m e)))

module _ {v : Float} (i : Is v) where
  pub size_within : {b : ℚ} → # size v ≤ b → # v within b
  size_within l =
      let h = within_≤ (within_self (sized v i).1) l in
      elim (sized v i).2 [ inl e ↦ within_at e h | inr e ↦ within_at (opposite e) (within_neg h) ]

  pub size_≤ : {b : ℚ} → # v within b → # size v ≤ b
  size_≤ h = elim (sized v i).2 [ inl e ↦ ≤_trans (≤_of e) h.up | inr e ↦ ≤_trans (≤_of e) h.down ]

  pub size_above : 0# ≤ # v → # size v ≡ # v
  size_above l = elim (sized v i).2 [ inl e ↦ e | inr e ↦ e ∙ own_opposite l (≤_trans (sized v i).1 (≤_of e)) ]

  pub size_below : # v < 0# → # size v ≡ neg (# v)
  size_below l = elim (sized v i).2 [ inl e ↦ absurd (<_not l (≤_trans (sized v i).1 (≤_of e))) | inr e ↦ e ]

-- ---- s is the sine of v up to e; and up to a share of any w that is |v| at tiny, for |v| ≤ 1, where it is held against the series

record SineNear (s : Float) (v : Frac) (e : ℚ) : Type 0 where
  is : Is s
  near : # s ≈⟨ e ⟩ cls (sine v)
  sharp : {w : ℚ} → cls v within w → w ≤ 1# → # s ≈⟨ w * 2⁻ 45 ⟩ Sᵥ (cls v)

sine_equal : {s : Float} {u v : Frac} {e : ℚ} → cls u ≡ cls v → SineNear s u e → SineNear s v e
sine_equal {u = u} {v} p h = record {
  is = h.is;
  near = near_at refl (ap (λ w. w.s) (exact_equal u v p)) h.near;
  sharp = λ {w} k l. near_at refl (ap Sᵥ p) (h.sharp (within_at (sym p) k) l);
}

sine_opposite : {s : Float} {v : Frac} {e : ℚ} → SineNear s v e → SineNear (F.neg s) (negᶠ v) (e + 2⁻ 73)
sine_opposite {s} {v} h = record {
  is = neg_is h.is;
  near = near_trans (near_at (sym (neg_value s)) refl (near_neg h.near)) (near_sym (exact_mirror v).of_s);
  sharp = λ {w} k l. near_at (sym (neg_value s)) (sym (ap Sᵥ (neg_cls v) ∙ S_odd (cls v))) (near_neg (h.sharp (within_at (opposite (neg_cls v)) (within_neg k)) l));
}

-- below 2^-27 in size: a share of 2^-54
tiny_sine : {v : Float} → Is v → # v within 2⁻ 27 → SineNear v (val v) (2⁻ 72)
tiny_sine {v} i h = record {
  is = i;
  near = near_≤ (near_trans (S_tiny h h) (near_sym (small_near (val v) (within_≤ h (known_≤ tt))).of_s)) (fixed (con (part 27) ⊗ con (part 54) ⊕ con (part 73) ≼ con (part 72)) tt);
  sharp = λ {w} k l. near_≤ (S_tiny h k) (share_≤ (within_nonneg k) (known_≤ {a = part 54} {b = part 45} tt));
}

-- as specs/Laws.antt states it: the exact sine is the series up to a share of 2^-72
stated : {s v : Float} {e : ℚ} → SineNear s (val v) e → e ≤ 2⁻ 44 → IsSine s v
stated {s} {v} h l = record { near = (h.is, close_back (val s) (part 44) (sine (val v)) (near_≤ h.near l)); sharp = λ one. close_back (val s) (part 44 *ᶠ magnitude (val v)) (sine (val v)) (sharper (magnitude_≤ (val v) (size_in one))) }
  where
    sharper : cls (magnitude (val v)) ≤ 1# → # s ≈⟨ cls (part 44 *ᶠ magnitude (val v)) ⟩ cls (sine (val v))
    sharper one =
        let k = in_magnitude (val v) in
        near_≤ (near_trans (h.sharp k one) (near_sym (small_sine (val v) k one)))
        (≤_trans (le (cls (magnitude (val v)) ▸ ∅) (λ w. 0ₑ ≼ w ⇒ λ h. w ⊗ con (part 45) ⊕ w ⊗ con (part 72) ≼ con (part 44) ⊗ w by h ⊠ number (part 44 -ᶠ (part 45 +ᶠ part 72))) tt (within_nonneg k)) (≤_of (sym (times_cls (part 44) (magnitude (val v))))))

-- ---- the laws

tiny_exact : Exact tiny (2⁻ 27)
unfolding of_bits fits
tiny_exact = literal_exact tt refl

-- 2^-47 upward, 2^-73 for the sign
signed_most : 2⁻ 47 + 2⁻ 73 ≤ 2⁻ 44
signed_most = fixed (con (part 47) ⊕ con (part 73) ≼ con (part 44)) tt

module _ (v : Float) (h : Angle v) where
  a : Float
  a = size v

  is_a : Is a
  unfolding a
  is_a = (sized v h.is).0

  0≤a : 0# ≤ # a
  unfolding a
  0≤a = (sized v h.is).1

  a≤ : # a ≤ num 1000
  unfolding a
  a≤ = size_≤ h.is (size_in h.size)

  upward_both : PairNear (upward a) (2⁻ 47) (exact (val a))
  upward_both = upward_near is_a 0≤a a≤

  cosine_even : cls (cosine (val a)) ≈⟨ 2⁻ 73 ⟩ cls (cosine (val v))
  unfolding a
  cosine_even = elim (sized v h.is).2 [
    | inl e ↦ near_at refl (ap (λ w. w.c) (exact_equal (val a) (val v) e)) (near_self (cls (cosine (val a))) (0≤part 73))
    | inr e ↦ near_at (ap (λ w. w.c) (exact_equal (negᶠ (val v)) (val a) (neg_cls (val v) ∙ sym e))) refl (exact_mirror (val v)).of_c
  ]

  is_cosine : IsCosine (cos_float v) v
  unfolding a
  is_cosine = (upward_both.is_c, close_back (val (cos_float v)) (part 44) (cosine (val v)) (near_≤ (near_trans upward_both.near.of_c cosine_even) signed_most))

  upward_sine : lt a tiny ≡ false → SineNear (upward a).0 (val a) (2⁻ 47)
  upward_sine e = record { is = upward_both.is_s; near = upward_both.near.of_s; sharp = λ {w} k l. upward_sharp is_a 0≤a a≤ (lt_no (own is_a) tiny_exact e) k l }

  is_sine : IsSine (sin_float v) v
  unfolding a
  is_sine = go (lt a tiny) refl (lt v (bits 0)) refl
    where
      go : (b : Bool) → lt a tiny ≡ b → (c : Bool) → lt v (bits 0) ≡ c → IsSine (cond b v (cond c (F.neg (upward a).0) (upward a).0)) v
      go true e c f = stated (tiny_sine h.is (size_within h.is (≤_of_< (lt_yes (own is_a) tiny_exact e)))) (known_≤ tt)
      go false e true f = stated (sine_equal (neg_cls (val a) ∙ opposite (size_below h.is (lt_yes (own h.is) zero_exact f))) (sine_opposite (upward_sine e))) signed_most
      go false e false f = stated (sine_equal (size_above h.is (lt_no (own h.is) zero_exact f)) (upward_sine e)) (known_≤ tt)

pub sine_law : SineLaw
sine_law = is_sine

pub cosine_law : CosineLaw
cosine_law = is_cosine

-- of a pair that is the two of v
pub both_near : (v : Float) {s c : Float} → s ≡ sin_float v → c ≡ cos_float v → Angle v → IsSine s v × IsCosine c v
both_near v d e h = (subst (λ s. IsSine s v) (sym d) (sine_law v h), subst (λ c. IsCosine c v) (sym e) (cosine_law v h))

-- ---- for the analysis of what uses them: 1 + 2^-73 of the exact ones, and 2^-44

module _ (v : Float) where
  pub sine_approx : {s : Float} → IsSine s v → Approx s (cls (sine (val v))) (whole (pos 1) +ᶠ part 43) (part 44)
  unfolding computes
  sine_approx h = looser (given {b = whole (pos 1) +ᶠ part 73} (record { is = h.near.0; near = close h.near.1 }) (sine_size (val v))) tt tt

  pub cosine_approx : {c : Float} → IsCosine c v → Approx c (cls (cosine (val v))) (whole (pos 1) +ᶠ part 43) (part 44)
  unfolding computes
  cosine_approx h = looser (given {b = whole (pos 1) +ᶠ part 73} (record { is = h.0; near = close h.1 }) (cosine_size (val v))) tt tt
