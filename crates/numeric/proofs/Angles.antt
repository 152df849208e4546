-- The angle of any point: that of its mirror image above the axis, with the sign of y; and the law, as specs/Laws.antt states it.
use Rattle.std.proofs.Common.{◌≡◌, pos, sym, refl, ap, ◌∙◌, subst, ap₂, inl, inr}
use Rattle.std.proofs.lemmas.Bool.{cond_both}
use lib.Ieee.{Float, lt}
use lib.Ieee.{neg as negᵍ}
use Rattle.exact.specs.Fraction.{Frac, whole, part, ◌over◌, ◌+ᶠ◌, ◌-ᶠ◌, ◌*ᶠ◌}
use Rattle.exact.specs.Sine.{sine, cosine}
use Rattle.exact.proofs.Ring.{con, ◌⊕◌, ◌⊗◌, ⊖◌, ◌⊝◌}
use Rattle.exact.proofs.Rational.{ℚ, cls, ◌+◌, ◌*◌, neg, ◌-◌, ∅, ◌▸◌, ◌≐◌, ring}
use Rattle.exact.proofs.Order.{◌≤◌, ◌<◌, squared, number, ◌⊞◌, ◌⊠◌, ◌≼◌, ◌by◌, ◌⇒◌, from_frac, to_frac}
use Rattle.exact.proofs.Order.{le as by_cert}
use Rattle.exact.proofs.Within.{0#, 1#, 0ₑ, 2⁻, 0≤part, computes, closed, ≤_refl, ≤_trans, ≤_of, ≤_antisym, root, not_≤, ◌within◌, within_*, within_≤, within_neg, within_at, within_self, <_not}
use Rattle.exact.proofs.Distance.{size_back}
use Rattle.exact.proofs.Pairs.{≋_at, ≋_self}
use Rattle.exact.proofs.Series.{Sᵥ, Cᵥ, S_odd, C_even}
use Rattle.exact.proofs.Sines.{exact, exact_mirror}
use Rattle.exact.proofs.Numbers.{≤_of_<}
use Rattle.rounding.specs.Value.{val, Is}
use Rattle.rounding.specs.Theorems.{magnitude}
use Rattle.rounding.proofs.Values.{#◌, neg_val, neg_value, neg_is}
use Rattle.rounding.proofs.Rounds.{own}
use Rattle.rounding.proofs.Compare.{lt_yes, lt_no}
use Rattle.rounding.proofs.Literals.{zero_exact}
use Rattle.rounding.proofs.Approx.{known_≤}
use Rattle.rounding.proofs.Stated.{either}
use Rattle.numeric.specs.Floats.{zero}
use Rattle.numeric.specs.ArcTangent.{atan2_float}
use Rattle.numeric.specs.Laws.{◌<ᶠ◌, IsAngle, AngleLaw}
use Rattle.numeric.proofs.Numbers.{fixed, opposite, in_magnitude}
use Rattle.numeric.proofs.Small.{small_near, small_sine}
use Rattle.numeric.proofs.Octants.{Slope, Faces, aside_near, behind, faces_mirror, faces_near, faces_at, in_all, Up, angle_up_is}

-- ---- in proportion to y, for 2⁻⁶⁰ x ≤ |y| ≤ x

-- m is |y|, and θ is |t|
module _ (t : Float) {θ : Float} {m x y : ℚ} (s : Slope θ m x) (lo : 2⁻ 60 * x ≤ m) (hy : y within m) (ht : # t within # θ) (h : y * Cᵥ (# t) - x * Sᵥ (# t) within m * (2⁻ 45 + 2⁻ 52) + x * 2⁻ 1074) where
  θ_one : # θ ≤ 1#
  θ_one = ≤_trans s.high (known_≤ tt)

  -- 2⁻⁴⁵ and 2⁻⁵² of the tangent, 2⁻⁷³ of the cosine, 9 · 2⁻⁷² of the sine; and what is lost below the normal range, which 2⁶⁰ does not bring near
  sharp_near : y * cls (cosine (val t)) - x * cls (sine (val t)) within m * 2⁻ 44
  sharp_near = within_≤ (aside_near y x (small_near (val t) (within_≤ ht θ_one)).of_c (small_sine (val t) ht θ_one) hy (within_self (≤_of_< s.above)) h)
      (by_cert (m ▸ x ▸ # θ ▸ ∅) (λ m x θ. con (part 60) ⊗ x ≼ m ⇒ λ l. θ ⊗ x ≼ con (whole (pos 9)) ⊗ m ⊕ x ⊗ con (part 1072) ⇒ λ k. 0ₑ ≼ m ⇒ λ z.
      m ⊗ (con (part 45) ⊕ con (part 52)) ⊕ x ⊗ con (part 1074) ⊕ (m ⊗ con (part 73) ⊕ x ⊗ (θ ⊗ con (part 72))) ≼ m ⊗ con (part 44)
      by number (part 72) ⊠ (k ⊞ number (part 1012) ⊠ l) ⊞ number (part 1014) ⊠ l ⊞ z ⊠ number (part 44 -ᶠ (part 45 +ᶠ part 52 +ᶠ part 1014 +ᶠ (part 73 +ᶠ part 72 *ᶠ (whole (pos 9) +ᶠ part 1012))))) tt lo s.small s.nonneg)

-- ---- |y|, by its square

abbrev pub ∣◌∣ : Float → ℚ
∣ y ∣ = cls (magnitude (val y))

0≤∣∣ : (y : Float) → 0# ≤ ∣ y ∣
unfolding computes
0≤∣∣ y = closed tt

∣∣_square : (y : Float) → ∣ y ∣ * ∣ y ∣ ≡ # y * # y
∣∣_square y = elim (either (val y)) [ inl e ↦ ap₂ (λ a b. a * b) e e | inr e ↦ ap₂ (λ a b. a * b) e e ∙ ring (# y ▸ ∅) (λ y. ⊖ y ⊗ ⊖ y ≐ y ⊗ y) tt ]

∣∣_is : (y : Float) {m : ℚ} → 0# ≤ m → m * m ≡ # y * # y → m ≡ ∣ y ∣
∣∣_is y h e = ≤_antisym (root (0≤∣∣ y) (≤_of (e ∙ sym (∣∣_square y)))) (root h (≤_of (∣∣_square y ∙ sym e)))

-- ---- the law over rational numbers

pub record Turned (t y x : Float) : Type 0 where
  pub is : Is t
  pub size : # t within cls (pos 63 over 20)
  pub faces : 0# < # x * # x + # y * # y → Faces (exact (val t)) (# y) (# x) (2⁻ 44) (cls (pos 1 over 128))
  pub origin : # x * # x + # y * # y ≤ 0# → t ≡ zero
  pub up : 0# < # y → 0# ≤ # t
  pub down : # y < 0# → # t ≤ 0#
  pub back : 0# ≤ # y → # x < 0# → 0# < # t
  pub sharp : 0# < # x → 2⁻ 60 * # x ≤ ∣ y ∣ → ∣ y ∣ ≤ # x → # y * cls (cosine (val t)) - # x * cls (sine (val t)) within ∣ y ∣ * 2⁻ 44

-- 2⁻⁷³ twice more for the mirror
in_44 : cls in_all + (2⁻ 73 + 2⁻ 73) ≤ 2⁻ 44
in_44 = fixed (con in_all ⊕ (con (part 73) ⊕ con (part 73)) ≼ con (part 44)) tt

still_ahead : cls (pos 1 over 128) + (2⁻ 73 + 2⁻ 73) ≤ cls (pos 1 over 64)
still_ahead = fixed (con (pos 1 over 128) ⊕ (con (part 73) ⊕ con (part 73)) ≼ con (pos 1 over 64)) tt

upper : {t y x : Float} → 0# ≤ # y → Up t y x → Turned t y x
upper {t} {y} {x} l u = record {
  is = u.is;
  size = within_≤ (within_self u.low) u.high;
  faces = λ p. faces_near (≋_self (exact (val t)) (0≤part 73)) in_44 still_ahead (u.faces p);
  origin = u.origin;
  up = λ p. u.low;
  down = λ n. absurd (<_not n l);
  back = λ p n. u.back n;
  sharp = λ p lo hi.
      let e = ∣∣_is y l refl in
      let s = subst (λ m. Slope t m (# x)) e (u.sharp p (≤_trans (≤_of e) hi)) in
      sharp_near t s lo (in_magnitude (val y)) (within_self u.low) (subst (λ m. m * Cᵥ (# t) - # x * Sᵥ (# t) within ∣ y ∣ * (2⁻ 45 + 2⁻ 52) + # x * 2⁻ 1074) (sym e) s.near);
}

module _ (y : Float) {t x : Float} (n : # y < 0#) (u : Up t (negᵍ y) x) where
  y² : # negᵍ y * # negᵍ y ≡ # y * # y
  y² = ap₂ (λ a b. a * b) (neg_value y) (neg_value y) ∙ ring (# y ▸ ∅) (λ y. ⊖ y ⊗ ⊖ y ≐ y ⊗ y) tt

  squares : # x * # x + # y * # y ≡ # x * # x + # negᵍ y * # negᵍ y
  squares = ap (λ z. # x * # x + z) (sym y²)

  size_of_y : # negᵍ y ≡ ∣ y ∣
  size_of_y = ∣∣_is y (≤_of_< (behind y n)) y²

  lower : Turned (negᵍ t) y x
  lower = record {
    is = neg_is u.is;
    size = within_at (sym (neg_value t)) (within_neg (within_≤ (within_self u.low) u.high));
    faces = λ p. faces_near (≋_at (ap exact (sym (neg_val t))) refl (exact_mirror (val t))) in_44 still_ahead (faces_at refl (opposite (neg_value y)) refl (faces_mirror (u.faces (subst (λ z. 0# < z) squares p))));
    origin = λ o. absurd (<_not (behind y n) (root (≤_refl 0#) (by_cert (# x ▸ # negᵍ y ▸ ∅) (λ x y. x ⊗ x ⊕ y ⊗ y ≼ 0ₑ ⇒ λ h. y ⊗ y ≼ 0ₑ ⊗ 0ₑ by h ⊞ squared x) tt (≤_trans (≤_of (sym squares)) o))));
    up = λ p. absurd (<_not n (≤_of_< p));
    down = λ m. ≤_trans (≤_of (neg_value t)) (by_cert (# t ▸ ∅) (λ t. 0ₑ ≼ t ⇒ λ h. ⊖ t ≼ 0ₑ by h) tt u.low);
    back = λ l m. absurd (<_not n l);
    sharp = λ p lo hi.
        let s = subst (λ m. Slope t m (# x)) size_of_y (u.sharp p (≤_trans (≤_of size_of_y) hi)) in
        let y_is : neg ∣ y ∣ ≡ # y = opposite (sym size_of_y ∙ neg_value y) in
        sharp_near (negᵍ t) s lo (in_magnitude (val y)) (within_at (sym (neg_value t)) (within_neg (within_self u.low)))
        (within_at (ring (∣ y ∣ ▸ # x ▸ Sᵥ (# t) ▸ Cᵥ (# t) ▸ ∅) (λ m x s c. ⊖ (m ⊗ c ⊝ x ⊗ s) ≐ ⊖ m ⊗ c ⊝ x ⊗ ⊖ s) tt
        ∙ ap₂ (λ c s. neg ∣ y ∣ * c - # x * s) (sym (ap Cᵥ (neg_value t) ∙ C_even (# t))) (sym (ap Sᵥ (neg_value t) ∙ S_odd (# t))) ∙ ap (λ z. z * Cᵥ (# negᵍ t) - # x * Sᵥ (# negᵍ t)) y_is) (within_neg s.near));
  }

-- ---- as fractions

pub turned : (y x : Float) → Is y → Is x → Turned (atan2_float y x) y x
unfolding atan2_float
turned y x i j = cond_both (lt y zero) _ _ (λ t. Turned t y x) (λ e. let n = lt_yes (own i) zero_exact e in lower y n (angle_up_is (neg_is i) j (≤_of_< (behind y n))))
    (λ e. let l = lt_no (own i) zero_exact e in upper l (angle_up_is i j l))

above : {a b : Frac} → a <ᶠ b → cls a < cls b
above {a} {b} h = not_≤ (λ k. h (to_frac b a k))

above_back : {a b : Frac} → cls a < cls b → a <ᶠ b
above_back {a} {b} h k = <_not h (from_frac b a k)

-- from a size to its square
square_≤ : (m : ℚ) {a n : ℚ} → a within m * 2⁻ 44 → m * m ≤ n → a * a ≤ 2⁻ 88 * n
square_≤ m {n = n} h k = ≤_trans (within_* h h).up (by_cert (m ▸ n ▸ ∅) (λ m n. m ⊗ m ≼ n ⇒ λ k. m ⊗ con (part 44) ⊗ (m ⊗ con (part 44)) ≼ con (part 88) ⊗ n by number (part 88) ⊠ k) tt k)

pub angle_law : AngleLaw
unfolding computes
angle_law y x i j =
    let t = turned y x i j in
    record {
      is = t.is;
      size = size_back _ _ t.size;
      near = λ p. let f = t.faces (above p) in to_frac _ _ (square_≤ f.far f.near f.inside);
      ahead = λ p.
          let f = t.faces (above p) in
          above_back (not_≤ (λ k. <_not f.above (by_cert (f.far ▸ ∅) (λ f. f ⊗ con (pos 1 over 128) ≼ 0ₑ ⇒ λ h. f ≼ 0ₑ by number (whole (pos 128)) ⊠ h) tt (≤_trans f.ahead k))));
      origin = λ o. t.origin (from_frac _ _ o);
      up = λ p. to_frac _ _ (t.up (above p));
      down = λ n. to_frac _ _ (t.down (above n));
      back = λ l n. above_back (t.back (from_frac _ _ l) (above n));
      sharp = λ p lo hi. to_frac _ _ (square_≤ ∣ y ∣ (t.sharp (above p) (from_frac _ _ lo) (from_frac _ _ hi)) (≤_of (∣∣_square y)));
    }

-- of what equals the float definition
pub angle_near : (y x t : Float) → t ≡ atan2_float y x → Is y → Is x → IsAngle t y x
angle_near y x t e i j = subst (λ (t : Float). IsAngle t y x) (sym e) (angle_law y x i j)
