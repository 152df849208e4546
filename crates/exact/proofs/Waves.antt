-- What S and C satisfy near 0: S² + C² is 1, their slopes are at most 1, and at x they are what C and −S are at x − P/2, each up to a small error.
use mathlib.Core.Path.{◌≡◌, refl, sym, ◌∙◌, ap, ap₂, subst}
use mathlib.Core.List.{List, [], ◌∷◌}
use mathlib.Core.Logic.{◌⊎◌, inl, inr}
use Prim.Native.Nat as N
use Prim.Native.Nat.{ℕ, zero, suc}
use lib.Dec.{T, lit<}
use lib.IntN.{ℤ, pos, negsuc, nat_abs}
use Rattle.exact.specs.Fraction.{Frac, den, whole, part, ◌over◌, ◌*ᶠ◌}
use Rattle.exact.specs.Sine.{P, quarter}
use Rattle.exact.proofs.Ring.{con, ◌⊕◌, ◌⊗◌, ⊖◌, ◌⊝◌}
use Rattle.exact.proofs.Rational.{ℚ, cls, ◌+◌, ◌*◌, neg, ◌-◌, nonneg, ∅, ◌▸◌, ◌≐◌, ring}
use Rattle.exact.proofs.Order.{◌≤◌, half, squared, number, ◌⊞◌, ◌⊠◌, ◌≼◌, ◌by◌, ◌⇒◌, le, sign}
use Rattle.exact.proofs.Within.{0#, 1#, 0ₑ, 1ₑ, num, 2⁻, num_*, 0≤num, computes, closed, root, ◌within◌, within_+, within_*, within_≤, within_neg, within_at, within_self, within_nonneg, ◌≈⟨◌⟩◌, near, near_at, near_sym}
use Rattle.exact.proofs.Numbers.{divide}
use Rattle.exact.proofs.Pairs.{◌≋⟨◌⟩◌, radius², ahead}
use Rattle.exact.proofs.Polys.{derivative, bound, bend, ℤ_num, ℤ_means, Px, leaf, ◌⊹◌, ◌⊛◌, ~◌, ◌at◌, flat, mean, flat_bound, flat_over, const_is, line_is, tangent, bend_is, turn_off}
use Rattle.exact.proofs.Series.{pow, Sₚ, Cₚ, Sᵥ, Cᵥ, S_is, C_is, S₁_is, C₁_is, S_odd, C_even, value, common, wave}

-- ---- S² + C² = 1

abbrev κ : ℕ
κ = common 1

abbrev κ² : ℕ
κ² = N.◌*◌ κ κ

-- κ² (S² + C² − 1)
abbrev circle_poly : Px ℤ
circle_poly = leaf (Sₚ 1) ⊛ leaf (Sₚ 1) ⊹ leaf (Cₚ 1) ⊛ leaf (Cₚ 1) ⊹ ~ leaf (pos κ² ∷ [])

circle_is : (x : ℚ) → mean ℤ_num ℤ_means x circle_poly ≡ num κ² * (radius² (wave x) - 1#)
circle_is x = rw (S₁_is x, C₁_is x, const_is ℤ_num ℤ_means (pos κ²) x, num_* κ κ)
    (ring (num κ ▸ Sᵥ x ▸ Cᵥ x ▸ ∅) (λ κ s c. κ ⊗ s ⊗ (κ ⊗ s) ⊕ κ ⊗ c ⊗ (κ ⊗ c) ⊝ κ ⊗ κ ≐ κ ⊗ κ ⊗ (s ⊗ s ⊕ c ⊗ c ⊝ 1ₑ)) tt)

-- the terms up to r²³ cancel; r²⁴ has 2^-73.5, and all that are left together 2^-73.3
circle_small : num (bound ℤ_num 1 (flat ℤ_num circle_poly)) * cls (pos 1 over κ²) ≤ 2⁻ 73
unfolding computes Sₚ Cₚ
circle_small = closed tt

pub circle : (x : ℚ) → x within 1# → radius² (wave x) - 1# within 2⁻ 73
circle x h = flat_over ℤ_num ℤ_means x circle_poly κ² (lit< tt) h (circle_is x) circle_small

-- ---- |S|, |C| ≤ 1 + 2⁻⁷³

abbrev pub just_over : ℚ
just_over = 1# + 2⁻ 73

pub swap : (s c : ℚ) → s * s + c * c - 1# ≡ c * c + s * s - 1#
swap s c = ring (s ▸ c ▸ ∅) (λ s c. s ⊗ s ⊕ c ⊗ c ⊝ 1ₑ ≐ c ⊗ c ⊕ s ⊗ s ⊝ 1ₑ) tt

-- y² ≤ 1 + e ≤ (1 + e)²
pub size : (y z : ℚ) → y * y + z * z - 1# within 2⁻ 73 → y within just_over
unfolding computes
size y z h = record { up = root over_0 y²; down = root over_0 (subst (λ v. v ≤ just_over * just_over) (ring (y ▸ ∅) (λ y. y ⊗ y ≐ ⊖ y ⊗ ⊖ y) tt) y²) }
  where
    over_0 : 0# ≤ just_over
    over_0 = closed tt

    y² : y * y ≤ just_over * just_over
    y² = le (y ▸ z ▸ 2⁻ 73 ▸ ∅) (λ y z e. y ⊗ y ⊕ z ⊗ z ⊝ 1ₑ ≼ e ⇒ λ h. 0ₑ ≼ e ⇒ λ k. y ⊗ y ≼ (1ₑ ⊕ e) ⊗ (1ₑ ⊕ e) by h ⊞ squared z ⊞ squared e ⊞ k) tt h.up (closed tt)

pub S_size : (x : ℚ) → x within 1# → Sᵥ x within just_over
S_size x h = size (Sᵥ x) (Cᵥ x) (circle x h)

pub C_size : (x : ℚ) → x within 1# → Cᵥ x within just_over
C_size x h = size (Cᵥ x) (Sᵥ x) (within_at (swap (Sᵥ x) (Cᵥ x)) (circle x h))

-- ---- a bound of the slope bounds the change: by the tangent with an error for its bend, and that error is halved by going in two steps

module _ (p : List ℤ) (B : ℚ) (slope : (x : ℚ) → x within 1# → value (derivative ℤ_num p) x within B) where
  -- |p(b) − p(a)| ≤ w B + w² e
  Steady : ℚ → Type 0
  Steady e = (a b w : ℚ) → a within 1# → b within 1# → b - a within w → value p b - value p a within w * B + w * w * e

  steady_first : Steady (num (bend ℤ_num 1 p))
  unfolding Steady
  steady_first a b w ha hb hw = within_at
      (ring (value p a ▸ (b - a) ▸ value (derivative ℤ_num p) a ▸ turn_off ℤ_num ℤ_means p a (b - a) ▸ ∅) (λ p h d t. h ⊗ d ⊕ h ⊗ h ⊗ t ≐ p ⊕ h ⊗ d ⊕ h ⊗ h ⊗ t ⊝ p) tt
      ∙ ap (λ v. v - value p a) (sym (tangent ℤ_num ℤ_means p a (b - a))) ∙ ap (λ v. value p v - value p a) there)
      (within_+ (within_* hw (slope a ha)) (within_* (within_* hw hw) (bend_is ℤ_num ℤ_means p (b - a) ha (within_at (sym there) hb))))
    where
      there : a + (b - a) ≡ b
      there = ring (a ▸ b ▸ ∅) (λ a b. a ⊕ (b ⊝ a) ≐ b) tt

  steady_half : (e : ℚ) → Steady e → Steady (cls half * e)
  unfolding Steady
  steady_half e f a b w ha hb hw = subst (λ z. value p b - value p a within z)
      (ring (w ▸ B ▸ e ▸ ∅) (λ w B e. con half ⊗ w ⊗ B ⊕ con half ⊗ w ⊗ (con half ⊗ w) ⊗ e ⊕ (con half ⊗ w ⊗ B ⊕ con half ⊗ w ⊗ (con half ⊗ w) ⊗ e) ≐ w ⊗ B ⊕ w ⊗ w ⊗ (con half ⊗ e)) tt)
      (within_at (ring (value p a ▸ value p b ▸ value p c ▸ ∅) (λ p q r. q ⊝ r ⊕ (r ⊝ p) ≐ q ⊝ p) tt)
      (within_+ (f c b w/2 hc hb (within_at (ring (a ▸ b ▸ ∅) (λ a b. con half ⊗ (b ⊝ a) ≐ b ⊝ (con half ⊗ (a ⊕ b))) tt) hw/2))
      (f a c w/2 ha hc (within_at (ring (a ▸ b ▸ ∅) (λ a b. con half ⊗ (b ⊝ a) ≐ con half ⊗ (a ⊕ b) ⊝ a) tt) hw/2))))
    where
      c : ℚ
      c = cls half * (a + b)

      w/2 : ℚ
      w/2 = cls half * w

      by_half : {y z : ℚ} → y within z → cls half * y within cls half * z
      by_half {y} {z} h = record {
        up = le (y ▸ z ▸ ∅) (λ y z. y ≼ z ⇒ λ h. con half ⊗ y ≼ con half ⊗ z by number half ⊠ h) tt h.up;
        down = le (y ▸ z ▸ ∅) (λ y z. ⊖ y ≼ z ⇒ λ h. ⊖ (con half ⊗ y) ≼ con half ⊗ z by number half ⊠ h) tt h.down;
      }

      hw/2 : cls half * (b - a) within w/2
      hw/2 = by_half hw

      hc : c within 1#
      hc = subst (λ z. c within z) (ring ∅ (con half ⊗ (1ₑ ⊕ 1ₑ) ≐ 1ₑ) tt) (by_half (within_+ ha hb))

  steadier : (n : ℕ) → Steady (pow (cls half) n * num (bend ℤ_num 1 p))
  unfolding pow
  steadier zero = subst Steady (ring (num (bend ℤ_num 1 p) ▸ ∅) (λ b. b ≐ 1ₑ ⊗ b) tt) steady_first
  steadier (suc n) = subst Steady (ring (cls half ▸ pow (cls half) n ▸ num (bend ℤ_num 1 p) ▸ ∅) (λ h p b. h ⊗ (p ⊗ b) ≐ h ⊗ p ⊗ b) tt) (steady_half (pow (cls half) n * num (bend ℤ_num 1 p)) (steadier n))

  -- |b − a| ≤ 2, so that |p(b) − p(a)| ≤ w (B + 2 e)
  module _ (e : ℚ) (s : Steady e) (0≤B : 0# ≤ B) (0≤e : 0# ≤ e) (a b w : ℚ) (ha : a within 1#) (hb : b within 1#) (hw : b - a within w) where
    by_length : (v : ℚ) → 0# ≤ v → b - a within v → v ≤ w → v ≤ num 2 → value p b - value p a within w * (B + num 2 * e)
    unfolding Steady
    by_length v v0 hv vw v2 = within_≤ (s a b v ha hb hv)
        (le (v ▸ w ▸ B ▸ e ▸ ∅) (λ v w B e. v ≼ w ⇒ λ h. 0ₑ ≼ B ⇒ λ k. 0ₑ ≼ v ⇒ λ l. v ≼ con (whole (pos 2)) ⇒ λ m. 0ₑ ≼ e ⇒ λ n. v ⊗ B ⊕ v ⊗ v ⊗ e ≼ w ⊗ (B ⊕ con (whole (pos 2)) ⊗ e)
        by h ⊠ k ⊞ l ⊠ m ⊠ n ⊞ number (whole (pos 2)) ⊠ h ⊠ n) tt vw 0≤B v0 v2 0≤e)

    bounded_change : value p b - value p a within w * (B + num 2 * e)
    bounded_change = go (sign (b - a))
      where
        0≤ : {x : ℚ} → T (nonneg x) → 0# ≤ x
        0≤ {x} t = record { by = subst (λ z. T (nonneg z)) (ring (x ▸ ∅) (λ x. x ≐ x ⊝ 0ₑ) tt) t }

        go : T (nonneg (b - a)) ⊎ T (nonneg (neg (b - a))) → value p b - value p a within w * (B + num 2 * e)
        go (inl t) = by_length (b - a) (0≤ t) (within_self (0≤ t)) hw.up
            (le (a ▸ b ▸ ∅) (λ a b. ⊖ a ≼ 1ₑ ⇒ λ h. b ≼ 1ₑ ⇒ λ k. b ⊝ a ≼ con (whole (pos 2)) by h ⊞ k) tt ha.down hb.up)
        go (inr t) = by_length (neg (b - a)) (0≤ t) (within_at (ring ((b - a) ▸ ∅) (λ h. ⊖ ⊖ h ≐ h) tt) (within_neg (within_self (0≤ t)))) hw.down
            (le (a ▸ b ▸ ∅) (λ a b. ⊖ b ≼ 1ₑ ⇒ λ h. a ≼ 1ₑ ⇒ λ k. ⊖ (b ⊝ a) ≼ con (whole (pos 2)) by h ⊞ k) tt hb.down ha.up)

-- ---- the slopes of S and C, at |x| ≤ 1: S' − C and C' + S are bounded by computing, C and S by their sizes

abbrev S_slope_off : Px ℤ
S_slope_off = leaf (derivative ℤ_num (Sₚ 1)) ⊹ ~ leaf (Cₚ 1)

abbrev C_slope_off : Px ℤ
C_slope_off = leaf (derivative ℤ_num (Cₚ 1)) ⊹ leaf (Sₚ 1)

abbrev slope_bound : Px ℤ → ℚ
slope_bound off = num (bound ℤ_num 1 (flat ℤ_num off)) + num κ * just_over

times_κ : {y : ℚ} → y within just_over → num κ * y within num κ * just_over
times_κ h = within_* (within_self (0≤num κ)) h

S_slope : (x : ℚ) → x within 1# → value (derivative ℤ_num (Sₚ 1)) x within slope_bound S_slope_off
S_slope x h = within_at (ring (value (derivative ℤ_num (Sₚ 1)) x ▸ value (Cₚ 1) x ▸ ∅) (λ d c. d ⊝ c ⊕ c ≐ d) tt)
    (within_+ (flat_bound ℤ_num ℤ_means x S_slope_off h) (within_at (sym (C₁_is x)) (times_κ (C_size x h))))

C_slope : (x : ℚ) → x within 1# → value (derivative ℤ_num (Cₚ 1)) x within slope_bound C_slope_off
C_slope x h = within_at (ring (value (derivative ℤ_num (Cₚ 1)) x ▸ value (Sₚ 1) x ▸ ∅) (λ d s. d ⊕ s ⊝ s ≐ d) tt)
    (within_+ (flat_bound ℤ_num ℤ_means x C_slope_off h) (within_neg (within_at (sym (S₁_is x)) (times_κ (S_size x h)))))

-- ---- S and C change by at most (1 + 2⁻⁶⁸) w: 1/22! = 2^-69.9 for S' − C, 0 for C' + S, 2⁻⁷³ for the sizes, 2^-89 for the bend

-- the bend's part after 90 halvings
abbrev last_bend : List ℤ → ℚ
last_bend p = pow (cls half) 90 * num (bend ℤ_num 1 p)

module _ (p : List ℤ) (v : ℚ → ℚ) (p_is : (x : ℚ) → value p x ≡ num κ * v x) (B : ℚ) (slope : (x : ℚ) → x within 1# → value (derivative ℤ_num p) x within B)
    (0≤B : 0# ≤ B) (0≤e : 0# ≤ last_bend p) (small : (B + num 2 * last_bend p) * cls (pos 1 over κ) ≤ 1# + 2⁻ 68) where
  change : (a b w : ℚ) → a within 1# → b within 1# → b - a within w → v b ≈⟨ w * (1# + 2⁻ 68) ⟩ v a
  change a b w ha hb hw = near (divide κ (lit< tt)
      (within_at (ap₂ (λ y z. y - z) (p_is b) (p_is a) ∙ ring (num κ ▸ v a ▸ v b ▸ ∅) (λ κ s t. κ ⊗ t ⊝ κ ⊗ s ≐ κ ⊗ (t ⊝ s)) tt)
      (bounded_change p B slope (last_bend p) (steadier p B slope 90) 0≤B 0≤e a b w ha hb hw))
      (le (w ▸ (B + num 2 * last_bend p) ▸ cls (pos 1 over κ) ▸ ∅) (λ w c i. 0ₑ ≼ w ⇒ λ h. c ⊗ i ≼ 1ₑ ⊕ con (part 68) ⇒ λ k. w ⊗ c ⊗ i ≼ w ⊗ (1ₑ ⊕ con (part 68)) by h ⊠ k) tt (within_nonneg hw) small)) refl

S_change : (a b w : ℚ) → a within 1# → b within 1# → b - a within w → Sᵥ b ≈⟨ w * (1# + 2⁻ 68) ⟩ Sᵥ a
unfolding computes Sₚ Cₚ pow
S_change = change (Sₚ 1) Sᵥ S₁_is (slope_bound S_slope_off) S_slope (closed tt) (closed tt) (closed tt)

C_change : (a b w : ℚ) → a within 1# → b within 1# → b - a within w → Cᵥ b ≈⟨ w * (1# + 2⁻ 68) ⟩ Cᵥ a
unfolding computes Sₚ Cₚ pow
C_change = change (Cₚ 1) Cᵥ C₁_is (slope_bound C_slope_off) C_slope (closed tt) (closed tt) (closed tt)

pub wave_steady : (a b w : ℚ) → a within 1# → b within 1# → b - a within w → wave b ≋⟨ w * (1# + 2⁻ 68) ⟩ wave a
wave_steady a b w ha hb hw = record { of_s = S_change a b w ha hb hw; of_c = C_change a b w ha hb hw }

-- ---- x near P/4: S and C at x are C and −S at x − P/2

-- P/4, and as a number of parts of P's denominator
abbrev pub eighth : Frac
eighth = quarter *ᶠ half

abbrev δ : ℕ
δ = den P

abbrev δ/4 : ℕ
δ/4 = N.◌/◌ (nat_abs P.num) 4

abbrev κδ : ℕ
κδ = common δ

-- κ (S(P/4 + y) − C(P/4 − y)) in δ y
abbrev phase_poly : Px ℤ
phase_poly = Sₚ δ at leaf (pos δ/4 ∷ pos 1 ∷ []) ⊹ ~ (Cₚ δ at leaf (pos δ/4 ∷ negsuc 0 ∷ []))

phase_is : (y : ℚ) → mean ℤ_num ℤ_means (num δ * y) phase_poly ≡ num κδ * (Sᵥ (cls eighth + y) - Cᵥ (cls eighth - y))
phase_is y = ap₂ (λ u v. u - v)
    (ap (value (Sₚ δ)) (line_is ℤ_num ℤ_means (pos δ/4) (pos 1) (num δ * y)
    ∙ ring (y ▸ ∅) (λ y. con (whole (pos δ/4)) ⊕ con (whole (pos δ)) ⊗ y ⊗ 1ₑ ≐ con (whole (pos δ)) ⊗ (con eighth ⊕ y)) tt)
    ∙ S_is δ (cls eighth + y) tt)
    (ap (value (Cₚ δ)) (line_is ℤ_num ℤ_means (pos δ/4) (negsuc 0) (num δ * y)
    ∙ ring (y ▸ ∅) (λ y. con (whole (pos δ/4)) ⊕ con (whole (pos δ)) ⊗ y ⊗ con (whole (negsuc 0)) ≐ con (whole (pos δ)) ⊗ (con eighth ⊝ y)) tt)
    ∙ C_is δ (cls eighth - y) tt)
    ∙ ring (num κδ ▸ Sᵥ (cls eighth + y) ▸ Cᵥ (cls eighth - y) ▸ ∅) (λ κ s c. κ ⊗ s ⊝ κ ⊗ c ≐ κ ⊗ (s ⊝ c)) tt

-- for x within f of P/4, up to e
abbrev pub Phase : ℚ → ℚ → Type 0
Phase f e = (x : ℚ) → x - cls eighth within f → wave x ≋⟨ e ⟩ ahead (wave (x - cls quarter))

module _ (f : Frac) (m : ℕ) (fits : num δ * cls f ≡ num m) (e : ℚ) (small : num (bound ℤ_num m (flat ℤ_num phase_poly)) * cls (pos 1 over κδ) ≤ e) where
  S_is_C : (y : ℚ) → y within cls f → Sᵥ (cls eighth + y) ≈⟨ e ⟩ Cᵥ (cls eighth - y)
  S_is_C y h = near (flat_over ℤ_num ℤ_means (num δ * y) phase_poly κδ (lit< tt) (subst (λ z. num δ * y within z) fits (within_* (within_self (0≤num δ)) h)) (phase_is y) small) refl

  phase : Phase (cls f) e
  phase x h = record {
    of_s = near_at (ap Sᵥ (ring (x ▸ ∅) (λ x. con eighth ⊕ (x ⊝ con eighth) ≐ x) tt)) (ap Cᵥ beyond ∙ C_even (x - cls quarter)) (S_is_C (x - cls eighth) h);
    of_c = near_sym (near_at (ap Sᵥ beyond ∙ S_odd (x - cls quarter)) (ap Cᵥ (ring (x ▸ ∅) (λ x. con eighth ⊝ ⊖ (x ⊝ con eighth) ≐ x) tt)) (S_is_C (neg (x - cls eighth)) (within_neg h)));
  }
    where
      beyond : cls eighth - (x - cls eighth) ≡ neg (x - cls quarter)
      beyond = ring (x ▸ ∅) (λ x. con eighth ⊝ (x ⊝ con eighth) ≐ ⊖ (x ⊝ con quarter)) tt

-- the first missing term of S, (P/4 + 1/4)²³/23! = 2^-73.3 within 1/4 of P/4, and (P/4 + 4/5)²³/23! = 2^-59.2 within 4/5
narrow_small : num (bound ℤ_num (N.◌/◌ δ 4) (flat ℤ_num phase_poly)) * cls (pos 1 over κδ) ≤ 2⁻ 73
unfolding computes Sₚ Cₚ
narrow_small = closed tt

wide_small : num (bound ℤ_num (N.◌/◌ (N.◌*◌ 4 δ) 5) (flat ℤ_num phase_poly)) * cls (pos 1 over κδ) ≤ 2⁻ 59
unfolding computes Sₚ Cₚ
wide_small = closed tt

pub narrow : Phase (cls (pos 1 over 4)) (2⁻ 73)
narrow = phase (pos 1 over 4) (N.◌/◌ δ 4) (ring ∅ (con (whole (pos δ)) ⊗ con (pos 1 over 4) ≐ con (whole (pos (N.◌/◌ δ 4)))) tt) (2⁻ 73) narrow_small

pub wide : Phase (cls (pos 4 over 5)) (2⁻ 59)
wide = phase (pos 4 over 5) (N.◌/◌ (N.◌*◌ 4 δ) 5) (ring ∅ (con (whole (pos δ)) ⊗ con (pos 4 over 5) ≐ con (whole (pos (N.◌/◌ (N.◌*◌ 4 δ) 5)))) tt) (2⁻ 59) wide_small
