-- The arc tangent of a q from 0 to 1: q itself where it is tiny, the series up to 1/8, and above that the angle a of a near b and the small angle of (q − b) / (1 + q b), which the addition theorem joins.
use lib.Ieee.Fits.{and_l, and_r}
use Rattle.std.proofs.Common.{◌≡◌, Bool, false, cond, ◌&&◌, T, pos, sym, ap, ◌∙◌}
use Rattle.std.proofs.lemmas.Bool.{cond_both}
use lib.Ieee.{Float, binary64, fits, of_bits, lt}
use lib.Ieee.Scale.{finite}
use Rattle.exact.specs.Fraction.{Frac, whole, part, ◌over◌, inverse, ◌+ᶠ◌, ◌-ᶠ◌, ◌*ᶠ◌}
use Rattle.exact.specs.Fraction.{neg as negᶠ}
use Rattle.exact.specs.Sine.{S, C, alternating}
use Rattle.exact.proofs.Ring.{con, ◌⊕◌, ◌⊗◌, ⊖◌, ◌⊝◌}
use Rattle.exact.proofs.Rational.{ℚ, cls, ◌+◌, ◌*◌, ◌-◌, ∅, ◌▸◌, ◌≐◌, ring}
use Rattle.exact.proofs.Order.{◌≤◌, number, ◌⊞◌, ◌⊠◌, ◌≼◌, ◌by◌, ◌⇒◌}
use Rattle.exact.proofs.Order.{le as by_cert}
use Rattle.exact.proofs.Within.{0#, 1#, 0ₑ, 1ₑ, num, 2⁻, 0≤part, computes, closed, ≤_refl, ≤_trans, ≤_of, ◌within◌, within_+, within_*, within_≤, within_neg, within_at, within_self, within_over, ◌≈⟨◌⟩◌, apart, near_trans, near_size}
use Rattle.exact.proofs.Pairs.{sum}
use Rattle.exact.proofs.Series.{Sᵥ, Cᵥ, wave, wave_cls}
use Rattle.exact.proofs.Waves.{S_size, C_size, wave_steady, eighth}
use Rattle.exact.proofs.Adding.{wave_sum}
use Rattle.exact.proofs.Numbers.{≤_of_<}
use Rattle.rounding.specs.Value.{val, Is}
use Rattle.rounding.specs.Theorems.{limit}
use Rattle.rounding.proofs.Values.{#◌}
use Rattle.rounding.proofs.Rounds.{Rounds, Exact, own}
use Rattle.rounding.proofs.Operations.{rounds_≤, sum_rounds, quotient_above}
use Rattle.rounding.proofs.Compare.{lt_yes, lt_no}
use Rattle.rounding.proofs.Exact.{neighbours_exact}
use Rattle.rounding.proofs.Convert.{literal_is}
use Rattle.rounding.proofs.Literals.{one_exact}
use Rattle.rounding.proofs.Approx.{◌≤ᵇ◌, known_≤, Approx, itself, same}
use Rattle.rounding.proofs.Analysis.{◌⟨+⟩◌, ◌⟨*⟩◌, ∎, ◌⊳◌, analyse}
use Rattle.numeric.specs.Floats.{◌⊘◌, one}
use Rattle.numeric.specs.Floats.{◌⊕◌ as ◌⊕ᵍ◌, ◌⊖◌ as ◌⊖ᵍ◌, ◌⊗◌ as ◌⊗ᵍ◌}
use Rattle.numeric.specs.ArcTangent.{atan_kernel, atan_near, atan_unit}
use Rattle.numeric.proofs.Numbers.{fixed}
use Rattle.numeric.proofs.Polynomials.{share_≤}
use Rattle.numeric.proofs.Arc.{off, off_near, over_eighth, over_one, Aims, itself_off, kernel_near, kernel_size, kernel_off}

-- ---- over rational numbers: a has the tangent b, w the tangent u = (q − b) / (1 + q b), and t is a + w

-- the size of S and C, more than enough
abbrev pub ⁶⁵⁄₆₄ : Frac
⁶⁵⁄₆₄ = pos 65 over 64

pub wave_in : {x : ℚ} → x within 1# → (Sᵥ x within cls ⁶⁵⁄₆₄) × (Cᵥ x within cls ⁶⁵⁄₆₄)
unfolding computes
wave_in {x} h = (within_≤ (S_size x h) (closed tt), within_≤ (C_size x h) (closed tt))

module _ (b u : ℚ) {q a w t : ℚ} (hq : q within 1#) (hqb : 1# + q * b within num 2) (ha : a within cls eighth) (hw : w within cls eighth) (ht : t within 1#) (haw : a + w within 1#)
    (e₁ : off b (wave a) within 2⁻ 52) (e₂ : off u (wave w) within 2⁻ 53) (e₃ : u * (1# + q * b) - (q - b) within 2⁻ 53) (e₄ : t - (a + w) within 2⁻ 53) where
  a_wave : (Sᵥ a within cls ⁶⁵⁄₆₄) × (Cᵥ a within cls ⁶⁵⁄₆₄)
  a_wave = wave_in (within_≤ ha (known_≤ tt))

  w_wave : (Sᵥ w within cls ⁶⁵⁄₆₄) × (Cᵥ w within cls ⁶⁵⁄₆₄)
  w_wave = wave_in (within_≤ hw (known_≤ tt))

  sum_off : off q (sum (wave a) (wave w)) within cls ⁶⁵⁄₆₄ * (num 2 * 2⁻ 53 + 2⁻ 53 * cls ⁶⁵⁄₆₄) + 2⁻ 52 * (cls ⁶⁵⁄₆₄ + 1# * cls ⁶⁵⁄₆₄)
  sum_off = within_at
      (ring (q ▸ b ▸ u ▸ Sᵥ a ▸ Cᵥ a ▸ Sᵥ w ▸ Cᵥ w ▸ ∅) (λ q b u s c r d. c ⊗ ((1ₑ ⊕ q ⊗ b) ⊗ (u ⊗ d ⊝ r) ⊕ ⊖ ((u ⊗ (1ₑ ⊕ q ⊗ b) ⊝ (q ⊝ b)) ⊗ d)) ⊕ (b ⊗ c ⊝ s) ⊗ (d ⊕ q ⊗ r) ≐ q ⊗ (c ⊗ d ⊝ s ⊗ r) ⊝ (s ⊗ d ⊕ c ⊗ r)) tt)
      (within_+ (within_* a_wave.1 (within_+ (within_* hqb e₂) (within_neg (within_* e₃ w_wave.1)))) (within_* e₁ (within_+ w_wave.1 (within_* hq w_wave.0))))

  -- in 2⁻⁵³: 3 of u and w, 4 of b and a, 2 of t, 2 · 2⁻⁵ of the addition theorem, each a little more
  turned_off : off q (wave t) within 2⁻ 49
  turned_off = within_≤ (near_size (near_trans (off_near hq (wave_steady (a + w) t (2⁻ 53) haw ht e₄)) (off_near hq (wave_sum a w ha hw))) sum_off)
      (fixed (con ⁶⁵⁄₆₄ ⊗ (con (whole (pos 2)) ⊗ con (part 53) ⊕ con (part 53) ⊗ con ⁶⁵⁄₆₄) ⊕ con (part 52) ⊗ (con ⁶⁵⁄₆₄ ⊕ 1ₑ ⊗ con ⁶⁵⁄₆₄)
      ⊕ (1ₑ ⊗ (con (part 53) ⊗ (1ₑ ⊕ con (part 68))) ⊕ con (part 53) ⊗ (1ₑ ⊕ con (part 68)) ⊕ (1ₑ ⊗ con (part 58) ⊕ con (part 58))) ≼ con (part 49)) tt)

-- ---- a piece: q from lo to hi, near b, whose angle is a

record Piece (lo hi b a : Float) : Type 0 where
  is_lo : Is lo
  is_hi : Is hi
  is_b : Is b
  is_a : Is a
  low : 2⁻ 3 ≤ # lo
  high : # hi ≤ 1#
  below : # b ≤ # lo + 2⁻ 3
  beyond : # hi ≤ # b + 2⁻ 3
  b_low : 2⁻ 2 ≤ # b
  b_high : # b ≤ 1#
  -- the least a is 0.2449…
  a_low : cls (pos 6 over 25) ≤ # a
  a_high : # a ≤ cls eighth
  -- 2⁻⁵⁴ for the rounding of a, times √(1 + b²)
  tangent : off (# b) (wave (# a)) within 2⁻ 52

abbrev is_finite : Float → Bool
is_finite x = fits binary64 x && finite x

-- b C(a) − S(a)
abbrev off_by : Float → Float → Frac
off_by b a = val b *ᶠ C (val a) -ᶠ S (val a)

-- by computing
piece : {lo hi b a : Float} → T (is_finite lo && is_finite hi) → T (is_finite b && is_finite a) → T (part 3 ≤ᵇ val lo && val hi ≤ᵇ whole (pos 1)) → T (val b ≤ᵇ val lo +ᶠ part 3 && val hi ≤ᵇ val b +ᶠ part 3)
    → T (part 2 ≤ᵇ val b && val b ≤ᵇ whole (pos 1)) → T (pos 6 over 25 ≤ᵇ val a && val a ≤ᵇ eighth) → T (off_by b a ≤ᵇ part 52 && negᶠ (off_by b a) ≤ᵇ part 52) → Piece lo hi b a
unfolding computes
piece {lo} {hi} {b} {a} i j r s t u v = record {
  is_lo = literal_is (and_l (is_finite lo) _ i);
  is_hi = literal_is (and_r (is_finite lo) _ i);
  is_b = literal_is (and_l (is_finite b) _ j);
  is_a = literal_is (and_r (is_finite b) _ j);
  low = known_≤ (and_l (part 3 ≤ᵇ val lo) _ r);
  high = known_≤ (and_r (part 3 ≤ᵇ val lo) _ r);
  below = known_≤ (and_l (val b ≤ᵇ val lo +ᶠ part 3) _ s);
  beyond = known_≤ (and_r (val b ≤ᵇ val lo +ᶠ part 3) _ s);
  b_low = known_≤ (and_l (part 2 ≤ᵇ val b) _ t);
  b_high = known_≤ (and_r (part 2 ≤ᵇ val b) _ t);
  a_low = known_≤ (and_l (pos 6 over 25 ≤ᵇ val a) _ u);
  a_high = known_≤ (and_r (pos 6 over 25 ≤ᵇ val a) _ u);
  tangent = within_at (ap (off (# b)) (wave_cls (val a))) (record { up = known_≤ (and_l (off_by b a ≤ᵇ part 52) _ v); down = known_≤ (and_r (off_by b a ≤ᵇ part 52) _ v) });
}

one_in : # one within 1#
one_in = within_at (sym one_exact.value) (within_self (known_≤ tt))

-- 1 + q b, on floats
divisor : {q b : Float} → Is q → Is b → # q within 1# → # b within 1# → Approx (one ⊕ᵍ q ⊗ᵍ b) (1# + # q * # b) (whole (pos 3)) (part 51)
divisor {q} {b} i j h k = same (ap (λ o. o + # q * # b) one_exact.value) (analyse (itself i h ⊳ itself j k ⊳ itself one_exact.is one_in ⊳ ∎) (λ q b o. o ⟨+⟩ q ⟨*⟩ b) tt)

module _ {lo hi b a q : Float} (p : Piece lo hi b a) (i : Is q) (l : # lo ≤ # q) (h : # q ≤ # hi) where
  q_low : 2⁻ 3 ≤ # q
  q_low = ≤_trans p.low l

  q_in : # q within 1#
  q_in = within_≤ (within_self (≤_trans (0≤part 3) q_low)) (≤_trans h p.high)

  b_in : # b within 1#
  b_in = within_≤ (within_self (≤_trans (0≤part 2) p.b_low)) p.b_high

  -- q − b is exact
  d : Exact (q ⊖ᵍ b) (# q - # b)
  d = neighbours_exact i p.is_b
      (by_cert (# q ▸ # b ▸ # lo ▸ ∅) (λ q b l. b ≼ l ⊕ con (part 3) ⇒ λ h. l ≼ q ⇒ λ k. con (part 3) ≼ l ⇒ λ m. b ⊗ con (part 1) ≼ q by number (part 1) ⊠ h ⊞ k ⊞ number (part 1) ⊠ m) tt p.below l p.low)
      (by_cert (# q ▸ # b ▸ # hi ▸ ∅) (λ q b g. q ≼ g ⇒ λ h. g ≼ b ⊕ con (part 3) ⇒ λ k. con (part 2) ≼ b ⇒ λ m. q ≼ con (whole (pos 2)) ⊗ b by h ⊞ k ⊞ m) tt h p.beyond p.b_low)

  d_in : # (q ⊖ᵍ b) within 2⁻ 3
  d_in = within_at (sym d.value) (record {
    up = by_cert (# q ▸ # b ▸ # hi ▸ ∅) (λ q b g. q ≼ g ⇒ λ h. g ≼ b ⊕ con (part 3) ⇒ λ k. q ⊝ b ≼ con (part 3) by h ⊞ k) tt h p.beyond;
    down = by_cert (# q ▸ # b ▸ # lo ▸ ∅) (λ q b l. l ≼ q ⇒ λ h. b ≼ l ⊕ con (part 3) ⇒ λ k. ⊖ (q ⊝ b) ≼ con (part 3) by h ⊞ k) tt l p.below;
  })

  n : Approx (one ⊕ᵍ q ⊗ᵍ b) (1# + # q * # b) (whole (pos 3)) (part 51)
  n = divisor i p.is_b q_in b_in

  -- 1 + 1/32, less 2⁻⁵¹
  n_low : cls (pos 129 over 128) ≤ # (one ⊕ᵍ q ⊗ᵍ b)
  n_low = by_cert (# (one ⊕ᵍ q ⊗ᵍ b) ▸ # q ▸ # b ▸ ∅) (λ n q b. 1ₑ ⊕ q ⊗ b ≼ n ⊕ con (part 51) ⇒ λ h. con (part 3) ≼ q ⇒ λ k. con (part 2) ≼ b ⇒ λ m. con (pos 129 over 128) ≼ n by h ⊞ k ⊠ m ⊞ number (part 2) ⊠ k ⊞ number (part 3) ⊠ m) tt n.rounds.near.down q_low p.b_low

  uᵍ : Float
  uᵍ = (q ⊖ᵍ b) ⊘ (one ⊕ᵍ q ⊗ᵍ b)

  u_near : Is uᵍ × (# uᵍ * # (one ⊕ᵍ q ⊗ᵍ b) ≈⟨ 2⁻ 3 * 2⁻ 53 + num 3 * 2⁻ 1075 ⟩ # (q ⊖ᵍ b))
  unfolding uᵍ
  u_near = quotient_above (pos 129 over 128) tt d.is n.rounds.is n_low d_in n.size (fixed (con (part 3) ≼ con limit ⊗ con (pos 129 over 128)) tt)

  u_in : # uᵍ within 2⁻ 3
  u_in = within_≤ (within_over (pos 129 over 128) tt (near_size u_near.1 d_in) n_low)
      (fixed ((con (part 3) ⊕ (con (part 3) ⊗ con (part 53) ⊕ con (whole (pos 3)) ⊗ con (part 1075))) ⊗ con (inverse (pos 129 over 128)) ≼ con (part 3)) tt)

  -- in 2⁻⁵³: 1/8 of the quotient, and 1/8 of the 4 of 1 + q b
  u_tangent : # uᵍ * (1# + # q * # b) - (# q - # b) within 2⁻ 53
  u_tangent = within_≤ (within_at (ring (# uᵍ ▸ # (one ⊕ᵍ q ⊗ᵍ b) ▸ # (q ⊖ᵍ b) ▸ (1# + # q * # b) ▸ ∅) (λ u n d m. u ⊗ n ⊝ d ⊕ ⊖ (u ⊗ (n ⊝ m)) ≐ u ⊗ m ⊝ d) tt ∙ ap (λ z. # uᵍ * (1# + # q * # b) - z) d.value)
      (within_+ (apart u_near.1) (within_neg (within_* u_in (apart n.rounds.near)))))
      (fixed (con (part 3) ⊗ con (part 53) ⊕ con (whole (pos 3)) ⊗ con (part 1075) ⊕ con (part 3) ⊗ con (part 51) ≼ con (part 53)) tt)

  -- the small angle
  wᵍ : Float
  wᵍ = atan_kernel uᵍ

  far_up : 2⁻ 100 ≤ 2⁻ 3
  far_up = known_≤ tt

  w_is : Is wᵍ
  unfolding wᵍ
  w_is = (kernel_near u_near.0 u_in far_up (≤_refl (2⁻ 3))).is

  -- 1/8 and 1/512
  w_in : # wᵍ within cls (pos 1 over 7)
  unfolding wᵍ
  w_in = within_≤ (within_at (ring (# wᵍ ▸ # uᵍ ▸ ∅) (λ w u. u ⊕ (w ⊝ u) ≐ w) tt) (within_+ u_in (kernel_size u_near.0 u_in far_up (≤_refl (2⁻ 3)))))
      (fixed (con (part 3) ⊕ con (part 3) ⊗ con (part 6) ≼ con (pos 1 over 7)) tt)

  w_tangent : off (# uᵍ) (wave (# wᵍ)) within 2⁻ 53
  unfolding wᵍ
  w_tangent = within_≤ (kernel_off u_near.0 u_in far_up (≤_refl (2⁻ 3))) (≤_of (ring ∅ (con (part 3) ⊗ con (part 50) ≐ con (part 53)) tt))

  -- P/4 and 1/7
  sum_in : # a + # wᵍ within cls (pos 93 over 100)
  sum_in = within_≤ (within_+ (within_≤ (within_self (≤_trans (known_≤ tt) p.a_low)) p.a_high) w_in) (fixed (con eighth ⊕ con (pos 1 over 7) ≼ con (pos 93 over 100)) tt)

  sum_one : # a + # wᵍ within 1#
  sum_one = within_≤ sum_in (known_≤ tt)

  t_near : Rounds (a ⊕ᵍ wᵍ) (# a + # wᵍ) (2⁻ 53)
  t_near = rounds_≤ (sum_rounds p.is_a w_is sum_one (known_≤ tt)) (≤_of (ring ∅ (1ₑ ⊗ con (part 53) ≐ con (part 53)) tt))

  t_high : # (a ⊕ᵍ wᵍ) within cls over_eighth
  t_high = within_≤ (near_size t_near.near sum_in) (fixed (con (pos 93 over 100) ⊕ con (part 53) ≼ con over_eighth) tt)

  near_aims : Aims (atan_near q b a) (# q)
  unfolding atan_near uᵍ wᵍ
  near_aims = record {
    is = t_near.is;
    low = by_cert (# (a ⊕ᵍ wᵍ) ▸ # a ▸ # wᵍ ▸ ∅) (λ t a w. a ⊕ w ≼ t ⊕ con (part 53) ⇒ λ h. con (pos 6 over 25) ≼ a ⇒ λ k. ⊖ w ≼ con (pos 1 over 7) ⇒ λ m. 0ₑ ≼ t by h ⊞ k ⊞ m) tt t_near.near.down p.a_low w_in.down;
    high = t_high.up;
    most = by_cert (# (a ⊕ᵍ wᵍ) ▸ # q ▸ ∅) (λ t q. t ≼ con over_eighth ⇒ λ h. con (part 3) ≼ q ⇒ λ k. t ≼ con (whole (pos 8)) ⊗ q by h ⊞ number (whole (pos 8)) ⊠ k) tt t_high.up q_low;
    near = within_≤ (turned_off (# b) (# uᵍ) q_in two (within_≤ (within_self (≤_trans (known_≤ tt) p.a_low)) p.a_high) (within_≤ w_in (known_≤ tt))
        (over_one t_high) sum_one p.tangent w_tangent u_tangent (apart t_near.near))
        (by_cert (# q ▸ ∅) (λ q. con (part 3) ≼ q ⇒ λ h. con (part 49) ≼ q ⊗ con (part 45) by number (part 45) ⊠ h) tt q_low);
  }
    where
      two : 1# + # q * # b within num 2
      two = within_≤ (within_+ (within_self (known_≤ tt)) (within_* q_in b_in)) (≤_of (ring ∅ (1ₑ ⊕ 1ₑ ⊗ 1ₑ ≐ con (whole (pos 2))) tt))

-- ---- all of them

itself_aims : {q : Float} → Is q → 0# ≤ # q → # q ≤ 2⁻ 27 → Aims q (# q)
itself_aims {q} i l h = record {
  is = i;
  low = l;
  high = ≤_trans h (known_≤ tt);
  most = by_cert (# q ▸ ∅) (λ q. 0ₑ ≼ q ⇒ λ l. q ≼ con (whole (pos 8)) ⊗ q by number (whole (pos 7)) ⊠ l) tt l;
  near = within_≤ (itself_off (within_≤ (within_self l) h) (within_self l)) (share_≤ l (known_≤ tt));
}

series_aims : {q : Float} → Is q → 2⁻ 27 ≤ # q → # q ≤ 2⁻ 3 → Aims (atan_kernel q) (# q)
series_aims {q} i l h =
    let 0≤q = ≤_trans (0≤part 27) l in
    let low = ≤_trans (known_≤ tt) l in
    let t = kernel_size i (within_self 0≤q) low h in
    record {
      is = (kernel_near i (within_self 0≤q) low h).is;
      low = by_cert (# atan_kernel q ▸ # q ▸ ∅) (λ t q. ⊖ (t ⊝ q) ≼ q ⊗ con (part 6) ⇒ λ h. 0ₑ ≼ q ⇒ λ l. 0ₑ ≼ t by h ⊞ number (pos 63 over 64) ⊠ l) tt t.down 0≤q;
      high = by_cert (# atan_kernel q ▸ # q ▸ ∅) (λ t q. t ⊝ q ≼ q ⊗ con (part 6) ⇒ λ h. q ≼ con (part 3) ⇒ λ l. t ≼ con over_eighth by h ⊞ number (pos 65 over 64) ⊠ l) tt t.up h;
      most = by_cert (# atan_kernel q ▸ # q ▸ ∅) (λ t q. t ⊝ q ≼ q ⊗ con (part 6) ⇒ λ h. 0ₑ ≼ q ⇒ λ l. t ≼ con (whole (pos 8)) ⊗ q by h ⊞ number (pos 447 over 64) ⊠ l) tt t.up 0≤q;
      near = within_≤ (kernel_off i (within_self 0≤q) low h) (share_≤ 0≤q (known_≤ tt));
    }

pub unit_aims : (q : Float) → Is q → 0# ≤ # q → # q ≤ 1# → Aims (atan_unit q) (# q)
unfolding of_bits fits alternating
unit_aims q i l h = cond_both (lt q _) _ _ A (λ e. itself_aims i l (≤_of_< (lt_yes (own i) (own (literal_is tt)) e)))
    (λ e. cond_both (lt q _) _ _ A (λ f. series_aims i (lt_no (own i) (own (literal_is tt)) e) (≤_of_< (lt_yes (own i) (own (literal_is tt)) f)))
    (next (piece tt tt tt tt tt tt tt) (next (piece tt tt tt tt tt tt tt) (next (piece tt tt tt tt tt tt tt) (last (piece tt tt tt tt tt tt tt))))))
  where
    A : Float → Type 0
    A t = Aims t (# q)

    -- a piece between two tests, and the last
    next : {lo hi b a r : Float} → Piece lo hi b a → (lt q hi ≡ false → A r) → lt q lo ≡ false → A (cond (lt q hi) (atan_near q b a) r)
    next {hi = hi} p f e = cond_both (lt q hi) _ _ A (λ d. near_aims p i (lt_no (own i) (own p.is_lo) e) (≤_of_< (lt_yes (own i) (own p.is_hi) d))) f

    last : {lo b a : Float} → Piece lo one b a → lt q lo ≡ false → A (atan_near q b a)
    last p e = near_aims p i (lt_no (own i) (own p.is_lo) e) (≤_trans h (≤_of (sym one_exact.value)))
