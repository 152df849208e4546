-- The angle of a point (x, y) with y not below 0: the angle of its ratio m / M in the first octant, where 0 ≤ m ≤ M, carried to its own by a mirror and quarter turns.
use Rattle.std.proofs.Common.{◌≡◌, ℤ, pos, sym, refl, ap, subst}
use Rattle.std.proofs.lemmas.Bool.{cond_both}
use Prim.Native.Nat as N
use lib.Ieee.{Float, fits, of_bits, lt, le}
use lib.Ieee.{neg as negᵍ}
use Rattle.exact.specs.Fraction.{Frac, whole, part, ◌over◌, ◌+ᶠ◌, ◌-ᶠ◌}
use Rattle.exact.specs.Sine.{quarter}
use Rattle.exact.proofs.Ring.{con, ◌⊕◌, ◌⊗◌, ⊖◌, ◌⊝◌}
use Rattle.exact.proofs.Rational.{ℚ, cls, ◌+◌, ◌*◌, neg, ◌-◌, ∅, ◌▸◌, ◌≐◌, ring}
use Rattle.exact.proofs.Order.{◌≤◌, ◌<◌, squared, number, ◌⊞◌, ◌⊠◌, ◌≼◌, ◌by◌, ◌⇒◌}
use Rattle.exact.proofs.Order.{le as by_cert}
use Rattle.exact.proofs.Within.{0#, 1#, 0ₑ, 1ₑ, num, 2⁻, 0≤part, computes, closed, ≤_refl, ≤_trans, ≤_of, ≤_+, root, not_≤, ◌within◌, within_+, within_*, within_≤, within_neg, within_at, within_self, ◌≈⟨◌⟩◌, apart, <_not}
use Rattle.exact.proofs.Pairs.{Pair, ◌≋⟨◌⟩◌, ≋_≤, ≋_trans, ≋_sym, ahead, mirror, quarters, quarters_near}
use Rattle.exact.proofs.Series.{pow, alt, Sᵥ, Cᵥ, wave, wave_mirror}
use Rattle.exact.proofs.Waves.{wave_steady}
use Rattle.exact.proofs.Sines.{left, exact, exact_any}
use Rattle.exact.proofs.Numbers.{≤_of_<, above_by}
use Rattle.rounding.specs.Value.{val, Is}
use Rattle.rounding.specs.Theorems.{limit}
use Rattle.rounding.proofs.Values.{#◌, neg_value, neg_is}
use Rattle.rounding.proofs.Rounds.{Rounds, own}
use Rattle.rounding.proofs.Operations.{sum_rounds, difference_rounds, quotient_times}
use Rattle.rounding.proofs.Compare.{lt_yes, lt_no, le_yes, le_no}
use Rattle.rounding.proofs.Convert.{literal, quotient_unit}
use Rattle.rounding.proofs.Literals.{zero_exact}
use Rattle.rounding.proofs.Approx.{known_≤}
use Rattle.numeric.specs.Floats.{◌⊘◌, zero}
use Rattle.numeric.specs.Floats.{◌⊕◌ as ◌⊕ᵍ◌, ◌⊖◌ as ◌⊖ᵍ◌}
use Rattle.numeric.specs.ArcTangent.{atan_unit, quarter_turn, half_turn, angle_up}
use Rattle.numeric.proofs.Numbers.{fixed, opposite}
use Rattle.numeric.proofs.Arc.{off, over_eighth, over_one}
use Rattle.numeric.proofs.Pieces.{⁶⁵⁄₆₄, wave_in, unit_aims}

-- ---- the ratio

-- t is the angle whose tangent is m / M, for 0 ≤ m ≤ M
pub record Slope (t : Float) (m M : ℚ) : Type 0 where
  pub is : Is t
  pub low : 0# ≤ # t
  pub high : # t ≤ cls over_eighth
  pub nonneg : 0# ≤ m
  pub most : m ≤ M
  pub above : 0# < M
  -- 2⁻⁴⁵ of the tangent and 2⁻⁵² for the rounding of the quotient; and what it loses below the normal range
  pub near : m * Cᵥ (# t) - M * Sᵥ (# t) within m * (2⁻ 45 + 2⁻ 52) + M * 2⁻ 1074
  -- 1 − 19/20, and less
  pub ahead : M * cls (pos 1 over 32) ≤ m * Sᵥ (# t) + M * Cᵥ (# t)
  -- 8 for the tangent, and the rounding of the quotient
  pub small : # t * M ≤ num 9 * m + M * 2⁻ 1072

-- C(θ) is at least 1 − θ, less 2⁻⁶⁸ θ
C_start : 1# ≤ Cᵥ 0#
unfolding computes alt pow
C_start = closed tt

C_above : {θ : ℚ} → θ within cls over_eighth → cls (pos 1 over 25) ≤ Cᵥ θ
C_above {θ} h = by_cert (Cᵥ θ ▸ Cᵥ 0# ▸ ∅) (λ c d. d ≼ c ⊕ con over_eighth ⊗ (1ₑ ⊕ con (part 68)) ⇒ λ h. 1ₑ ≼ d ⇒ λ k. con (pos 1 over 25) ≼ c by h ⊞ k) tt
    (wave_steady 0# θ (cls over_eighth) (within_≤ (within_self (≤_refl 0#)) (known_≤ tt)) (over_one h) (within_at (ring (θ ▸ ∅) (λ θ. θ ≐ θ ⊝ 0ₑ) tt) h)).of_c.down C_start

module _ {m M q θ : ℚ} (m0 : 0# ≤ m) (M0 : 0# ≤ M) (q0 : 0# ≤ q) (hq : q * M ≈⟨ m * 2⁻ 53 + M * 2⁻ 1075 ⟩ m) (hθ : θ within cls over_eighth) (h : off q (wave θ) within q * 2⁻ 45) where
  -- m c − M s = M (q c − s) − (q M − m) c
  slope_near : m * Cᵥ θ - M * Sᵥ θ within m * (2⁻ 45 + 2⁻ 52) + M * 2⁻ 1074
  slope_near = within_≤ (within_at (ring (m ▸ M ▸ q ▸ Cᵥ θ ▸ Sᵥ θ ▸ ∅) (λ m M q c s. M ⊗ (q ⊗ c ⊝ s) ⊕ ⊖ ((q ⊗ M ⊝ m) ⊗ c) ≐ m ⊗ c ⊝ M ⊗ s) tt)
      (within_+ (within_* (within_self M0) h) (within_neg (within_* (apart hq) (wave_in (over_one hθ)).1))))
      (by_cert (m ▸ M ▸ q ▸ ∅) (λ m M q. q ⊗ M ≼ m ⊕ (m ⊗ con (part 53) ⊕ M ⊗ con (part 1075)) ⇒ λ h. 0ₑ ≼ m ⇒ λ k. 0ₑ ≼ M ⇒ λ l.
      M ⊗ (q ⊗ con (part 45)) ⊕ (m ⊗ con (part 53) ⊕ M ⊗ con (part 1075)) ⊗ con ⁶⁵⁄₆₄ ≼ m ⊗ (con (part 45) ⊕ con (part 52)) ⊕ M ⊗ con (part 1074)
      by number (part 45) ⊠ h ⊞ number (whole (pos 2) -ᶠ (part 45 +ᶠ ⁶⁵⁄₆₄)) ⊠ (number (part 53) ⊠ k ⊞ number (part 1075) ⊠ l)) tt hq.up m0 M0)

  -- S(θ) is q C(θ) but for 2⁻⁴⁵ q, so it is not below 0
  slope_ahead : M * cls (pos 1 over 32) ≤ m * Sᵥ θ + M * Cᵥ θ
  slope_ahead = by_cert (m ▸ M ▸ q ▸ Sᵥ θ ▸ Cᵥ θ ▸ ∅) (λ m M q s c. q ⊗ c ⊝ s ≼ q ⊗ con (part 45) ⇒ λ h. con (pos 1 over 25) ≼ c ⇒ λ k. 0ₑ ≼ m ⇒ λ a. 0ₑ ≼ M ⇒ λ b. 0ₑ ≼ q ⇒ λ d.
      M ⊗ con (pos 1 over 32) ≼ m ⊗ s ⊕ M ⊗ c by a ⊠ (h ⊞ d ⊠ (k ⊞ number (pos 1 over 25 -ᶠ part 45))) ⊞ b ⊠ (k ⊞ number (pos 1 over 25 -ᶠ pos 1 over 32))) tt h.up (C_above hθ) m0 M0 q0

  slope_small : θ ≤ num 8 * q → θ * M ≤ num 9 * m + M * 2⁻ 1072
  slope_small k = by_cert (m ▸ M ▸ q ▸ θ ▸ ∅) (λ m M q θ. θ ≼ con (whole (pos 8)) ⊗ q ⇒ λ k. 0ₑ ≼ M ⇒ λ a. q ⊗ M ≼ m ⊕ (m ⊗ con (part 53) ⊕ M ⊗ con (part 1075)) ⇒ λ h. 0ₑ ≼ m ⇒ λ b.
      θ ⊗ M ≼ con (whole (pos 9)) ⊗ m ⊕ M ⊗ con (part 1072) by k ⊠ a ⊞ number (whole (pos 8)) ⊠ h ⊞ b ⊠ number (whole (pos 1) -ᶠ part 50)) tt k M0 hq.up m0

-- m and M as floats, and their quotient
slope : {m M : Float} → Is m → Is M → 0# < # M → 0# ≤ # m → # m ≤ # M → Slope (atan_unit (m ⊘ M)) (# m) (# M)
slope {m} {M} i j p l h =
    let u = quotient_unit i j p l h in
    let a = unit_aims (m ⊘ M) u.0 u.1 u.2 in
    let M0 = ≤_of_< p in
    let q = (quotient_times i j p (within_self l) (within_self M0) (by_cert (# m ▸ # M ▸ ∅) (λ m M. m ≼ M ⇒ λ h. 0ₑ ≼ M ⇒ λ k. m ≼ con limit ⊗ M by h ⊞ number (limit -ᶠ whole (pos 1)) ⊠ k) tt h M0)).1 in
    let θ = within_≤ (within_self a.low) a.high in
    record {
      is = a.is;
      low = a.low;
      high = a.high;
      nonneg = l;
      most = h;
      above = p;
      near = slope_near l M0 u.1 q θ a.near;
      ahead = slope_ahead l M0 u.1 q θ a.near;
      small = slope_small l M0 u.1 q θ a.near a.most;
    }

-- ---- a direction and a point

-- (x, y) lies in the direction whose sine and cosine are w: to the side of it by at most e, and ahead by at least k, for its size `far`
pub record Faces (w : Pair) (y x e k : ℚ) : Type 0 where
  pub far : ℚ
  pub above : 0# < far
  pub y_in : y within far
  pub x_in : x within far
  pub inside : far * far ≤ x * x + y * y
  pub near : y * w.c - x * w.s within far * e
  pub ahead : far * k ≤ y * w.s + x * w.c

pub faces_mirror : {w : Pair} {y x e k : ℚ} → Faces w y x e k → Faces (mirror w) (neg y) x e k
faces_mirror {w} {y} {x} h = record {
  far = h.far;
  above = h.above;
  y_in = within_neg h.y_in;
  x_in = h.x_in;
  inside = ≤_trans h.inside (≤_of (ring (y ▸ x ▸ ∅) (λ y x. x ⊗ x ⊕ y ⊗ y ≐ x ⊗ x ⊕ ⊖ y ⊗ ⊖ y) tt));
  near = within_at (ring (y ▸ x ▸ w.s ▸ w.c ▸ ∅) (λ y x s c. ⊖ (y ⊗ c ⊝ x ⊗ s) ≐ ⊖ y ⊗ c ⊝ x ⊗ ⊖ s) tt) (within_neg h.near);
  ahead = ≤_trans h.ahead (≤_of (ring (y ▸ x ▸ w.s ▸ w.c ▸ ∅) (λ y x s c. y ⊗ s ⊕ x ⊗ c ≐ ⊖ y ⊗ ⊖ s ⊕ x ⊗ c) tt));
}

-- a quarter turn on
faces_ahead : {w : Pair} {y x e k : ℚ} → Faces w y x e k → Faces (ahead w) x (neg y) e k
faces_ahead {w} {y} {x} h = record {
  far = h.far;
  above = h.above;
  y_in = h.x_in;
  x_in = within_neg h.y_in;
  inside = ≤_trans h.inside (≤_of (ring (y ▸ x ▸ ∅) (λ y x. x ⊗ x ⊕ y ⊗ y ≐ ⊖ y ⊗ ⊖ y ⊕ x ⊗ x) tt));
  near = within_at (ring (y ▸ x ▸ w.s ▸ w.c ▸ ∅) (λ y x s c. y ⊗ c ⊝ x ⊗ s ≐ x ⊗ ⊖ s ⊝ ⊖ y ⊗ c) tt) h.near;
  ahead = ≤_trans h.ahead (≤_of (ring (y ▸ x ▸ w.s ▸ w.c ▸ ∅) (λ y x s c. y ⊗ s ⊕ x ⊗ c ≐ x ⊗ c ⊕ ⊖ y ⊗ ⊖ s) tt));
}

-- y c − x s, where c and s change
pub aside_near : (y x : ℚ) {c d e s r f a b B : ℚ} → c ≈⟨ e ⟩ d → s ≈⟨ f ⟩ r → y within a → x within b → y * d - x * r within B → y * c - x * s within B + (a * e + b * f)
aside_near y x {c} {d} {s = s} {r} hc hs hy hx h = within_at (ring (y ▸ x ▸ c ▸ d ▸ s ▸ r ▸ ∅) (λ y x c d s r. y ⊗ d ⊝ x ⊗ r ⊕ (y ⊗ (c ⊝ d) ⊕ ⊖ (x ⊗ (s ⊝ r))) ≐ y ⊗ c ⊝ x ⊗ s) tt)
    (within_+ h (within_+ (within_* hy (apart hc)) (within_neg (within_* hx (apart hs)))))

-- a direction near it
pub faces_near : {v w : Pair} {y x d e e' k k' : ℚ} → v ≋⟨ d ⟩ w → e + (d + d) ≤ e' → k' + (d + d) ≤ k → Faces w y x e k → Faces v y x e' k'
faces_near {v} {w} {y} {x} {d} {e} {e'} {k} {k'} n he hk h = record {
  far = h.far;
  above = h.above;
  y_in = h.y_in;
  x_in = h.x_in;
  inside = h.inside;
  near = within_≤ (aside_near y x n.of_c n.of_s h.y_in h.x_in h.near)
      (by_cert (h.far ▸ d ▸ e ▸ e' ▸ ∅) (λ f d e e'. 0ₑ ≼ f ⇒ λ a. e ⊕ (d ⊕ d) ≼ e' ⇒ λ b. f ⊗ e ⊕ (f ⊗ d ⊕ f ⊗ d) ≼ f ⊗ e' by a ⊠ b) tt (≤_of_< h.above) he);
  ahead = by_cert (y ▸ x ▸ v.s ▸ v.c ▸ w.s ▸ w.c ▸ h.far ▸ d ▸ k ▸ k' ▸ ∅) (λ y x s c r q f d k k'. f ⊗ k ≼ y ⊗ r ⊕ x ⊗ q ⇒ λ a. ⊖ (y ⊗ (s ⊝ r) ⊕ x ⊗ (c ⊝ q)) ≼ f ⊗ d ⊕ f ⊗ d ⇒ λ b. 0ₑ ≼ f ⇒ λ z. k' ⊕ (d ⊕ d) ≼ k ⇒ λ l.
      f ⊗ k' ≼ y ⊗ s ⊕ x ⊗ c by a ⊞ b ⊞ z ⊠ l) tt h.ahead (within_+ (within_* h.y_in (apart n.of_s)) (within_* h.x_in (apart n.of_c))).down (≤_of_< h.above) hk;
}

-- a point that faces some way is not the origin
not_origin : {w : Pair} {y x e k : ℚ} → Faces w y x e k → x * x + y * y ≤ 0# → ⊥
not_origin h o = <_not h.above (root (≤_refl 0#) (≤_trans h.inside (≤_trans o (≤_of (ring ∅ (0ₑ ≐ 0ₑ ⊗ 0ₑ) tt)))))

pub faces_at : {v w : Pair} {y x y' x' e k : ℚ} → v ≡ w → y ≡ y' → x ≡ x' → Faces v y x e k → Faces w y' x' e k
faces_at {v} {w} {y} {x} {y'} {x'} {e} {k} p q r h = subst (λ z. Faces z y' x' e k) p (subst (λ z. Faces v z x' e k) q (subst (λ z. Faces v y z e k) r h))

-- how far to the side, in the first octant: 2⁻⁴⁵ + 2⁻⁵², and a little; and 2 · 2⁻⁴⁹ more in any octant
abbrev at_first : Frac
at_first = pos 33 over N.◌^◌ 2 50

abbrev pub in_all : Frac
in_all = pos 5 over N.◌^◌ 2 47

slope_faces : {t : Float} {m M : ℚ} → Slope t m M → Faces (wave (# t)) m M (cls at_first) (cls (pos 1 over 32))
slope_faces {t} {m} {M} h = record {
  far = M;
  above = h.above;
  y_in = within_≤ (within_self h.nonneg) h.most;
  x_in = within_self (≤_of_< h.above);
  inside = by_cert (m ▸ M ▸ ∅) (λ m M. M ⊗ M ≼ M ⊗ M ⊕ m ⊗ m by squared m) tt;
  near = within_≤ h.near (by_cert (m ▸ M ▸ ∅) (λ m M. m ≼ M ⇒ λ a. 0ₑ ≼ M ⇒ λ b. m ⊗ (con (part 45) ⊕ con (part 52)) ⊕ M ⊗ con (part 1074) ≼ M ⊗ con at_first
      by a ⊠ number (part 45 +ᶠ part 52) ⊞ b ⊠ number (at_first -ᶠ (part 45 +ᶠ part 52 +ᶠ part 1074))) tt h.most (≤_of_< h.above));
  ahead = h.ahead;
}

-- ---- a number of quarter turns more

-- k of them leave about l of t: 2⁻⁵⁰ for l, and 2⁻⁷³ for their number
turned_near : (t : Frac) (k : ℤ) {l : ℚ} → l within cls over_eighth → left (cls t) k - l within 2⁻ 50 → exact t ≋⟨ 2⁻ 49 ⟩ quarters k (wave l)
turned_near t k {l} h d = ≋_≤ (≋_trans (≋_sym (exact_any t k l_in)) (quarters_near k (wave_steady l (left (cls t) k) (2⁻ 50) (over_one h) l_in d))) (fixed (con (part 73) ⊕ con (part 50) ⊗ (1ₑ ⊕ con (part 68)) ≼ con (part 49)) tt)
  where
    l_in : left (cls t) k within 1#
    l_in = within_≤ (within_at (ring (l ▸ left (cls t) k ▸ ∅) (λ l m. l ⊕ (m ⊝ l) ≐ m) tt) (within_+ h d)) (fixed (con over_eighth ⊕ con (part 50) ≼ 1ₑ) tt)

turned_faces : (t : Frac) (k : ℤ) {l y x : ℚ} → l within cls over_eighth → left (cls t) k - l within 2⁻ 50 → Faces (quarters k (wave l)) y x (cls at_first) (cls (pos 1 over 32)) → Faces (exact t) y x (cls in_all) (cls (pos 1 over 64))
turned_faces t k h d f = faces_near (turned_near t k h d) (fixed (con at_first ⊕ (con (part 49) ⊕ con (part 49)) ≼ con in_all) tt) (fixed (con (pos 1 over 64) ⊕ (con (part 49) ⊕ con (part 49)) ≼ con (pos 1 over 32)) tt) f

-- t is the angle of (x, y), where y is not below 0
pub record Up (t y x : Float) : Type 0 where
  pub is : Is t
  pub low : 0# ≤ # t
  pub high : # t ≤ cls (pos 63 over 20)
  pub faces : 0# < # x * # x + # y * # y → Faces (exact (val t)) (# y) (# x) (cls in_all) (cls (pos 1 over 64))
  pub origin : # x * # x + # y * # y ≤ 0# → t ≡ zero
  pub back : # x < 0# → 0# < # t
  pub sharp : 0# < # x → # y ≤ # x → Slope t (# y) (# x)

-- a little more than P
abbrev over_half : Frac
over_half = pos 3142 over 1000

-- c is k quarter turns
record Turn (c : Float) (k : ℤ) : Type 0 where
  near : Rounds c (cls (whole k) * cls quarter) (2⁻ 52)
  low : cls (pos 3 over 2) ≤ # c
  size : # c within cls over_half

one_turn : Turn quarter_turn (pos 1)
unfolding computes of_bits fits
one_turn = record { near = literal tt (record { up = closed tt; down = closed tt }); low = closed tt; size = record { up = closed tt; down = closed tt } }

three_eighths : # quarter_turn + cls over_eighth ≤ cls over_half
unfolding computes of_bits
three_eighths = closed tt

two_turns : Turn half_turn (pos 2)
unfolding computes of_bits fits
two_turns = record { near = literal tt (record { up = closed tt; down = closed tt }); low = closed tt; size = record { up = closed tt; down = closed tt } }

-- t is c + l, rounded once: below 5 in size
module _ (k : ℤ) {t c : Float} {l : ℚ} (h : Rounds t (# c + l) (num 5 * 2⁻ 53)) (turn : Turn c k) (hl : l within cls over_eighth) where
  left_near : left (# t) k - l within 2⁻ 50
  left_near = within_≤ (within_at (ring (# t ▸ # c ▸ l ▸ cls (whole k) ▸ ∅) (λ t c l k. t ⊝ (c ⊕ l) ⊕ (c ⊝ k ⊗ con quarter) ≐ t ⊝ k ⊗ con quarter ⊝ l) tt) (within_+ (apart h.near) (apart turn.near.near))) (fixed (con (whole (pos 5)) ⊗ con (part 53) ⊕ con (part 52) ≼ con (part 50)) tt)

  half_more : cls (pos 1 over 2) ≤ # t
  half_more = by_cert (# t ▸ # c ▸ l ▸ ∅) (λ t c l. c ⊕ l ≼ t ⊕ con (whole (pos 5)) ⊗ con (part 53) ⇒ λ h. con (pos 3 over 2) ≼ c ⇒ λ k. ⊖ l ≼ con over_eighth ⇒ λ m. con (pos 1 over 2) ≼ t by h ⊞ k ⊞ m) tt h.near.down turn.low hl.down

  turned_up : {y x : Float} → Faces (quarters k (wave l)) (# y) (# x) (cls at_first) (cls (pos 1 over 32)) → # c + l ≤ cls over_half → (0# < # x → # y ≤ # x → ⊥) → Up t y x
  turned_up {y} {x} f hi other =
      let g = turned_faces (val t) k hl left_near f in
      let 0<t : 0# < # t = above_by (pos 1 over 2) tt half_more in
      record {
        is = h.is;
        low = ≤_of_< 0<t;
        high = by_cert (# t ▸ # c ▸ l ▸ ∅) (λ t c l. t ≼ c ⊕ l ⊕ con (whole (pos 5)) ⊗ con (part 53) ⇒ λ h. c ⊕ l ≼ con over_half ⇒ λ k. t ≼ con (pos 63 over 20) by h ⊞ k) tt h.near.up hi;
        faces = λ p. g;
        origin = λ o. absurd (not_origin g o);
        back = λ n. 0<t;
        sharp = λ p n. absurd (other p n);
      }

five : cls over_half + cls over_eighth ≤ num 5
five = fixed (con over_half ⊕ con over_eighth ≼ con (whole (pos 5))) tt

five_limit : num 5 ≤ cls limit
five_limit = known_≤ tt

slope_in : {t : Float} {m M : ℚ} → Slope t m M → # t within cls over_eighth
slope_in s = within_≤ (within_self s.low) s.high

module _ (k : ℤ) {c θ : Float} {m M : ℚ} (turn : Turn c k) (s : Slope θ m M) {y x : Float} (other : 0# < # x → # y ≤ # x → ⊥) where
  -- c + θ
  turn_plus : Faces (quarters k (wave (# θ))) (# y) (# x) (cls at_first) (cls (pos 1 over 32)) → # c + # θ ≤ cls over_half → Up (c ⊕ᵍ θ) y x
  turn_plus f h = turned_up k (sum_rounds turn.near.is s.is (within_≤ (within_+ turn.size (slope_in s)) five) five_limit) turn (slope_in s) f h other

  -- c − θ
  turn_minus : Faces (quarters k (mirror (wave (# θ)))) (# y) (# x) (cls at_first) (cls (pos 1 over 32)) → Up (c ⊖ᵍ θ) y x
  turn_minus f = turned_up k (difference_rounds turn.near.is s.is (within_≤ (within_+ turn.size (within_neg (slope_in s))) five) five_limit) turn (within_neg (slope_in s)) (faces_at (ap (quarters k) (sym (wave_mirror (# θ)))) refl refl f)
      (by_cert (# c ▸ # θ ▸ ∅) (λ c θ. c ≼ con over_half ⇒ λ h. 0ₑ ≼ θ ⇒ λ k. c ⊝ θ ≼ con over_half by h ⊞ k) tt turn.size.up s.low) other

-- ---- the octants

-- −x, where x is below 0
pub behind : (x : Float) → # x < 0# → 0# < # negᵍ x
behind x n = not_≤ (λ k. <_not n (by_cert (# x ▸ ∅) (λ x. ⊖ x ≼ 0ₑ ⇒ λ k. 0ₑ ≼ x by k) tt (≤_trans (≤_of (sym (neg_value x))) k)))

module _ {y x : Float} (i : Is y) (j : Is x) (0≤y : 0# ≤ # y) where
  -- 0 ≤ y ≤ x
  first : 0# < # x → # y ≤ # x → Up (atan_unit (y ⊘ x)) y x
  unfolding quarters
  first p h =
      let s = slope i j p 0≤y h in
      let θ = # atan_unit (y ⊘ x) in
      let f = turned_faces (val (atan_unit (y ⊘ x))) (pos 0) (slope_in s) (within_≤ (within_at (ring (θ ▸ ∅) (λ θ. 0ₑ ≐ θ ⊝ 0ₑ ⊗ con quarter ⊝ θ) tt) (within_self (≤_refl 0#))) (0≤part 50)) (slope_faces s) in
      record {
        is = s.is;
        low = s.low;
        high = ≤_trans s.high (known_≤ tt);
        faces = λ q. f;
        origin = λ o. absurd (not_origin f o);
        back = λ n. absurd (<_not n (≤_of_< p));
        sharp = λ p h. s;
      }

  -- 0 ≤ x < y
  second : 0# ≤ # x → # x < # y → Up (quarter_turn ⊖ᵍ atan_unit (x ⊘ y)) y x
  unfolding quarters
  second l h =
      let s = slope j i (not_≤ (λ k. <_not h (≤_trans k l))) l (≤_of_< h) in
      turn_minus (pos 1) one_turn s (λ p k. <_not h k) (faces_at refl refl (opposite refl) (faces_ahead (faces_mirror (slope_faces s))))

  -- 0 < −x < y
  third : # x < 0# → # negᵍ x < # y → Up (quarter_turn ⊕ᵍ atan_unit (negᵍ x ⊘ y)) y x
  unfolding quarters
  third n h =
      let s = slope (neg_is j) i (not_≤ (λ k. <_not h (≤_trans k (≤_of_< (behind x n))))) (≤_of_< (behind x n)) (≤_of_< h) in
      turn_plus (pos 1) one_turn s (λ p k. <_not n (≤_of_< p)) (faces_at refl refl (opposite (neg_value x)) (faces_ahead (slope_faces s))) (≤_trans (≤_+ (≤_refl (# quarter_turn)) s.high) three_eighths)

  -- 0 ≤ y ≤ −x
  fourth : # x < 0# → # y ≤ # negᵍ x → Up (half_turn ⊖ᵍ atan_unit (y ⊘ negᵍ x)) y x
  unfolding quarters
  fourth n h =
      let s = slope i (neg_is j) (behind x n) 0≤y h in
      turn_minus (pos 2) two_turns s (λ p k. <_not n (≤_of_< p)) (faces_at refl (opposite refl) (opposite (neg_value x)) (faces_ahead (faces_ahead (faces_mirror (slope_faces s)))))

  -- x = y = 0
  nowhere : 0# ≤ # x → # x ≤ 0# → # y ≤ # x → Up zero y x
  nowhere l h k = record {
    is = zero_exact.is;
    low = ≤_of (sym zero_exact.value);
    high = ≤_trans (≤_of zero_exact.value) (known_≤ tt);
    faces = λ p. absurd (<_not p (by_cert (# y ▸ # x ▸ ∅) (λ y x. 0ₑ ≼ x ⇒ λ l. x ≼ 0ₑ ⇒ λ h. 0ₑ ≼ y ⇒ λ a. y ≼ 0ₑ ⇒ λ b. x ⊗ x ⊕ y ⊗ y ≼ 0ₑ by l ⊠ h ⊞ a ⊠ b) tt l h 0≤y (≤_trans k h)));
    origin = λ o. refl;
    back = λ n. absurd (<_not n l);
    sharp = λ p m. absurd (<_not p h);
  }

  pub angle_up_is : Up (angle_up y x) y x
  angle_up_is = cond_both (lt x zero) _ _ (λ t. Up t y x)
      (λ e. cond_both (le y (negᵍ x)) _ _ (λ t. Up t y x) (λ f. fourth (lt_yes (own j) zero_exact e) (le_yes (own i) (own (neg_is j)) f)) (λ f. third (lt_yes (own j) zero_exact e) (le_no (own i) (own (neg_is j)) f)))
      (λ e. cond_both (le y x) _ _ (λ t. Up t y x)
      (λ f. cond_both (lt zero x) _ _ (λ t. Up t y x) (λ g. first (lt_yes zero_exact (own j) g) (le_yes (own i) (own j) f)) (λ g. nowhere (lt_no (own j) zero_exact e) (lt_no zero_exact (own j) g) (le_yes (own i) (own j) f)))
      (λ f. second (lt_no (own j) zero_exact e) (le_no (own i) (own j) f)))
