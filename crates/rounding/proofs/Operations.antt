-- The laws of the operations: each rounds its exact result. `limit` keeps clear of overflow.
use Rattle.std.proofs.Common.{◌≡◌, ℕ, ◌^◌, Bool, true, false, not, T, pos, nat_abs, sym, refl, ap, ◌∙◌, subst, ap₂, inl, inr, eq-zero-or-pos, mul-pos, arith}
use Prim.Native.Nat as N
use lib.Signed.{pos-nat_abs}
use lib.Ieee as F
use lib.Ieee.{Float, nan, inf, fin, binary64, fits, unlike, add, sub, mul, div}
use lib.Ieee.Fits.{sqrt-fits}
use Rattle.exact.specs.Fraction.{Frac, whole, part, inverse, ◌+ᶠ◌}
use Rattle.exact.proofs.Ring.{con, ◌⊕◌, ◌⊗◌, ⊖◌, ◌⊝◌}
use Rattle.exact.proofs.Rational.{ℚ, cls, ◌+◌, ◌*◌, neg, ◌-◌, ∅, ◌▸◌, ◌≐◌, ring, whole_+, whole_*, whole_neg}
use Rattle.exact.proofs.Order.{◌≤◌, ◌<◌, number, ◌⊠◌, ◌≼◌, ◌by◌, ◌⇒◌, le}
use Rattle.exact.proofs.Within.{0#, 1#, 0ₑ, 1ₑ, num, 2⁻, ≤_trans, ≤_of, 0≤num, 0≤*, cancel, ◌within◌, within_≤, within_*, ◌≈⟨◌⟩◌, near, apart, above, inverse_of, near_≤, near_at, near_trans, near_neg, near_+, num_≤, num_*, within_self, near_product, <_not}
use Rattle.exact.proofs.Numbers.{nonneg_whole, 0<num, cancel_≡, ≤_of_<, above_of, above_by}
use Rattle.std.specs.Float.{sqrt}
use Rattle.rounding.specs.Value.{signed, val, L, ticks, Is}
use Rattle.rounding.specs.Theorems.{limit}
use Rattle.rounding.proofs.Signs.{signed_mul, signed_neg}
use Rattle.rounding.proofs.Ticks.{L_pos, sign, size, ticks_are}
use Rattle.rounding.proofs.Inputs.{mul_is, add_is, div_is}
use Rattle.rounding.proofs.Root.{sqrt_near, RootError}
use Rattle.rounding.proofs.Values.{W, #◌, neg_value, neg_is, Λ, 0<Λ, of_ticks}
use Rattle.rounding.proofs.Rounds.{Rounds, Nearest, rounds_normal, rounds_whole, rounds_tiny}

-- ---- Rounds

pub rounds_≤ : {x : Float} {t e f : ℚ} → Rounds x t e → e ≤ f → Rounds x t f
rounds_≤ h k = record { is = h.is; near = near_≤ h.near k }

pub rounds_at : {x : Float} {s t e : ℚ} → s ≡ t → Rounds x s e → Rounds x t e
rounds_at {x} {e = e} p h = subst (λ t. Rounds x t e) p h

-- of the exact result for the floats to the one for the numbers that they stand for
pub rounds_then : {x : Float} {s t e f : ℚ} → Rounds x s e → s ≈⟨ f ⟩ t → Rounds x t (e + f)
rounds_then h k = record { is = h.is; near = near_trans h.near k }

pub negated : {x : Float} {t e : ℚ} → Rounds x t e → Rounds (F.neg x) (neg t) e
negated {x} h = record { is = neg_is h.is; near = near_at (sym (neg_value x)) refl (near_neg h.near) }

-- ---- what is rounded

alike : (s : Bool) → unlike s false ≡ s
alike true = refl
alike false = refl

other : (s : Bool) → unlike s true ≡ not s
other true = refl
other false = refl

no_size : (s : Bool) → W (signed s 0) ≡ 0#
no_size true = refl
no_size false = refl

size_above : {y : Float} → Is y → (# y ≡ 0# → ⊥) → N.◌<◌ 0 (size y)
size_above {y} j h = elim (eq-zero-or-pos (size y)) [
  | inl z ↦ absurd (h (cancel_≡ 0<Λ (sym (of_ticks j) ∙ ap W (ticks_are y ∙ ap (signed (sign y)) z) ∙ no_size (sign y) ∙ ring (Λ ▸ ∅) (λ Λ. 0ₑ ≐ 0ₑ ⊗ Λ) tt)))
  | inr p ↦ p
]

module _ {x y : Float} (i : Is x) (j : Is y) where
  pub sum_nearest : (k : Nearest (add binary64 x y) (# x + # y)) × (k.bottom ≡ L)
  sum_nearest =
      let a = add_is x y i.fit j.fit i.fin j.fin in (
        record {
          sign = a.0;
          top = a.1;
          bottom = L;
          above = L_pos;
          is = a.2;
          value = ap W (sym a.3) ∙ whole_+ (ticks x) (ticks y) ∙ ap₂ (λ a b. a + b) (of_ticks i) (of_ticks j) ∙ ring (# x ▸ # y ▸ Λ ▸ ∅) (λ x y Λ. x ⊗ Λ ⊕ y ⊗ Λ ≐ (x ⊕ y) ⊗ Λ) tt;
        },
        refl,
      )

  pub product_nearest : Nearest (mul binary64 x y) (# x * # y)
  product_nearest = record {
    sign = unlike (sign x) (sign y);
    top = N.◌*◌ (size x) (size y);
    bottom = N.◌*◌ L L;
    above = mul-pos L_pos L_pos;
    is = mul_is x y i.fit j.fit i.fin j.fin;
    value = ap W (sym (signed_mul (sign x) (sign y) (size x) (size y))) ∙ whole_* (signed (sign x) (size x)) (signed (sign y) (size y))
        ∙ ap₂ (λ a b. a * b) (ap W (sym (ticks_are x)) ∙ of_ticks i) (ap W (sym (ticks_are y)) ∙ of_ticks j)
        ∙ ring (# x ▸ # y ▸ Λ ▸ ∅) (λ x y Λ. x ⊗ Λ ⊗ (y ⊗ Λ) ≐ x ⊗ y ⊗ (Λ ⊗ Λ)) tt ∙ ap (λ z. # x * # y * z) (sym (num_* L L));
  }

  -- q is the exact quotient
  pub quotient_nearest : {q : ℚ} → (# y ≡ 0# → ⊥) → q * # y ≡ # x → Nearest (div binary64 x y) q
  quotient_nearest {q} y≠0 e = record {
    sign = unlike (sign x) (sign y);
    top = size x;
    bottom = size y;
    above = size_above j y≠0;
    is = div_is x y i.fit j.fit i.fin j.fin (size_above j y≠0);
    value = go (sign y) (ticks_are y);
  }
    where
      in_ticks : W (signed (sign x) (size x)) ≡ q * W (ticks y)
      in_ticks = ap W (sym (ticks_are x)) ∙ of_ticks i ∙ ap (λ z. z * Λ) (sym e) ∙ ring (q ▸ # y ▸ Λ ▸ ∅) (λ q y Λ. q ⊗ y ⊗ Λ ≐ q ⊗ (y ⊗ Λ)) tt ∙ ap (λ z. q * z) (sym (of_ticks j))

      go : (s : Bool) → ticks y ≡ signed s (size y) → W (signed (unlike (sign x) s) (size x)) ≡ q * num (size y)
      go false f = ap (λ (b : Bool). W (signed b (size x))) (alike (sign x)) ∙ in_ticks ∙ ap (λ z. q * W z) f
      go true f = ap W (ap (λ (b : Bool). signed b (size x)) (other (sign x)) ∙ signed_neg (sign x) (size x)) ∙ whole_neg (signed (sign x) (size x)) ∙ ap neg (in_ticks ∙ ap (λ z. q * W z) f ∙ ap (λ z. q * z) (whole_neg (pos (size y))))
          ∙ ring (q ▸ num (size y) ▸ ∅) (λ q y. ⊖ (q ⊗ ⊖ y) ≐ q ⊗ y) tt

pub difference_nearest : {x y : Float} → Is x → Is y → (k : Nearest (sub binary64 x y) (# x - # y)) × (k.bottom ≡ L)
unfolding sub
difference_nearest {x} {y} i j = subst (λ z. (k : Nearest (add binary64 x (F.neg y)) (# x + z)) × (k.bottom ≡ L)) (neg_value y) (sum_nearest i (neg_is j))

-- ---- the laws: m is the size of the exact result, or more

module _ {x y : Float} (i : Is x) (j : Is y) {m : ℚ} where
  pub sum_rounds : # x + # y within m → m ≤ cls limit → Rounds (add binary64 x y) (# x + # y) (m * 2⁻ 53)
  sum_rounds h l = let k = sum_nearest i j in rounds_whole k.0 h (within_≤ h l) k.1

  pub difference_rounds : # x - # y within m → m ≤ cls limit → Rounds (sub binary64 x y) (# x - # y) (m * 2⁻ 53)
  difference_rounds h l = let k = difference_nearest i j in rounds_whole k.0 h (within_≤ h l) k.1

  pub product_rounds : # x * # y within m → m ≤ cls limit → Rounds (mul binary64 x y) (# x * # y) (m * 2⁻ 53 + 2⁻ 1075)
  product_rounds h l = rounds_tiny (product_nearest i j) h l

  -- where m is a normal number, the rounding alone
  pub product_normal : # x * # y within m → 2⁻ 1022 ≤ m → m ≤ cls limit → Rounds (mul binary64 x y) (# x * # y) (m * 2⁻ 53)
  product_normal h n l = rounds_normal (product_nearest i j) h (within_≤ h l) n

  pub quotient_rounds : {q : ℚ} → (# y ≡ 0# → ⊥) → q * # y ≡ # x → q within m → m ≤ cls limit → Rounds (div binary64 x y) q (m * 2⁻ 53 + 2⁻ 1075)
  quotient_rounds y≠0 e h l = rounds_tiny (quotient_nearest i j y≠0 e) h l

-- the same for floats that stand for s and t: the errors d and e come on top
module _ {x y : Float} {s t d e : ℚ} (p : Rounds x s d) (q : Rounds y t e) {m : ℚ} where
  pub sum_of : # x + # y within m → m ≤ cls limit → Rounds (add binary64 x y) (s + t) (m * 2⁻ 53 + (d + e))
  sum_of h l = rounds_then (sum_rounds p.is q.is h l) (near_+ p.near q.near)

  pub difference_of : # x - # y within m → m ≤ cls limit → Rounds (sub binary64 x y) (s - t) (m * 2⁻ 53 + (d + e))
  difference_of h l = rounds_then (difference_rounds p.is q.is h l) (near_+ p.near (near_neg q.near))

  pub product_of : {a b : ℚ} → # x * # y within m → 2⁻ 1022 ≤ m → m ≤ cls limit → # x within a → t within b → Rounds (mul binary64 x y) (s * t) (m * 2⁻ 53 + (a * e + d * b))
  product_of h n l u v = rounds_then (product_normal p.is q.is h n l) (near_product p.near q.near u v)

-- ---- a quotient by what is above 0

pub above_≠ : {x : ℚ} → 0# < x → x ≡ 0# → ⊥
above_≠ h e = <_not h (≤_of e)

-- x / y
abbrev pub ratio : Float → Float → ℚ
ratio x y = # x * cls (inverse (val y))

module _ {x y : Float} (i : Is x) (j : Is y) (p : 0# < # y) where
  pub reciprocal : (# y * cls (inverse (val y)) ≡ 1#) × (0# ≤ cls (inverse (val y)))
  reciprocal = let k = inverse_of (val y) (above_of (val y) p) in (k.0, k.1)

  pub ratio_times : ratio x y * # y ≡ # x
  ratio_times = ring (# x ▸ # y ▸ cls (inverse (val y)) ▸ ∅) (λ x y i. x ⊗ i ⊗ y ≐ x ⊗ (y ⊗ i)) tt ∙ ap (λ o. # x * o) reciprocal.0 ∙ ring (# x ▸ ∅) (λ x. x ⊗ 1ₑ ≐ x) tt

  -- a quotient is known by its product with the divisor
  pub quotient_times : {a b : ℚ} → # x within a → # y within b → a ≤ cls limit * # y → Is (div binary64 x y) × (# div binary64 x y * # y ≈⟨ a * 2⁻ 53 + b * 2⁻ 1075 ⟩ # x)
  quotient_times {a} {b} h g l =
      let r = quotient_rounds i j (above_≠ p) ratio_times (within_* h (within_self reciprocal.1))
      (≤_trans (le (a ▸ # y ▸ cls (inverse (val y)) ▸ ∅) (λ a y i. a ≼ con limit ⊗ y ⇒ λ l. 0ₑ ≼ i ⇒ λ k. a ⊗ i ≼ con limit ⊗ (y ⊗ i) by l ⊠ k) tt l reciprocal.1) (≤_of (ap (λ o. cls limit * o) reciprocal.0 ∙ ring ∅ (con limit ⊗ 1ₑ ≐ con limit) tt))) in
      (r.is, near (within_≤ (within_* (apart r.near) (within_self (≤_of_< p))) more) (ring (# div binary64 x y ▸ ratio x y ▸ # y ▸ ∅) (λ d q y. (d ⊝ q) ⊗ y ≐ d ⊗ y ⊝ q ⊗ y) tt ∙ ap (λ z. # div binary64 x y * # y - z) ratio_times))
    where
      -- a (reciprocal) y is a, and y is b at most
      more : (a * cls (inverse (val y)) * 2⁻ 53 + 2⁻ 1075) * # y ≤ a * 2⁻ 53 + b * 2⁻ 1075
      more = ≤_trans (≤_of (ring (a ▸ # y ▸ cls (inverse (val y)) ▸ ∅) (λ a y i. (a ⊗ i ⊗ con (part 53) ⊕ con (part 1075)) ⊗ y ≐ a ⊗ con (part 53) ⊗ (y ⊗ i) ⊕ y ⊗ con (part 1075)) tt ∙ ap (λ o. a * 2⁻ 53 * o + # y * 2⁻ 1075) reciprocal.0))
          (le (a ▸ b ▸ # y ▸ ∅) (λ a b y. y ≼ b ⇒ λ g. a ⊗ con (part 53) ⊗ 1ₑ ⊕ y ⊗ con (part 1075) ≼ a ⊗ con (part 53) ⊕ b ⊗ con (part 1075) by number (part 1075) ⊠ g) tt g.up)

-- by what is a closed number c at least: `quotient_above c tt`
pub quotient_above : {x y : Float} {a b : ℚ} (c : Frac) → T (above c) → Is x → Is y → cls c ≤ # y → # x within a → # y within b → a ≤ cls limit * cls c → Is (div binary64 x y) × (# div binary64 x y * # y ≈⟨ a * 2⁻ 53 + b * 2⁻ 1075 ⟩ # x)
quotient_above {y = y} c t i j l h g m = quotient_times i j (above_by c t l) h g (≤_trans m (le (cls c ▸ # y ▸ ∅) (λ c y. c ≼ y ⇒ λ h. con limit ⊗ c ≼ con limit ⊗ y by number limit ⊠ h) tt l))

-- ---- roots

-- the share of x that the square of a rounded root may be off by: (1 + δ)² for a rounding δ of 2 ^ -53 has 2 δ = 2 ^ -52; δ² and the digits that the root leaves out are within 2 ^ -92
abbrev pub root_share : Frac
root_share = part 52 +ᶠ part 92

-- n = x Λ and k = s Λ: `RootError` of ticks, as numbers
module _ (s x : ℚ) (k n : ℕ) (S : num k ≡ s * Λ) (X : num n ≡ x * Λ) where
  square_is : (c : ℕ) → num (N.◌*◌ c (N.◌*◌ k k)) ≡ num c * (s * s) * (Λ * Λ)
  square_is c = num_* c (N.◌*◌ k k) ∙ ap (λ z. num c * z) (num_* k k ∙ ap₂ (λ a b. a * b) S S) ∙ ring (num c ▸ s ▸ Λ ▸ ∅) (λ c s Λ. c ⊗ (s ⊗ Λ ⊗ (s ⊗ Λ)) ≐ c ⊗ (s ⊗ s) ⊗ (Λ ⊗ Λ)) tt

  number_is : (c : ℕ) → num (N.◌*◌ c (N.◌*◌ n L)) ≡ num c * x * (Λ * Λ)
  number_is c = num_* c (N.◌*◌ n L) ∙ ap (λ z. num c * z) (num_* n L ∙ ap (λ a. a * Λ) X) ∙ ring (num c ▸ x ▸ Λ ▸ ∅) (λ c x Λ. c ⊗ (x ⊗ Λ ⊗ Λ) ≐ c ⊗ x ⊗ (Λ ⊗ Λ)) tt

  drop_ticks : {a b : ℚ} → a * (Λ * Λ) ≤ b * (Λ * Λ) → a ≤ b
  drop_ticks h = cancel (subst (λ z. 0# < z) (num_* L L) (0<num (N.◌*◌ L L) (mul-pos L_pos L_pos))) h

  root_error : RootError k (N.◌*◌ n L) → s * s ≈⟨ x * cls root_share ⟩ x
  root_error h = record {
    up = le (s ▸ x ▸ ∅) (λ s x. con (whole (pos (2 ^ 92))) ⊗ (s ⊗ s) ≼ con (whole (pos (N.◌+◌ (2 ^ 92) (N.◌+◌ (2 ^ 40) 1)))) ⊗ x ⇒ λ h. s ⊗ s ≼ x ⊕ x ⊗ con root_share by number (part 92) ⊠ h) tt
        (drop_ticks (≤_trans (≤_of (sym (square_is (2 ^ 92)))) (≤_trans (num_≤ (over (N.◌*◌ k k) (N.◌*◌ n L) h.0)) (≤_of (number_is (N.◌+◌ (2 ^ 92) (N.◌+◌ (2 ^ 40) 1)))))));
    down = le (s ▸ x ▸ ∅) (λ s x. con (whole (pos (N.◌-◌ (2 ^ 92) (N.◌+◌ (2 ^ 40) 1)))) ⊗ x ≼ con (whole (pos (2 ^ 92))) ⊗ (s ⊗ s) ⇒ λ h. x ≼ s ⊗ s ⊕ x ⊗ con root_share by number (part 92) ⊠ h) tt
        (drop_ticks (≤_trans (≤_of (sym (number_is (N.◌-◌ (2 ^ 92) (N.◌+◌ (2 ^ 40) 1))))) (≤_trans (num_≤ (under (N.◌*◌ k k) (N.◌*◌ n L) h.1)) (≤_of (square_is (2 ^ 92))))));
  }
    where
      over : (a v : ℕ) → N.◌≤◌ (N.◌*◌ (2 ^ 92) a) (N.◌+◌ (N.◌*◌ (2 ^ 92) v) (N.◌*◌ (N.◌+◌ (2 ^ 40) 1) v)) → N.◌≤◌ (N.◌*◌ (2 ^ 92) a) (N.◌*◌ (N.◌+◌ (2 ^ 92) (N.◌+◌ (2 ^ 40) 1)) v)
      over a v h = omega arith

      under : (a v : ℕ) → N.◌≤◌ (N.◌*◌ (2 ^ 92) v) (N.◌+◌ (N.◌*◌ (2 ^ 92) a) (N.◌*◌ (N.◌+◌ (2 ^ 40) 1) v)) → N.◌≤◌ (N.◌*◌ (N.◌-◌ (2 ^ 92) (N.◌+◌ (2 ^ 40) 1)) v) (N.◌*◌ (2 ^ 92) a)
      under a v h = omega arith

pub root_rounds : {x : Float} → Is x → 0# ≤ # x → Is (sqrt binary64 x) × (0# ≤ # sqrt binary64 x) × (# sqrt binary64 x * # sqrt binary64 x ≈⟨ # x * cls root_share ⟩ # x)
root_rounds {x} i h =
    let r = sqrt binary64 x in
    let X = pos-nat_abs (ticks x) (nonneg_whole (ticks x) (subst (λ z. 0# ≤ z) (sym (of_ticks i)) (0≤* h (0≤num L)))) in
    let q = sqrt_near x (nat_abs (ticks x)) i.fit i.fin (sym X) in
    let j : Is r = record { fit = sqrt-fits binary64 x; fin = q.1 } in
    let S : num q.0 ≡ # r * Λ = ap W (sym q.2) ∙ of_ticks j in
    (j, cancel 0<Λ (≤_trans (≤_of (ring (Λ ▸ ∅) (λ Λ. 0ₑ ⊗ Λ ≐ 0ₑ) tt)) (≤_trans (0≤num q.0) (≤_of S))), root_error (# r) (# x) q.0 (nat_abs (ticks x)) S (ap W X ∙ of_ticks i) q.3)
