-- `Rounds x t e`: the float x is finite, and its value is within e of the number t. And what `round` does, over rational numbers.
use Rattle.std.proofs.Common.{◌≡◌, ℕ, ◌^◌, max, Bool, true, false, T, pos, sym, refl, ap, ◌∙◌, subst, mul-le-mul_right, arith, lit<, pow_pos}
use Prim.Native.Nat as N
use lib.Ieee.{Float, binary64, fits, round}
use lib.Ieee.Exact.{HasValue}
use lib.Ieee.Fits.{round-fits}
use lib.Ieee.Scale.{finite, grid}
use Rattle.exact.specs.Fraction.{Frac, ◌over◌, whole, part}
use Rattle.exact.proofs.Ring.{con, ◌⊕◌, ◌⊗◌, ⊖◌}
use Rattle.exact.proofs.Rational.{ℚ, cls, ◌+◌, ◌*◌, neg, neg_cls, ∅, ◌▸◌, ◌≐◌, ring}
use Rattle.exact.proofs.Order.{◌≤◌, number, ◌⊞◌, ◌⊠◌, ◌≼◌, ◌by◌, ◌⇒◌, le}
use Rattle.exact.proofs.Within.{0#, 0ₑ, 1ₑ, num, 2⁻, computes, closed, ≤_trans, ≤_of, 0≤num, cancel, ◌within◌, within_≤, within_at, within_neg, within_nonneg, ◌≈⟨◌⟩◌, near_at, near_neg, num_≤, num_*, num_+, near_of}
use Rattle.exact.proofs.Numbers.{≤_num, num_max, over_num, as_over, 0<num}
use Rattle.rounding.specs.Value.{signed, L, Is}
use Rattle.rounding.specs.Theorems.{limit}
use Rattle.rounding.proofs.Units.{NearWhole, grid_near, grid_whole, round_finite}
use Rattle.rounding.proofs.Values.{W, #◌, of_value, Λ, λ₁, ticks_in_one}

pub record Rounds (x : Float) (t e : ℚ) : Type 0 where
  pub is : Is x
  pub near : # x ≈⟨ e ⟩ t

-- r is the float whose value is t
pub record Exact (r : Float) (t : ℚ) : Type 0 where
  pub is : Is r
  pub value : # r ≡ t

pub own : {x : Float} → Is x → Exact x (# x)
own i = record { is = i; value = refl }

-- the value a / c
pub value_exact : (x : Float) (s : Bool) (a c : ℕ) → N.◌<◌ 0 c → T (fits binary64 x) → HasValue x s a c → Exact x (cls (signed s a over c))
value_exact x s a c C f v = let k = of_value x s a c C v in record { is = record { fit = f; fin = k.0 }; value = k.1 }

pub exact_rounds : {r : Float} {t : ℚ} → Exact r t → Rounds r t 0#
exact_rounds h = record { is = h.is; near = near_of h.value }

pub exact_at : {r : Float} {s t : ℚ} → s ≡ t → Exact r s → Exact r t
exact_at {r} p h = subst (λ t. Exact r t) p h

-- r is `round` of a fraction that is t: what each operation does with its exact result t
pub record Nearest (r : Float) (t : ℚ) : Type 0 where
  pub sign : Bool
  pub top : ℕ
  pub bottom : ℕ
  pub above : N.◌<◌ 0 bottom
  pub is : r ≡ round binary64 sign top bottom
  pub value : W (signed sign top) ≡ t * num bottom

-- ±x
abbrev ± : Bool → ℚ → ℚ
± false x = x
± true x = neg x

±_over : (s : Bool) (n d : ℕ) → cls (signed s n over d) ≡ ± s (cls (pos n over d))
±_over false n d = refl
±_over true n d = neg_cls (pos n over d)

±_within : (s : Bool) {x m : ℚ} → ± s x within m → x within m
±_within false h = h
±_within true {x} h = within_at (ring (x ▸ ∅) (λ x. ⊖ ⊖ x ≐ x) tt) (within_neg h)

±_near : (s : Bool) {x e t : ℚ} → x ≈⟨ e ⟩ t → ± s x ≈⟨ e ⟩ ± s t
±_near false h = h
±_near true h = near_neg h

-- ---- the rounding lemma

abbrev K : Frac
K = whole (pos (2 ^ 53))

-- a and b are e / 2 ^ 53 apart at most
abbrev Apart : ℕ → ℕ → ℕ → Type 0
Apart a b e = N.◌≤◌ (N.◌*◌ (2 ^ 53) a) (N.◌+◌ (N.◌*◌ (2 ^ 53) b) e) × N.◌≤◌ (N.◌*◌ (2 ^ 53) b) (N.◌+◌ (N.◌*◌ (2 ^ 53) a) e)

-- g ticks against p = n / d, as `Near` and `NearWhole` have them: e is m d ticks at most
module _ (p m : ℚ) (g n d e : ℕ) (D : N.◌<◌ 0 d) (is : num n ≡ p * num d) (most : num e ≤ m * num d * Λ) where
  g_is : num (N.◌*◌ (2 ^ 53) (N.◌*◌ g d)) ≡ cls K * num g * num d
  g_is = num_* (2 ^ 53) (N.◌*◌ g d) ∙ ap (λ z. cls K * z) (num_* g d) ∙ ring (num g ▸ num d ▸ ∅) (λ g d. con K ⊗ (g ⊗ d) ≐ con K ⊗ g ⊗ d) tt

  n_is : num (N.◌*◌ (2 ^ 53) (N.◌*◌ n L)) ≡ cls K * (p * Λ) * num d
  n_is = num_* (2 ^ 53) (N.◌*◌ n L) ∙ ap (λ z. cls K * z) (num_* n L ∙ ap (λ z. z * Λ) is) ∙ ring (p ▸ num d ▸ Λ ▸ ∅) (λ p d Λ. con K ⊗ (p ⊗ d ⊗ Λ) ≐ con K ⊗ (p ⊗ Λ) ⊗ d) tt

  -- from ticks to ones
  one_side : (a b : ℚ) → cls K * a * num d ≤ cls K * b * num d + num e → a * λ₁ ≤ b * λ₁ + m * 2⁻ 53
  one_side a b h = ≤_trans
      (le (a ▸ b ▸ m ▸ Λ ▸ ∅) (λ a b m Λ. con K ⊗ a ≼ con K ⊗ b ⊕ m ⊗ Λ ⇒ λ h. a ⊗ con (part 1074) ≼ b ⊗ con (part 1074) ⊕ m ⊗ con (part 53) ⊗ (Λ ⊗ con (part 1074)) by number (part 53) ⊠ number (part 1074) ⊠ h) tt
      (cancel (0<num d D) (le (a ▸ b ▸ m ▸ Λ ▸ num d ▸ num e ▸ ∅) (λ a b m Λ d e. con K ⊗ a ⊗ d ≼ con K ⊗ b ⊗ d ⊕ e ⇒ λ h. e ≼ m ⊗ d ⊗ Λ ⇒ λ k. con K ⊗ a ⊗ d ≼ (con K ⊗ b ⊕ m ⊗ Λ) ⊗ d by h ⊞ k) tt h most)))
      (≤_of (ap (λ o. b * λ₁ + m * 2⁻ 53 * o) ticks_in_one ∙ ring (b ▸ m ▸ ∅) (λ b m. b ⊗ con (part 1074) ⊕ m ⊗ con (part 53) ⊗ 1ₑ ≐ b ⊗ con (part 1074) ⊕ m ⊗ con (part 53)) tt))

  p_itself : p * Λ * λ₁ ≡ p
  p_itself = ring (p ▸ Λ ▸ λ₁ ▸ ∅) (λ p Λ l. p ⊗ Λ ⊗ l ≐ p ⊗ (Λ ⊗ l)) tt ∙ ap (λ o. p * o) ticks_in_one ∙ ring (p ▸ ∅) (λ p. p ⊗ 1ₑ ≐ p) tt

  ticks_near : Apart (N.◌*◌ g d) (N.◌*◌ n L) e → num g * λ₁ ≈⟨ m * 2⁻ 53 ⟩ p
  ticks_near h = record {
    up = ≤_trans (one_side (num g) (p * Λ) (≤_trans (≤_of (sym g_is)) (≤_trans (num_≤ h.0) (≤_of (num_+ (N.◌*◌ (2 ^ 53) (N.◌*◌ n L)) e ∙ ap (λ z. z + num e) n_is))))) (≤_of (ap (λ z. z + m * 2⁻ 53) p_itself));
    down = ≤_trans (≤_of (sym p_itself)) (one_side (p * Λ) (num g) (≤_trans (≤_of (sym n_is)) (≤_trans (num_≤ h.1) (≤_of (num_+ (N.◌*◌ (2 ^ 53) (N.◌*◌ g d)) e ∙ ap (λ z. z + num e) g_is)))));
  }

times : (g n d : ℕ) → NearWhole (2 ^ 52) n g → Apart (N.◌*◌ g d) (N.◌*◌ n d) (N.◌*◌ n d)
times g n d w = omega (arith, mul-le-mul_right d w.0, mul-le-mul_right d w.1)

-- the smallest normal number is 2 ^ 52 ticks
normal_ticks : num (2 ^ 52) ≤ 2⁻ 1022 * Λ
unfolding computes L
normal_ticks = closed tt

below_overflow : (n d : ℕ) → N.◌<◌ 0 d → num n ≤ cls limit * num d → N.◌<◌ n (N.◌*◌ (2 ^ 1023) d)
below_overflow n d D h = go (2 ^ 1000) (2 ^ 1023) (lit< tt) (≤_num n (N.◌*◌ (2 ^ 1000) d) (≤_trans h (≤_of (sym (num_* (2 ^ 1000) d)))))
  where
    go : (b r : ℕ) → N.◌<◌ b r → N.◌≤◌ n (N.◌*◌ b d) → N.◌<◌ n (N.◌*◌ r d)
    go b r B k = omega (arith, mul-le-mul_right d B)

module _ {r : Float} {t m : ℚ} (k : Nearest r t) (h : t within m) (l : t within cls limit) where
  s : Bool
  s = k.sign

  n : ℕ
  n = k.top

  d : ℕ
  d = k.bottom

  -- the size of t
  p : ℚ
  p = cls (pos n over d)

  t_is : t ≡ ± s p
  unfolding s n d p
  t_is = sym (as_over (signed s n) d k.above k.value) ∙ ±_over s n d

  p_is : num n ≡ p * num d
  unfolding p n d
  p_is = sym (over_num (pos n) d k.above)

  p_within : {b : ℚ} → t within b → p within b
  p_within h = ±_within s (within_at t_is h)

  -- the result in ticks
  g : ℕ
  g = grid binary64 n d

  result : T (finite (round binary64 s n d)) × (# round binary64 s n d ≡ cls (signed s g over (2 ^ 1074)))
  unfolding g n d
  result = of_value (round binary64 s n d) s g (2 ^ 1074) (pow_pos 1074) (round_finite binary64 s n d k.above (below_overflow n d k.above
      (≤_trans (≤_of p_is) (le (p ▸ num d ▸ ∅) (λ p d. p ≼ con limit ⇒ λ l. 0ₑ ≼ d ⇒ λ q. p ⊗ d ≼ con limit ⊗ d by l ⊠ q) tt (p_within l).up (0≤num d)))))

  ticks_over : (g : ℕ) → cls (pos g over (2 ^ 1074)) ≡ num g * λ₁
  unfolding L
  ticks_over g = as_over (pos g) (2 ^ 1074) (pow_pos 1074) (ring (num g ▸ ∅) (λ g. g ≐ g ⊗ 1ₑ) tt ∙ ap (λ o. num g * o) (sym ticks_in_one) ∙ ring (num g ▸ Λ ▸ λ₁ ▸ ∅) (λ g Λ l. g ⊗ (Λ ⊗ l) ≐ g ⊗ l ⊗ Λ) tt)

  rounds : num g * λ₁ ≈⟨ m * 2⁻ 53 ⟩ p → Rounds r t (m * 2⁻ 53)
  unfolding s n d g
  rounds e = subst (λ (x : Float). Rounds x t (m * 2⁻ 53)) (sym k.is) (record {
    is = record { fit = round-fits binary64 s n d; fin = result.0 };
    near = near_at (sym (result.1 ∙ ±_over s g (2 ^ 1074) ∙ ap (± s) (ticks_over g))) (sym t_is) (±_near s e);
  })

  size_ticks : num (N.◌*◌ n L) ≤ m * num d * Λ
  size_ticks = ≤_trans (≤_of (num_* n L ∙ ap (λ z. z * Λ) p_is)) (le (p ▸ m ▸ num d ▸ Λ ▸ ∅) (λ p m d Λ. p ≼ m ⇒ λ h. 0ₑ ≼ d ⇒ λ q. 0ₑ ≼ Λ ⇒ λ o. p ⊗ d ⊗ Λ ≼ m ⊗ d ⊗ Λ by h ⊠ q ⊠ o) tt (p_within h).up (0≤num d) (0≤num L))

  -- m is the smallest normal number at least: half a unit in the last place of m
  pub rounds_normal : 2⁻ 1022 ≤ m → Rounds r t (m * 2⁻ 53)
  unfolding n d g L
  rounds_normal o = rounds (ticks_near p m g n d (max (N.◌*◌ n L) (N.◌*◌ (2 ^ 52) d)) k.above p_is
      (num_max (N.◌*◌ n L) (N.◌*◌ (2 ^ 52) d) size_ticks
      (≤_trans (≤_of (num_* (2 ^ 52) d)) (le (m ▸ num d ▸ Λ ▸ ∅) (λ m d Λ. con (whole (pos (2 ^ 52))) ≼ con (part 1022) ⊗ Λ ⇒ λ h. con (part 1022) ≼ m ⇒ λ o. 0ₑ ≼ d ⇒ λ q. 0ₑ ≼ Λ ⇒ λ z. con (whole (pos (2 ^ 52))) ⊗ d ≼ m ⊗ d ⊗ Λ by h ⊠ q ⊞ o ⊠ z ⊠ q) tt normal_ticks o (0≤num d) (0≤num L))))
      (grid_near binary64 n d k.above))

  -- t is a whole number of ticks: nothing more is lost below the normal range
  pub rounds_whole : k.bottom ≡ L → Rounds r t (m * 2⁻ 53)
  unfolding n d g L
  rounds_whole o = rounds (ticks_near p m g n d (N.◌*◌ n L) k.above p_is size_ticks
      (subst (λ (x : ℕ). Apart (N.◌*◌ g d) (N.◌*◌ n x) (N.◌*◌ n x)) o (times g n d (grid_whole binary64 n d n k.above (ap (λ (x : ℕ). N.◌*◌ n x) (sym o))))))

-- any bound: half the smallest positive number more
pub rounds_tiny : {r : Float} {t m : ℚ} → Nearest r t → t within m → m ≤ cls limit → Rounds r t (m * 2⁻ 53 + 2⁻ 1075)
rounds_tiny {r} {t} {m} k h l = subst (λ e. Rounds r t e) (ring (m ▸ ∅) (λ m. (m ⊕ con (part 1022)) ⊗ con (part 53) ≐ m ⊗ con (part 53) ⊕ con (part 1075)) tt)
    (rounds_normal k (within_≤ h (le (m ▸ ∅) (λ m. m ≼ m ⊕ con (part 1022) by number (part 1022)) tt)) (within_≤ h l) (le (m ▸ ∅) (λ m. 0ₑ ≼ m ⇒ λ h. con (part 1022) ≼ m ⊕ con (part 1022) by h) tt (within_nonneg h)))
