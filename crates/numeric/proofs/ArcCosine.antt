-- The arc cosine: the point (g, √((1 − g) (1 + g))) lies on the circle, and its angle is that of `atan2_float`.
use Rattle.std.proofs.Common.{◌≡◌, pos, sym, refl, ap, ◌∙◌, subst}
use Rattle.std.proofs.lemmas.Bool.{cond_both}
use lib.Ieee.{Float, lt, of_bits, fits}
use lib.Ieee.{neg as negᵍ}
use Rattle.exact.specs.Fraction.{whole, part, ◌+ᶠ◌}
use Rattle.exact.proofs.Ring.{con, ◌⊕◌, ◌⊗◌, ⊖◌, ◌⊝◌}
use Rattle.exact.proofs.Rational.{ℚ, cls, ◌+◌, ◌*◌, neg, ◌-◌, ∅, ◌▸◌, ◌≐◌, ring}
use Rattle.exact.proofs.Order.{◌≤◌, squared, number, ◌⊞◌, ◌⊠◌, ◌≼◌, ◌by◌, ◌⇒◌, to_frac}
use Rattle.exact.proofs.Order.{le as by_cert}
use Rattle.exact.proofs.Within.{0#, 1#, 0ₑ, 1ₑ, num, 2⁻, computes, ≤_refl, ≤_trans, ≤_of, ≤_*, 0≤*, ◌within◌, within_+, within_≤, within_neg, within_at, within_self, ◌≈⟨◌⟩◌, near, apart, near_at, near_≤, near_*, near_trans, <_not}
use Rattle.exact.proofs.Distance.{size, close_back}
use Rattle.rounding.specs.Value.{L, Is}
use Rattle.rounding.specs.Theorems.{limit}
use Rattle.rounding.proofs.Values.{#◌, neg_value, neg_is}
use Rattle.rounding.proofs.Rounds.{Exact, own, Nearest, rounds_whole}
use Rattle.rounding.proofs.Operations.{sum_nearest, difference_nearest, product_nearest, product_rounds, root_rounds, root_share}
use Rattle.rounding.proofs.Compare.{lt_yes, lt_no}
use Rattle.rounding.proofs.Exact.{Short, float_short, rounds_between}
use Rattle.rounding.proofs.Convert.{literal_exact}
use Rattle.rounding.proofs.Literals.{one_exact, two_exact}
use Rattle.rounding.proofs.Approx.{known_≤}
use Rattle.numeric.specs.Floats.{bits, one}
use Rattle.numeric.specs.Floats.{◌⊕◌ as ◌⊕ᵍ◌, ◌⊖◌ as ◌⊖ᵍ◌, ◌⊗◌ as ◌⊗ᵍ◌}
use Rattle.numeric.specs.ArcTangent.{in_unit, other_side}
use Rattle.numeric.specs.Laws.{ArcCosineLaw}
use Rattle.numeric.proofs.Angles.{angle_law}

-- ---- f brought into −1..1

minus_one : Exact (negᵍ one) (neg 1#)
minus_one = record { is = neg_is one_exact.is; value = neg_value one ∙ ap neg one_exact.value }

record UnitSize (g : Float) : Type 0 where
  is : Is g
  size : # g within 1#

one_size : 1# within 1#
one_size = within_self (known_≤ tt)

unit_size : {f : Float} → Is f → UnitSize (in_unit f)
unit_size {f} i = cond_both (lt f (negᵍ one)) _ _ UnitSize (λ e. record { is = minus_one.is; size = within_at (sym minus_one.value) (within_neg one_size) })
    (λ e. cond_both (lt one f) _ _ UnitSize (λ d. record { is = one_exact.is; size = within_at (sym one_exact.value) one_size })
    (λ d. record { is = i; size = record { up = lt_no one_exact (own i) d; down = by_cert (# f ▸ ∅) (λ f. ⊖ 1ₑ ≼ f ⇒ λ h. ⊖ f ≼ 1ₑ by h) tt (lt_no (own i) minus_one e) } }))

itself : {f : Float} → Is f → # f within 1# → in_unit f ≡ f
itself {f} i h = cond_both (lt f (negᵍ one)) _ _ (λ g. g ≡ f) (λ e. absurd (<_not (lt_yes (own i) minus_one e) (by_cert (# f ▸ ∅) (λ f. ⊖ f ≼ 1ₑ ⇒ λ h. ⊖ 1ₑ ≼ f by h) tt h.down)))
    (λ e. cond_both (lt one f) _ _ (λ g. g ≡ f) (λ d. absurd (<_not (lt_yes one_exact (own i) d) h.up)) (λ d. refl))

-- ---- the point

four : Exact (bits 0x4010_0000_0000_0000) (num 4)
unfolding of_bits fits
four = literal_exact tt refl

four_limit : num 4 ≤ cls limit
four_limit = known_≤ tt

two_four : num 2 ≤ num 4
two_four = known_≤ tt

-- rounding keeps from 0 to n, for a literal c of the value n
between : {r c : Float} {t n : ℚ} → Exact c n → n ≤ num 4 → Nearest r t → 0# ≤ t → t ≤ n → Is r × (0# ≤ # r) × (# r ≤ n)
between c m k l h = rounds_between k (subst Short c.value (float_short c.is)) (≤_trans m four_limit) l h

-- r is t, rounded once, from 0 to 2
record Side (r : Float) (t : ℚ) : Type 0 where
  is : Is r
  low : 0# ≤ # r
  high : # r ≤ num 2
  nonneg : 0# ≤ t
  near : # r ≈⟨ t * 2⁻ 53 ⟩ t

side : {r : Float} {s t : ℚ} → s ≡ t → (k : Nearest r s) × (k.bottom ≡ L) → 0# ≤ t → t ≤ num 2 → Side r t
side {r} e k l h = subst (λ t. 0# ≤ t → t ≤ num 2 → Side r t) e (λ l h.
    let b = between two_exact two_four k.0 l h in
    let w = within_self l in
    record { is = b.0; low = b.1; high = b.2; nonneg = l; near = (rounds_whole k.0 w (within_≤ w (≤_trans h (≤_trans two_four four_limit))) k.1).near }) l h

module _ {g : Float} (u : UnitSize g) where
  left : Side (one ⊖ᵍ g) (1# - # g)
  left = side (ap (λ o. o - # g) one_exact.value) (difference_nearest one_exact.is u.is) (by_cert (# g ▸ ∅) (λ g. g ≼ 1ₑ ⇒ λ h. 0ₑ ≼ 1ₑ ⊝ g by h) tt u.size.up) (by_cert (# g ▸ ∅) (λ g. ⊖ g ≼ 1ₑ ⇒ λ h. 1ₑ ⊝ g ≼ con (whole (pos 2)) by h) tt u.size.down)

  right : Side (one ⊕ᵍ g) (1# + # g)
  right = side (ap (λ o. o + # g) one_exact.value) (sum_nearest one_exact.is u.is) (by_cert (# g ▸ ∅) (λ g. ⊖ g ≼ 1ₑ ⇒ λ h. 0ₑ ≼ 1ₑ ⊕ g by h) tt u.size.down) (by_cert (# g ▸ ∅) (λ g. g ≼ 1ₑ ⇒ λ h. 1ₑ ⊕ g ≼ con (whole (pos 2)) by h) tt u.size.up)

  pᵍ : Float
  pᵍ = (one ⊖ᵍ g) ⊗ᵍ (one ⊕ᵍ g)

  nonneg : 0# ≤ # (one ⊖ᵍ g) * # (one ⊕ᵍ g)
  nonneg = 0≤* left.low right.low

  most_four : # (one ⊖ᵍ g) * # (one ⊕ᵍ g) ≤ num 4
  most_four = ≤_trans (≤_* left.low left.high right.low right.high) (≤_of (ring ∅ (con (whole (pos 2)) ⊗ con (whole (pos 2)) ≐ con (whole (pos 4))) tt))

  p_between : Is pᵍ × (0# ≤ # pᵍ) × (# pᵍ ≤ num 4)
  unfolding pᵍ
  p_between = between four (≤_refl (num 4)) (product_nearest left.is right.is) nonneg most_four

  -- two roundings of 2⁻⁵³
  sides_near : # (one ⊖ᵍ g) * # (one ⊕ᵍ g) ≈⟨ 2⁻ 52 + 2⁻ 106 ⟩ 1# - # g * # g
  sides_near = near_at refl (ring (# g ▸ ∅) (λ g. (1ₑ ⊝ g) ⊗ (1ₑ ⊕ g) ≐ 1ₑ ⊝ g ⊗ g) tt) (near_≤ (near_* left.near right.near (within_self left.nonneg) (within_self right.nonneg))
      (by_cert (# g ▸ ∅) (λ g. (1ₑ ⊝ g) ⊗ con (part 53) ⊗ ((1ₑ ⊕ g) ⊗ con (part 53)) ⊕ (1ₑ ⊝ g) ⊗ con (part 53) ⊗ (1ₑ ⊕ g) ⊕ (1ₑ ⊝ g) ⊗ ((1ₑ ⊕ g) ⊗ con (part 53)) ≼ con (part 52) ⊕ con (part 106) by number (part 52 +ᶠ part 106) ⊠ squared g) tt))

  -- and one more
  p_near : # pᵍ ≈⟨ 2⁻ 51 ⟩ 1# - # g * # g
  unfolding pᵍ
  p_near = near_≤ (near_trans (product_rounds left.is right.is (within_self nonneg) (≤_trans most_four four_limit)).near sides_near)
      (by_cert (# g ▸ (# (one ⊖ᵍ g) * # (one ⊕ᵍ g)) ▸ ∅) (λ g x. x ≼ 1ₑ ⊝ g ⊗ g ⊕ (con (part 52) ⊕ con (part 106)) ⇒ λ h. x ⊗ con (part 53) ⊕ con (part 1075) ⊕ (con (part 52) ⊕ con (part 106)) ≼ con (part 51) by number (part 53) ⊠ (h ⊞ squared g)) tt sides_near.up)

  root_of : Is (other_side g) × (0# ≤ # other_side g) × (# other_side g * # other_side g ≈⟨ # pᵍ * cls root_share ⟩ # pᵍ)
  unfolding pᵍ
  root_of = root_rounds p_between.0 p_between.1

  -- 2⁻⁵¹ of the product, 2⁻⁵² and a little of the root
  on_circle : # g * # g + # other_side g * # other_side g ≈⟨ 2⁻ 50 ⟩ 1#
  on_circle = near (within_≤ (within_+ (apart root_of.2) (apart p_near))
      (by_cert (# g ▸ # pᵍ ▸ ∅) (λ g p. p ≼ 1ₑ ⊝ g ⊗ g ⊕ con (part 51) ⇒ λ h. p ⊗ con root_share ⊕ con (part 51) ≼ con (part 50) by number root_share ⊠ (h ⊞ squared g)) tt p_near.up))
      (ring (# g ▸ # other_side g ▸ # pᵍ ▸ ∅) (λ g s p. s ⊗ s ⊝ p ⊕ (p ⊝ (1ₑ ⊝ g ⊗ g)) ≐ g ⊗ g ⊕ s ⊗ s ⊝ 1ₑ) tt)

-- ---- the law

pub arc_cosine_law : ArcCosineLaw
unfolding computes
arc_cosine_law f i =
    let u = unit_size i in
    let r = root_of u in
    record { angle = angle_law _ _ r.0 u.is; above = to_frac _ _ r.1; circle = close_back _ _ _ (on_circle u); inside = λ h. itself i (size h) }
