-- The exact sine and cosine: by their nearest number of quarter turns, and by any other near one.
use mathlib.Core.Path.{◌≡◌, refl, sym, ◌∙◌, ap, ap₂, subst}
use Prim.Native.Nat as N
use Prim.Native.Nat.{ℕ, zero, suc}
use native.Mathlib.Omega.{arith}
use lib.Dec.{leb→le}
use lib.IntN.{ℤ, pos, negsuc, neg_ℤ, suc_ℤ, ◌+ℤ◌, +ℤ_one, +ℤ_idl, suc_ℤ-+ℤ, +ℤ_comm, -ℤ-+ℤ_cancel, nat_abs}
use Rattle.exact.specs.Fraction as F
use Rattle.exact.specs.Fraction.{Frac, whole, ◌over◌, inverse, ◌*ᶠ◌}
use Rattle.exact.specs.Sine.{quarter, mod4, turns, rest, pick, sine_by, cosine_by, sine, cosine, S, C}
use Rattle.exact.proofs.Ring.{con, ◌⊕◌, ◌⊗◌, ⊖◌, ◌⊝◌}
use Rattle.exact.proofs.Rational.{ℚ, cls, ◌+◌, ◌*◌, neg, ◌-◌, plus_cls, times_cls, neg_cls, whole_+, whole_neg, ∅, ◌▸◌, ◌≐◌, ring}
use Rattle.exact.proofs.Order.{◌≤◌, half, ◌⊞◌, ◌≼◌, ◌by◌, ◌⇒◌, le, to_frac}
use Rattle.exact.proofs.Within.{0#, 1#, 0ₑ, 1ₑ, num, 2⁻, num_≤, 0≤part, computes, closed, ≤_trans, ◌within◌, within_+, within_*, within_≤, within_neg, within_at, within_self}
use Rattle.exact.proofs.Pairs.{Pair, pair, radius², ◌≋⟨◌⟩◌, ≋_at, ≋_trans, ≋_sym, ≋_self, ahead, mirror, turned, quarters, quarters_near, quarters_square, quarters_suc, quarters_mirror}
use Rattle.exact.proofs.Series.{wave, wave_cls, wave_mirror}
use Rattle.exact.proofs.Waves.{circle, size, just_over, swap, wave_steady, eighth, Phase, narrow, wide}
use Rattle.exact.proofs.Floors.{nearest_is, nearest_same}

-- ---- what k quarter turns leave of x, and the pair by k of them

abbrev pub left : ℚ → ℤ → ℚ
left x k = x - cls (whole k) * cls quarter

abbrev pub wave_by : ℚ → ℤ → Pair
wave_by x k = quarters k (wave (left x k))

abbrev pub exact : Frac → Pair
exact v = pair (cls (sine v)) (cls (cosine v))

pub rest_cls : (v : Frac) (k : ℤ) → cls (rest v k) ≡ left (cls v) k
rest_cls v k = plus_cls v (F.neg ((whole k) *ᶠ quarter)) ∙ ap (λ u. cls v + u) (neg_cls ((whole k) *ᶠ quarter) ∙ ap neg (times_cls (whole k) quarter))

turned_cls : (n : ℕ) (a b : Frac) → pair (cls (pick n a b (F.neg a) (F.neg b))) (cls (pick n b (F.neg a) (F.neg b) a)) ≡ turned n (pair (cls a) (cls b))
unfolding neg
turned_cls zero a b = refl
turned_cls (suc zero) a b = refl
turned_cls (suc (suc zero)) a b = refl
turned_cls (suc (suc (suc n))) a b = refl

pub by_cls : (v : Frac) (k : ℤ) → pair (cls (sine_by v k)) (cls (cosine_by v k)) ≡ wave_by (cls v) k
unfolding quarters
by_cls v k = turned_cls (mod4 k) (S (rest v k)) (C (rest v k)) ∙ ap (turned (mod4 k)) (wave_cls (rest v k) ∙ ap wave (rest_cls v k))

pub exact_is : (v : Frac) → exact v ≡ wave_by (cls v) (turns v)
unfolding sine cosine
exact_is v = by_cls v (turns v)

-- ---- the nearest number of quarter turns leaves at most P/4; and it is at most 637 for |v| ≤ 1000

0≤quarter : 0# ≤ cls quarter
unfolding computes
0≤quarter = closed tt

0≤per_quarter : 0# ≤ cls (inverse quarter)
unfolding computes
0≤per_quarter = closed tt

pub rest_small : (v : Frac) → left (cls v) (turns v) within cls eighth
rest_small v = subst (λ z. left (cls v) (turns v) within z) (ring ∅ (con quarter ⊗ con half ≐ con eighth) tt)
    (within_at (ap (λ u. cls quarter * (u - cls (whole (turns v)))) (times_cls v (inverse quarter)) ∙ ring (cls v ▸ cls (whole (turns v)) ▸ ∅) (λ v k. con quarter ⊗ (v ⊗ con (inverse quarter) ⊝ k) ≐ v ⊝ k ⊗ con quarter) tt)
    (within_* (within_self 0≤quarter) (nearest_is (v *ᶠ (inverse quarter)))))

eighth_one : cls eighth ≤ 1#
unfolding computes
eighth_one = closed tt

pub rest_one : (v : Frac) → left (cls v) (turns v) within 1#
rest_one v = within_≤ (rest_small v) eighth_one

-- (1000 + P/4) (2/P) < 637.5
thousand : (num 1000 + cls eighth) * cls (inverse quarter) ≤ cls (pos 6375 over 10)
unfolding computes
thousand = closed tt

most_turns : (n : ℕ) → num n ≤ cls (pos 6375 over 10) → N.◌≤◌ n 637
most_turns n h = tenth n (leb→le (N.◌*◌ n 10) 6375 (to_frac (whole (pos n)) (pos 6375 over 10) h).by)
  where
    tenth : (n : ℕ) → N.◌≤◌ (N.◌*◌ n 10) 6375 → N.◌≤◌ n 637
    tenth n h = omega arith

abs_bound : (k : ℤ) → cls (whole k) within cls (pos 6375 over 10) → N.◌≤◌ (nat_abs k) 637
abs_bound (pos n) h = most_turns n h.up
abs_bound (negsuc n) h = most_turns (suc n) (subst (λ v. v ≤ cls (pos 6375 over 10)) (sym (whole_neg (negsuc n))) h.down)

pub turns_bound : (v : Frac) → cls v within num 1000 → N.◌≤◌ (nat_abs (turns v)) 637
turns_bound v h = abs_bound (turns v) (within_≤ (within_at
    (ring (cls v ▸ cls (whole (turns v)) ▸ ∅) (λ v k. (v ⊝ (v ⊝ k ⊗ con quarter)) ⊗ con (inverse quarter) ≐ k) tt)
    (within_* (within_+ h (within_neg (rest_small v))) (within_self 0≤per_quarter))) thousand)

-- ---- two near numbers of quarter turns are equal or neighbours

data Beside (j k : ℤ) : Type 0 where
  same : j ≡ k → Beside j k
  after : j ≡ suc_ℤ k → Beside j k
  before : k ≡ suc_ℤ j → Beside j k

-- less than 2 apart
abbrev under_two : ℚ
under_two = cls (pos 19 over 10)

two_or_more : (n : ℕ) → num (suc (suc n)) ≤ under_two → ⊥
two_or_more n h = none (≤_trans (num_≤ (omega arith)) h)
  where
    none : num 2 ≤ under_two → ⊥
    none h = (to_frac (whole (pos 2)) (pos 19 over 10) h).by

beside_by : (z : ℤ) {j k : ℤ} → j ≡ z +ℤ k → cls (whole z) within under_two → Beside j k
beside_by (pos zero) {j} {k} h w = same (h ∙ +ℤ_idl k)
beside_by (pos (suc zero)) {j} {k} h w = after (h ∙ +ℤ_comm (pos 1) k ∙ +ℤ_one k)
beside_by (pos (suc (suc n))) h w = absurd (two_or_more n w.up)
beside_by (negsuc zero) {j} {k} h w = before (sym (ap suc_ℤ h ∙ sym (suc_ℤ-+ℤ (negsuc 0) k) ∙ +ℤ_idl k))
beside_by (negsuc (suc n)) h w = absurd (two_or_more n (subst (λ v. v ≤ under_two) (sym (whole_neg (negsuc (suc n)))) w.down))

beside : (x : ℚ) (j k : ℤ) {a b : ℚ} → left x j within a → left x k within b → (b + a) * cls (inverse quarter) ≤ under_two → Beside j k
beside x j k {a} {b} h l c = beside_by (j +ℤ neg_ℤ k) (sym (-ℤ-+ℤ_cancel j k)) (within_≤ (within_at
    (ring (x ▸ cls (whole j) ▸ cls (whole k) ▸ ∅) (λ x j k. (x ⊝ k ⊗ con quarter ⊝ (x ⊝ j ⊗ con quarter)) ⊗ con (inverse quarter) ≐ j ⊝ k) tt
    ∙ ap (λ v. cls (whole j) + v) (sym (whole_neg k)) ∙ sym (whole_+ j (neg_ℤ k)))
    (within_* (within_+ l (within_neg h)) (within_self 0≤per_quarter))) c)

-- ---- one number of quarter turns or the next, and so any near one

left_suc : (x : ℚ) (k : ℤ) → left x (suc_ℤ k) ≡ left x k - cls quarter
left_suc x k = ap (λ v. x - v * cls quarter) (ap (λ (n : ℤ). cls (whole n)) (sym (+ℤ_one k)) ∙ whole_+ k (pos 1))
    ∙ ring (x ▸ cls (whole k) ▸ cls quarter ▸ ∅) (λ x k q. x ⊝ (k ⊕ 1ₑ) ⊗ q ≐ x ⊝ k ⊗ q ⊝ q) tt

module _ {f e : ℚ} (p : Phase f e) where
  next_turn : (x : ℚ) (k : ℤ) → left x k - cls eighth within f → wave_by x k ≋⟨ e ⟩ wave_by x (suc_ℤ k)
  next_turn x k h = ≋_at refl (sym (quarters_suc k (wave (left x (suc_ℤ k))))) (quarters_near k (≋_at refl (ap (λ y. ahead (wave y)) (sym (left_suc x k))) (p (left x k) h)))

  -- h, l: k leaves at most P/4, and j at most P/4 + f
  module _ (0≤e : 0# ≤ e) (0≤f : 0# ≤ f) (fits : (cls eighth + (cls eighth + f)) * cls (inverse quarter) ≤ under_two)
      (x : ℚ) (j k : ℤ) (h : left x j within cls eighth + f) (l : left x k within cls eighth) where
    after_here : j ≡ suc_ℤ k → left x k - cls eighth within f
    after_here q = record {
      up = le (left x k ▸ f ▸ ∅) (λ r f. r ≼ con eighth ⇒ λ h. 0ₑ ≼ f ⇒ λ k. r ⊝ con eighth ≼ f by h ⊞ k) tt l.up 0≤f;
      down = le (left x k ▸ f ▸ ∅) (λ r f. ⊖ (r ⊝ con quarter) ≼ con eighth ⊕ f ⇒ λ h. ⊖ (r ⊝ con eighth) ≼ f by h) tt (subst (λ v. neg v ≤ cls eighth + f) (ap (left x) q ∙ left_suc x k) h.down);
    }

    before_here : k ≡ suc_ℤ j → left x j - cls eighth within f
    before_here q = record {
      up = le (left x j ▸ f ▸ ∅) (λ r f. r ≼ con eighth ⊕ f ⇒ λ h. r ⊝ con eighth ≼ f by h) tt h.up;
      down = le (left x j ▸ f ▸ ∅) (λ r f. ⊖ (r ⊝ con quarter) ≼ con eighth ⇒ λ h. 0ₑ ≼ f ⇒ λ k. ⊖ (r ⊝ con eighth) ≼ f by h ⊞ k) tt (subst (λ v. neg v ≤ cls eighth) (ap (left x) q ∙ left_suc x j) l.down) 0≤f;
    }

    any_turn : wave_by x j ≋⟨ e ⟩ wave_by x k
    any_turn = go (beside x j k h l fits)
      where
        go : Beside j k → wave_by x j ≋⟨ e ⟩ wave_by x k
        go (same q) = subst (λ (n : ℤ). wave_by x n ≋⟨ e ⟩ wave_by x k) (sym q) (≋_self (wave_by x k) 0≤e)
        go (after q) = subst (λ (n : ℤ). wave_by x n ≋⟨ e ⟩ wave_by x k) (sym q) (≋_sym (next_turn x k (after_here q)))
        go (before q) = subst (λ (n : ℤ). wave_by x j ≋⟨ e ⟩ wave_by x n) (sym q) (next_turn x j (before_here q))

-- any number of quarter turns that leaves at most 1 gives the exact pair up to 2⁻⁷³; with at most P/2 left, up to 2⁻⁵⁹
module _ (v : Frac) (j : ℤ) where
  pub exact_any : left (cls v) j within 1# → wave_by (cls v) j ≋⟨ 2⁻ 73 ⟩ exact v
  unfolding computes
  exact_any h = ≋_at refl (sym (exact_is v)) (any_turn narrow (0≤part 73) (closed tt) (closed tt) (cls v) j (turns v) (within_≤ h (closed tt)) (rest_small v))

  pub exact_far : left (cls v) j within cls quarter → wave_by (cls v) j ≋⟨ 2⁻ 59 ⟩ exact v
  unfolding computes
  exact_far h = ≋_at refl (sym (exact_is v)) (any_turn wide (0≤part 59) (closed tt) (closed tt) (cls v) j (turns v) (within_≤ h (closed tt)) (rest_small v))

-- ---- equal fractions have equal sines

pub exact_equal : (v w : Frac) → cls v ≡ cls w → exact v ≡ exact w
exact_equal v w h = exact_is v ∙ ap₂ wave_by h (nearest_same (v *ᶠ (inverse quarter)) (w *ᶠ (inverse quarter)) (times_cls v (inverse quarter) ∙ ap (λ x. x * cls (inverse quarter)) h ∙ sym (times_cls w (inverse quarter)))) ∙ sym (exact_is w)

-- ---- the circle and the sizes

pub exact_circle : (v : Frac) → radius² (exact v) - 1# within 2⁻ 73
exact_circle v = within_at (ap (λ z. z - 1#) (sym (ap radius² (exact_is v) ∙ quarters_square (turns v) (wave (left (cls v) (turns v)))))) (circle (left (cls v) (turns v)) (rest_one v))

pub sine_size : (v : Frac) → cls (sine v) within just_over
sine_size v = size (cls (sine v)) (cls (cosine v)) (exact_circle v)

pub cosine_size : (v : Frac) → cls (cosine v) within just_over
cosine_size v = size (cls (cosine v)) (cls (sine v)) (within_at (swap (cls (sine v)) (cls (cosine v))) (exact_circle v))

-- ---- they change by no more than the angle

by_steady : (x y : ℚ) (k : ℤ) {w : ℚ} → left x k within 1# → left y k within 1# → y - x within w → wave_by y k ≋⟨ w * (1# + 2⁻ 68) ⟩ wave_by x k
by_steady x y k {w} hx hy h = quarters_near k (wave_steady (left x k) (left y k) w hx hy
    (within_at (ring (x ▸ y ▸ cls (whole k) ▸ ∅) (λ x y k. y ⊝ x ≐ y ⊝ k ⊗ con quarter ⊝ (x ⊝ k ⊗ con quarter)) tt) h))

module _ (u v : Frac) (w : ℚ) (h : cls v - cls u within w) (small : w ≤ cls (pos 1 over 5)) where
  still_one : left (cls v) (turns u) within 1#
  unfolding computes
  still_one = within_≤ (within_at (ring (cls u ▸ cls v ▸ cls (whole (turns u)) ▸ ∅) (λ u v k. u ⊝ k ⊗ con quarter ⊕ (v ⊝ u) ≐ v ⊝ k ⊗ con quarter) tt) (within_+ (rest_small u) (within_≤ h small))) (closed tt)

  pub exact_steady : exact v ≋⟨ 2⁻ 73 + w * (1# + 2⁻ 68) ⟩ exact u
  exact_steady = ≋_trans (≋_sym (exact_any v (turns u) still_one)) (≋_at refl (sym (exact_is u)) (by_steady (cls u) (cls v) (turns u) (rest_one u) still_one h))

-- ---- odd and even

left_neg : (x : ℚ) (k : ℤ) → left (neg x) (neg_ℤ k) ≡ neg (left x k)
left_neg x k = ap (λ v. neg x - v * cls quarter) (whole_neg k) ∙ ring (x ▸ cls (whole k) ▸ cls quarter ▸ ∅) (λ x k q. ⊖ x ⊝ ⊖ k ⊗ q ≐ ⊖ (x ⊝ k ⊗ q)) tt

by_mirror : (x : ℚ) (k : ℤ) → wave_by (neg x) (neg_ℤ k) ≡ mirror (wave_by x k)
by_mirror x k = ap (quarters (neg_ℤ k)) (ap wave (left_neg x k) ∙ wave_mirror (left x k)) ∙ quarters_mirror k (wave (left x k))

pub exact_mirror : (v : Frac) → exact (F.neg v) ≋⟨ 2⁻ 73 ⟩ mirror (exact v)
exact_mirror v = ≋_sym (≋_at (ap (λ x. wave_by x (neg_ℤ (turns v))) (neg_cls v) ∙ by_mirror (cls v) (turns v) ∙ ap mirror (sym (exact_is v))) refl
    (exact_any (F.neg v) (neg_ℤ (turns v)) (within_at (sym (ap (λ x. left x (neg_ℤ (turns v))) (neg_cls v) ∙ left_neg (cls v) (turns v))) (within_neg (rest_one v)))))
