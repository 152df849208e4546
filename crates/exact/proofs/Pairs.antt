-- The sine and cosine of an angle as a pair (s, c): a quarter turn further, at the opposite angle, and at a sum of angles.
use mathlib.Core.Path.{◌≡◌, refl, sym, ◌∙◌, ap, ap₂, subst}
use Prim.Native.Nat as N
use Prim.Native.Nat.{ℕ, zero, suc}
use native.Mathlib.Omega.{arith}
use lib.IntN.{ℤ, pos, negsuc, neg_ℤ, suc_ℤ, pred_ℤ, suc-pred, ◌+ℤ◌, +ℤ_idl, +ℤ_idr, suc_ℤ-+ℤ, pred_ℤ-+ℤ, neg_ℤ-suc_ℤ, neg_ℤ-pred_ℤ}
use Rattle.exact.specs.Sine.{mod4, pick}
use Rattle.exact.proofs.Ints.{by_steps}
use Rattle.exact.proofs.Ring.{◌⊕◌, ◌⊗◌, ⊖◌, ◌⊝◌}
use Rattle.exact.proofs.Rational.{ℚ, ◌+◌, ◌*◌, neg, ◌-◌, ∅, ◌▸◌, ◌≐◌, ring}
use Rattle.exact.proofs.Order.{◌≤◌}
use Rattle.exact.proofs.Within.{0#, ◌≈⟨◌⟩◌, near_≤, near_trans, near_sym, near_self, near_neg}

pub record Pair : Type 0 where
  pub s : ℚ
  pub c : ℚ

abbrev pub pair : ℚ → ℚ → Pair
pair s c = record { s = s; c = c }

abbrev pub radius² : Pair → ℚ
radius² w = w.s * w.s + w.c * w.c

-- ---- pairs near each other

infix 50 ◌≋⟨◌⟩◌
pub record ◌≋⟨◌⟩◌ (v : Pair) (e : ℚ) (w : Pair) : Type 0 where
  pub of_s : v.s ≈⟨ e ⟩ w.s
  pub of_c : v.c ≈⟨ e ⟩ w.c

pub ≋_at : {v v' w w' : Pair} {e : ℚ} → v ≡ v' → w ≡ w' → v ≋⟨ e ⟩ w → v' ≋⟨ e ⟩ w'
≋_at {v} {w' = w'} {e} p q h = subst (λ z. z ≋⟨ e ⟩ w') p (subst (λ z. v ≋⟨ e ⟩ z) q h)

pub ≋_≤ : {v w : Pair} {e f : ℚ} → v ≋⟨ e ⟩ w → e ≤ f → v ≋⟨ f ⟩ w
≋_≤ h k = record { of_s = near_≤ h.of_s k; of_c = near_≤ h.of_c k }

pub ≋_trans : {u v w : Pair} {e f : ℚ} → u ≋⟨ e ⟩ v → v ≋⟨ f ⟩ w → u ≋⟨ e + f ⟩ w
≋_trans h k = record { of_s = near_trans h.of_s k.of_s; of_c = near_trans h.of_c k.of_c }

pub ≋_sym : {v w : Pair} {e : ℚ} → v ≋⟨ e ⟩ w → w ≋⟨ e ⟩ v
≋_sym h = record { of_s = near_sym h.of_s; of_c = near_sym h.of_c }

pub ≋_self : {e : ℚ} (w : Pair) → 0# ≤ e → w ≋⟨ e ⟩ w
≋_self w h = record { of_s = near_self w.s h; of_c = near_self w.c h }

-- ---- a quarter turn on, a quarter turn back, the opposite angle, the sum of two angles

abbrev pub ahead : Pair → Pair
ahead w = pair w.c (neg w.s)

abbrev pub behind : Pair → Pair
behind w = pair (neg w.c) w.s

abbrev pub mirror : Pair → Pair
mirror w = pair (neg w.s) w.c

abbrev pub sum : Pair → Pair → Pair
sum v w = pair (v.s * w.c + v.c * w.s) (v.c * w.c - v.s * w.s)

neg_neg : (x : ℚ) → neg (neg x) ≡ x
neg_neg x = ring (x ▸ ∅) (λ x. ⊖ ⊖ x ≐ x) tt

ahead_behind : (w : Pair) → ahead (behind w) ≡ w
ahead_behind w = ap (pair w.s) (neg_neg w.c)

module _ (v w : Pair) where
  sum_comm : sum v w ≡ sum w v
  sum_comm = ap₂ pair (ring (v.s ▸ v.c ▸ w.s ▸ w.c ▸ ∅) (λ s c t d. s ⊗ d ⊕ c ⊗ t ≐ t ⊗ c ⊕ d ⊗ s) tt) (ring (v.s ▸ v.c ▸ w.s ▸ w.c ▸ ∅) (λ s c t d. c ⊗ d ⊝ s ⊗ t ≐ d ⊗ c ⊝ t ⊗ s) tt)

  sum_ahead : sum (ahead v) w ≡ ahead (sum v w)
  sum_ahead = ap₂ pair (ring (v.s ▸ v.c ▸ w.s ▸ w.c ▸ ∅) (λ s c t d. c ⊗ d ⊕ ⊖ s ⊗ t ≐ c ⊗ d ⊝ s ⊗ t) tt) (ring (v.s ▸ v.c ▸ w.s ▸ w.c ▸ ∅) (λ s c t d. ⊖ s ⊗ d ⊝ c ⊗ t ≐ ⊖ (s ⊗ d ⊕ c ⊗ t)) tt)

  sum_behind : sum (behind v) w ≡ behind (sum v w)
  sum_behind = ap₂ pair (ring (v.s ▸ v.c ▸ w.s ▸ w.c ▸ ∅) (λ s c t d. ⊖ c ⊗ d ⊕ s ⊗ t ≐ ⊖ (c ⊗ d ⊝ s ⊗ t)) tt) (ring (v.s ▸ v.c ▸ w.s ▸ w.c ▸ ∅) (λ s c t d. s ⊗ d ⊝ ⊖ c ⊗ t ≐ s ⊗ d ⊕ c ⊗ t) tt)

-- ---- k quarter turns on

abbrev pub turned : ℕ → Pair → Pair
turned n w = pair (pick n w.s w.c (neg w.s) (neg w.c)) (pick n w.c (neg w.s) (neg w.c) w.s)

unfoldable pub quarters : ℤ → Pair → Pair
quarters k w = turned (mod4 k) w

turned_near : (n : ℕ) {v w : Pair} {e : ℚ} → v ≋⟨ e ⟩ w → turned n v ≋⟨ e ⟩ turned n w
turned_near zero h = h
turned_near (suc zero) h = record { of_s = h.of_c; of_c = near_neg h.of_s }
turned_near (suc (suc zero)) h = record { of_s = near_neg h.of_s; of_c = near_neg h.of_c }
turned_near (suc (suc (suc n))) h = record { of_s = near_neg h.of_c; of_c = h.of_s }

pub quarters_near : (k : ℤ) {v w : Pair} {e : ℚ} → v ≋⟨ e ⟩ w → quarters k v ≋⟨ e ⟩ quarters k w
unfolding quarters
quarters_near k h = turned_near (mod4 k) h

turned_square : (n : ℕ) (w : Pair) → radius² (turned n w) ≡ radius² w
turned_square zero w = refl
turned_square (suc zero) w = ring (w.s ▸ w.c ▸ ∅) (λ s c. c ⊗ c ⊕ ⊖ s ⊗ ⊖ s ≐ s ⊗ s ⊕ c ⊗ c) tt
turned_square (suc (suc zero)) w = ring (w.s ▸ w.c ▸ ∅) (λ s c. ⊖ s ⊗ ⊖ s ⊕ ⊖ c ⊗ ⊖ c ≐ s ⊗ s ⊕ c ⊗ c) tt
turned_square (suc (suc (suc n))) w = ring (w.s ▸ w.c ▸ ∅) (λ s c. ⊖ c ⊗ ⊖ c ⊕ s ⊗ s ≐ s ⊗ s ⊕ c ⊗ c) tt

pub quarters_square : (k : ℤ) (w : Pair) → radius² (quarters k w) ≡ radius² w
unfolding quarters
quarters_square k w = turned_square (mod4 k) w

-- what k + 1 leaves by 4
abbrev next : ℕ → ℕ
next zero = 1
next (suc zero) = 2
next (suc (suc zero)) = 3
next (suc (suc (suc n))) = 0

mod_next : (n i : ℕ) → N.◌%◌ n 4 ≡ i → N.◌%◌ (suc n) 4 ≡ next i
mod_next n zero h = omega arith
mod_next n (suc zero) h = omega arith
mod_next n (suc (suc zero)) h = omega arith
mod_next n (suc (suc (suc i))) h = omega arith

mod_back : (n i : ℕ) → N.◌%◌ n 4 ≡ i → N.◌-◌ 3 i ≡ next (N.◌-◌ 3 (N.◌%◌ (suc n) 4))
mod_back n zero h = ap (λ (k : ℕ). next (N.◌-◌ 3 k)) (sym (mod_next n zero h))
mod_back n (suc zero) h = ap (λ (k : ℕ). next (N.◌-◌ 3 k)) (sym (mod_next n 1 h))
mod_back n (suc (suc zero)) h = ap (λ (k : ℕ). next (N.◌-◌ 3 k)) (sym (mod_next n 2 h))
mod_back n (suc (suc (suc zero))) h = ap (λ (k : ℕ). next (N.◌-◌ 3 k)) (sym (mod_next n 3 h))
mod_back n (suc (suc (suc (suc i)))) h = absurd (big n i h)
  where
    big : (n i : ℕ) → N.◌%◌ n 4 ≡ suc (suc (suc (suc i))) → ⊥
    big n i h = omega arith

mod4_suc : (k : ℤ) → mod4 (suc_ℤ k) ≡ next (mod4 k)
mod4_suc (pos n) = mod_next n (N.◌%◌ n 4) refl
mod4_suc (negsuc zero) = refl
mod4_suc (negsuc (suc n)) = mod_back n (N.◌%◌ n 4) refl

turned_next : (i : ℕ) (w : Pair) → turned (next i) w ≡ turned i (ahead w)
turned_next zero w = refl
turned_next (suc zero) w = refl
turned_next (suc (suc zero)) w = ap (pair (neg w.c)) (sym (neg_neg w.s))
turned_next (suc (suc (suc n))) w = ap (λ s. pair s w.c) (sym (neg_neg w.s))

pub quarters_suc : (k : ℤ) (w : Pair) → quarters (suc_ℤ k) w ≡ quarters k (ahead w)
unfolding quarters
quarters_suc k w = ap (λ (n : ℕ). turned n w) (mod4_suc k) ∙ turned_next (mod4 k) w

pub quarters_pred : (k : ℤ) (w : Pair) → quarters (pred_ℤ k) w ≡ quarters k (behind w)
quarters_pred k w = ap (quarters (pred_ℤ k)) (sym (ahead_behind w)) ∙ sym (quarters_suc (pred_ℤ k) (behind w)) ∙ ap (λ (j : ℤ). quarters j (behind w)) (suc-pred k)

-- the opposite angle lies as many quarter turns back
pub quarters_mirror : (k : ℤ) (w : Pair) → quarters (neg_ℤ k) (mirror w) ≡ mirror (quarters k w)
unfolding quarters
quarters_mirror = by_steps (λ k. (w : Pair) → quarters (neg_ℤ k) (mirror w) ≡ mirror (quarters k w)) (λ w. refl)
    (λ k h w. ap (λ (j : ℤ). quarters j (mirror w)) (neg_ℤ-suc_ℤ k) ∙ quarters_pred (neg_ℤ k) (mirror w) ∙ h (ahead w) ∙ ap mirror (sym (quarters_suc k w)))
    (λ k h w. ap (λ (j : ℤ). quarters j (mirror w)) (neg_ℤ-pred_ℤ k) ∙ quarters_suc (neg_ℤ k) (mirror w) ∙ ap (λ z. quarters (neg_ℤ k) (pair w.c z)) (neg_neg w.s)
    ∙ ap (λ z. quarters (neg_ℤ k) (pair z w.s)) (sym (neg_neg w.c)) ∙ h (behind w) ∙ ap mirror (sym (quarters_pred k w)))

-- quarter turns of the terms add up in the sum: from v to quarters k v
module _ (l : ℤ) (w w' : Pair) (base : (v : Pair) → sum v w' ≡ quarters l (sum v w)) where
  sum_quarters : (k : ℤ) (v : Pair) → sum (quarters k v) w' ≡ quarters (k +ℤ l) (sum v w)
  unfolding quarters
  sum_quarters = by_steps (λ k. (v : Pair) → sum (quarters k v) w' ≡ quarters (k +ℤ l) (sum v w))
      (λ v. base v ∙ ap (λ (j : ℤ). quarters j (sum v w)) (sym (+ℤ_idl l)))
      (λ k h v. ap (λ z. sum z w') (quarters_suc k v) ∙ h (ahead v) ∙ ap (quarters (k +ℤ l)) (sum_ahead v w) ∙ sym (quarters_suc (k +ℤ l) (sum v w)) ∙ ap (λ (j : ℤ). quarters j (sum v w)) (sym (suc_ℤ-+ℤ k l)))
      (λ k h v. ap (λ z. sum z w') (quarters_pred k v) ∙ h (behind v) ∙ ap (quarters (k +ℤ l)) (sum_behind v w) ∙ sym (quarters_pred (k +ℤ l) (sum v w)) ∙ ap (λ (j : ℤ). quarters j (sum v w)) (sym (pred_ℤ-+ℤ k l)))

sum_left : (k : ℤ) (v w : Pair) → sum (quarters k v) w ≡ quarters k (sum v w)
unfolding quarters
sum_left k v w = sum_quarters (pos 0) w w (λ v. refl) k v ∙ ap (λ (j : ℤ). quarters j (sum v w)) (+ℤ_idr k)

pub quarters_sum : (k l : ℤ) (v w : Pair) → sum (quarters k v) (quarters l w) ≡ quarters (k +ℤ l) (sum v w)
quarters_sum k l v w = sum_quarters l w (quarters l w) (λ v. sum_comm v (quarters l w) ∙ sum_left l w v ∙ ap (quarters l) (sum_comm w v)) k v
