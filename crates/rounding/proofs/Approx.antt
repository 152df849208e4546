-- The calculus of errors. `Approx x t b e`: the float x rounds the number t with an error of e, and both are b in size at most.
-- b and e are closed fractions, so each step's bounds compute and a condition on them is `tt`.
use lib.Ieee.Fits.{and_l, and_r}
use Rattle.std.proofs.Common.{◌≡◌, Bool, ◌&&◌, T, pos, sym, refl, ap, ◌∙◌, subst}
use lib.Signed.{le_z}
use lib.Ieee as F
use lib.Ieee.{Float, binary64, fits, add, sub, mul, div}
use lib.Ieee.Scale.{finite}
use Rattle.std.specs.Float.{sqrt}
use Rattle.exact.specs.Fraction.{Frac, whole, part, cross, inverse, ◌+ᶠ◌, ◌*ᶠ◌}
use Rattle.exact.specs.Fraction.{neg as negᶠ}
use Rattle.exact.proofs.Ring.{con, ◌⊕◌, ◌⊗◌, ⊖◌, ◌⊝◌}
use Rattle.exact.proofs.Rational.{ℚ, cls, ◌+◌, ◌*◌, neg, ◌-◌, ∅, ◌▸◌, ◌≐◌, ring}
use Rattle.exact.proofs.Order.{◌≤◌, number, ◌⊞◌, ◌⊠◌, ◌≼◌, ◌by◌, ◌⇒◌, le, from_frac}
use Rattle.exact.proofs.Within.{0#, 0ₑ, 1ₑ, computes, ≤_trans, ≤_of, ◌within◌, within_≤, within_at, within_+, within_*, within_neg, within_over, within_nonneg, above, inverse_of, ◌≈⟨◌⟩◌, near, apart, near_≤, near_trans, near_+, near_neg, near_size, near_nonneg, near_product}
use Rattle.exact.proofs.Within.{root as upto}
use Rattle.rounding.specs.Value.{val, Is}
use Rattle.rounding.specs.Theorems.{limit}
use Rattle.rounding.proofs.Values.{#◌, neg_value}
use Rattle.rounding.proofs.Rounds.{Rounds, own, exact_rounds}
use Rattle.rounding.proofs.Operations.{rounds_≤, rounds_then, negated, sum_rounds, difference_rounds, product_rounds, quotient_above, root_rounds, root_share}
use Rattle.rounding.proofs.Convert.{literal_is}

-- a ≤ b of closed fractions, by `tt`
infix 50 ◌≤ᵇ◌
abbrev pub ◌≤ᵇ◌ : Frac → Frac → Bool
a ≤ᵇ b = le_z (cross a b) (cross b a)

pub known_≤ : {a b : Frac} → T (a ≤ᵇ b) → cls a ≤ cls b
known_≤ {a} {b} t = from_frac a b (record { by = t })

-- what rounding takes of 1, what it loses below the normal range, and what 1 may grow to
abbrev pub u : Frac
u = part 53

abbrev pub tiny : Frac
tiny = part 1075

abbrev pub grown : Frac
grown = whole (pos 1) +ᶠ u

pub record Approx (x : Float) (t : ℚ) (b e : Frac) : Type 0 where
  pub rounds : Rounds x t (cls e)
  pub size : # x within cls b
  pub exact : t within cls b

-- a float stands for its own value
pub itself : {x : Float} {b : Frac} → Is x → # x within cls b → Approx x (# x) b (whole (pos 0))
itself i h = record { rounds = exact_rounds (own i); size = h; exact = h }

-- a literal: `constant tt tt`, under `unfolding fits`, and `of_bits` where it is a bit pattern
pub constant : {x : Float} {b : Frac} → T (fits binary64 x && finite x) → T (val x ≤ᵇ b && negᶠ (val x) ≤ᵇ b) → Approx x (# x) b (whole (pos 0))
unfolding computes
constant {x} {b} i t = itself (literal_is i) (record { up = known_≤ (and_l (val x ≤ᵇ b) _ t); down = known_≤ (and_r (val x ≤ᵇ b) _ t) })

-- what a law says of x, with the size of t
pub given : {x : Float} {t : ℚ} {b e : Frac} → Rounds x t (cls e) → t within cls b → Approx x t (b +ᶠ e) e
unfolding computes
given {x} {t} {b} {e} h k = record {
  rounds = h;
  size = near_size h.near k;
  exact = within_≤ k (le (cls b ▸ cls e ▸ ∅) (λ b e. 0ₑ ≼ e ⇒ λ h. b ≼ b ⊕ e by h) tt (near_nonneg h.near));
}

-- a sign changes without error
pub opposite : {x : Float} {t : ℚ} {b e : Frac} → Approx x t b e → Approx (F.neg x) (neg t) b e
opposite {x} p = record { rounds = negated p.rounds; size = within_at (sym (neg_value x)) (within_neg p.size); exact = within_neg p.exact }

-- x is v by-rounding, and v near t
by_rounding : {x : Float} {v t : ℚ} {b c d e : Frac} → Rounds x v (cls d) → v within cls b → t within cls b → v ≈⟨ cls e ⟩ t → cls b + cls d ≤ cls c → Approx x t c (d +ᶠ e)
unfolding computes
by_rounding {x} {v} {t} {b} {c} {d} h k l n m = record {
  rounds = rounds_then h n;
  size = within_≤ (near_size h.near k) m;
  exact = within_≤ l (le (cls b ▸ cls c ▸ cls d ▸ ∅) (λ b c d. 0ₑ ≼ d ⇒ λ h. b ⊕ d ≼ c ⇒ λ k. b ≼ c by h ⊞ k) tt (near_nonneg h.near) m);
}

module _ {x y : Float} {s t : ℚ} {a b d e : Frac} (p : Approx x s a d) (q : Approx y t b e) where
  sum_grown : cls (a +ᶠ b) + cls ((a +ᶠ b) *ᶠ u) ≤ cls ((a +ᶠ b) *ᶠ grown)
  unfolding computes
  sum_grown = ≤_of (ring (cls a ▸ cls b ▸ ∅) (λ a b. a ⊕ b ⊕ (a ⊕ b) ⊗ con u ≐ (a ⊕ b) ⊗ (1ₑ ⊕ con u)) tt)

  pub plus : T (a +ᶠ b ≤ᵇ limit) → Approx (add binary64 x y) (s + t) ((a +ᶠ b) *ᶠ grown) ((a +ᶠ b) *ᶠ u +ᶠ (d +ᶠ e))
  unfolding computes
  plus l = let k = within_+ p.size q.size in by_rounding (sum_rounds p.rounds.is q.rounds.is k (known_≤ l)) k (within_+ p.exact q.exact) (near_+ p.rounds.near q.rounds.near) sum_grown

  pub minus : T (a +ᶠ b ≤ᵇ limit) → Approx (sub binary64 x y) (s - t) ((a +ᶠ b) *ᶠ grown) ((a +ᶠ b) *ᶠ u +ᶠ (d +ᶠ e))
  unfolding computes
  minus l = let k = within_+ p.size (within_neg q.size) in by_rounding (difference_rounds p.rounds.is q.rounds.is k (known_≤ l)) k (within_+ p.exact (within_neg q.exact)) (near_+ p.rounds.near (near_neg q.rounds.near)) sum_grown

  pub times : T (a *ᶠ b ≤ᵇ limit) → Approx (mul binary64 x y) (s * t) (a *ᶠ b *ᶠ grown +ᶠ tiny) (a *ᶠ b *ᶠ u +ᶠ tiny +ᶠ (a *ᶠ e +ᶠ d *ᶠ b))
  unfolding computes
  times l =
      let k = within_* p.size q.size in
      by_rounding (product_rounds p.rounds.is q.rounds.is k (known_≤ l)) k (within_* p.exact q.exact)
      (near_product p.rounds.near q.rounds.near p.size q.exact)
      (≤_of (ring (cls a ▸ cls b ▸ ∅) (λ a b. a ⊗ b ⊕ (a ⊗ b ⊗ con u ⊕ con tiny) ≐ a ⊗ b ⊗ (1ₑ ⊕ con u) ⊕ con tiny) tt))

  -- r t = s, and c is no more than y and t: (r' − r) y = (r' y − x) + (x − s) + r (t − y)
  pub over : (c : Frac) {r : ℚ} → r * t ≡ s → cls c ≤ # y → cls c ≤ t → T (above c && a ≤ᵇ limit *ᶠ c)
      → Approx (div binary64 x y) r ((a +ᶠ (a *ᶠ u +ᶠ b *ᶠ tiny)) *ᶠ inverse c) ((a *ᶠ u +ᶠ b *ᶠ tiny +ᶠ d +ᶠ a *ᶠ inverse c *ᶠ e) *ᶠ inverse c)
  unfolding computes
  over c {r} is ly lt m =
      let f = # div binary64 x y in
      let c₀ = and_l (above c) (a ≤ᵇ limit *ᶠ c) m in
      let k = quotient_above c c₀ p.rounds.is q.rounds.is ly p.size q.size (known_≤ (and_r (above c) (a ≤ᵇ limit *ᶠ c) m)) in
      let exact = within_over c c₀ (within_at (sym is) p.exact) lt in
      record {
        rounds = record {
          is = k.0;
          near = near (within_over c c₀ (within_at (ring (f ▸ # y ▸ # x ▸ s ▸ r ▸ t ▸ ∅) (λ f y x s r t. f ⊗ y ⊝ x ⊕ (x ⊝ s) ⊝ r ⊗ (y ⊝ t) ≐ (f ⊝ r) ⊗ y ⊕ (r ⊗ t ⊝ s)) tt ∙ ap (λ z. (f - r) * # y + (z - s)) is ∙ ring (f ▸ # y ▸ r ▸ s ▸ ∅) (λ f y r s. (f ⊝ r) ⊗ y ⊕ (s ⊝ s) ≐ (f ⊝ r) ⊗ y) tt)
              (within_+ (within_+ (apart k.1) (apart p.rounds.near)) (within_neg (within_* exact (apart q.rounds.near))))) ly) refl;
        };
        size = within_over c c₀ (within_at (ring (f ▸ # y ▸ # x ▸ ∅) (λ f y x. x ⊕ (f ⊗ y ⊝ x) ≐ f ⊗ y) tt) (within_+ p.size (apart k.1))) ly;
        exact = within_≤ exact (le (cls a ▸ cls (a *ᶠ u +ᶠ b *ᶠ tiny) ▸ cls (inverse c) ▸ ∅) (λ a l i. 0ₑ ≼ l ⇒ λ h. 0ₑ ≼ i ⇒ λ g. a ⊗ i ≼ (a ⊕ l) ⊗ i by h ⊠ g) tt (within_nonneg (apart k.1)) (inverse_of c c₀).1);
      }

-- a root stands for itself, and its square for x's exact number
pub root : {x : Float} {t : ℚ} {b e : Frac} (c : Frac) → Approx x t b e → 0# ≤ # x → T (whole (pos 0) ≤ᵇ c && b +ᶠ b *ᶠ root_share ≤ᵇ c *ᶠ c)
    → Approx (sqrt binary64 x) (# sqrt binary64 x) c (whole (pos 0)) × (0# ≤ # sqrt binary64 x) × (# sqrt binary64 x * # sqrt binary64 x ≈⟨ cls (b *ᶠ root_share +ᶠ e) ⟩ t)
unfolding computes
root {x} {t} {b} {e} c p h m =
    let r = # sqrt binary64 x in
    let k = root_rounds p.rounds.is h in
    let c₀ = known_≤ {a = whole (pos 0)} {b = c} (and_l (whole (pos 0) ≤ᵇ c) _ m) in
    let most : r ≤ cls c = upto c₀ (≤_trans k.2.up (≤_trans (le (# x ▸ cls b ▸ ∅) (λ x b. x ≼ b ⇒ λ h. x ⊕ x ⊗ con root_share ≼ b ⊕ b ⊗ con root_share by h ⊠ number (whole (pos 1) +ᶠ root_share)) tt p.size.up) (known_≤ (and_r (whole (pos 0) ≤ᵇ c) _ m)))) in (
      itself k.0 (record { up = most; down = le (r ▸ cls c ▸ ∅) (λ r c. 0ₑ ≼ r ⇒ λ h. 0ₑ ≼ c ⇒ λ k. ⊖ r ≼ c by h ⊞ k) tt k.1 c₀ }),
      k.1,
      near_trans (near_≤ k.2 (le (# x ▸ cls b ▸ ∅) (λ x b. x ≼ b ⇒ λ h. x ⊗ con root_share ≼ b ⊗ con root_share by number root_share ⊠ h) tt p.size.up)) p.rounds.near,
    )

-- a larger bound and error
pub looser : {x : Float} {t : ℚ} {b c e f : Frac} → Approx x t b e → T (b ≤ᵇ c) → T (e ≤ᵇ f) → Approx x t c f
looser p h k = record { rounds = rounds_≤ p.rounds (known_≤ k); size = within_≤ p.size (known_≤ h); exact = within_≤ p.exact (known_≤ h) }

-- the same exact number, by `ring`
pub same : {x : Float} {s t : ℚ} {b e : Frac} → s ≡ t → Approx x s b e → Approx x t b e
same {x} {b = b} {e = e} h p = subst (λ t. Approx x t b e) h p
