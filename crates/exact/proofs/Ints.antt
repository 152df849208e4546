-- The laws of ℤ that lib.IntN lacks: the product is associative and distributes over the sum.
use mathlib.Core.Path.{◌≡◌, refl, sym, ◌∙◌, ap}
use native.Mathlib.Omega.{arith}
use Prim.Native.Nat.{ℕ, zero, suc, ◌+◌, ◌*◌}
use lib.Signed.{le_z, non_neg}
use mathlib.Core.Bool.{Bool, true, false, not, cond}
use mathlib.Core.List.{List}
use lib.ListN.{get_or}
use native.Mathlib.Nat.{le_antisymm}
use lib.Dec.{T, eqb, eqb→eq, leb, leb→le, ltb, ltb→lt, nltb→le, le→leb, leb-zero, leb-suc-zero, leb-suc-suc}
use lib.Arith.{lt→nleb}
use Rattle.exact.proofs.Ring.{Ring, Coef, Into, Expr, ◌⊕◌, ⊖◌, ⟦◌⟧, norm, empty, solve}
use lib.IntN.{ℤ, pos, negsuc, suc_ℤ, pred_ℤ, neg_ℤ, sub_ℕ, one, ◌+ℤ◌, ◌-ℤ◌, ◌*ℤ◌, +ℤ_assoc, +ℤ_comm, +ℤ_idl, +ℤ_idr, +ℤ_invl, +ℤ_invr, suc_ℤ-+ℤ, pred_ℤ-+ℤ, suc_ℤ-*ℤ, pred_ℤ-*ℤ, zero-*ℤ, *ℤ-one, *ℤ_comm}

-- induction in both directions
pub by_steps : (P : ℤ → Type 0) → P (pos zero) → ((k : ℤ) → P k → P (suc_ℤ k)) → ((k : ℤ) → P k → P (pred_ℤ k)) → (k : ℤ) → P k
by_steps P z s p (pos zero) = z
by_steps P z s p (pos (suc n)) = s (pos n) (by_steps P z s p (pos n))
by_steps P z s p (negsuc zero) = p (pos zero) z
by_steps P z s p (negsuc (suc n)) = p (negsuc n) (by_steps P z s p (negsuc n))

+ℤ_swap : (a b c : ℤ) → a +ℤ b +ℤ c ≡ a +ℤ c +ℤ b
+ℤ_swap a b c = +ℤ_assoc a b c ∙ ap (λ x. a +ℤ x) (+ℤ_comm b c) ∙ sym (+ℤ_assoc a c b)

pub *ℤ_+ℤ : (a b k : ℤ) → (a +ℤ b) *ℤ k ≡ a *ℤ k +ℤ b *ℤ k
*ℤ_+ℤ a b k = by_steps (λ a. (a +ℤ b) *ℤ k ≡ a *ℤ k +ℤ b *ℤ k)
    (ap (λ x. x *ℤ k) (+ℤ_idl b) ∙ sym (ap (λ x. x +ℤ b *ℤ k) (zero-*ℤ k) ∙ +ℤ_idl (b *ℤ k)))
    (λ a h. ap (λ x. x *ℤ k) (suc_ℤ-+ℤ a b) ∙ suc_ℤ-*ℤ (a +ℤ b) k ∙ ap (λ x. x +ℤ k) h ∙ +ℤ_swap (a *ℤ k) (b *ℤ k) k ∙ ap (λ x. x +ℤ b *ℤ k) (sym (suc_ℤ-*ℤ a k)))
    (λ a h. ap (λ x. x *ℤ k) (pred_ℤ-+ℤ a b) ∙ pred_ℤ-*ℤ (a +ℤ b) k ∙ ap (λ x. x -ℤ k) h ∙ +ℤ_swap (a *ℤ k) (b *ℤ k) (neg_ℤ k) ∙ ap (λ x. x +ℤ b *ℤ k) (sym (pred_ℤ-*ℤ a k)))
    a

-- what is added to a to give 0 is -a
neg_unique : (a b : ℤ) → a +ℤ b ≡ pos zero → b ≡ neg_ℤ a
neg_unique a b h = sym (+ℤ_idl b) ∙ ap (λ x. x +ℤ b) (sym (+ℤ_invl a)) ∙ +ℤ_assoc (neg_ℤ a) a b ∙ ap (λ x. neg_ℤ a +ℤ x) h ∙ +ℤ_idr (neg_ℤ a)

pub neg_*ℤ : (a k : ℤ) → neg_ℤ a *ℤ k ≡ neg_ℤ (a *ℤ k)
neg_*ℤ a k = neg_unique (a *ℤ k) (neg_ℤ a *ℤ k) (sym (*ℤ_+ℤ a (neg_ℤ a) k) ∙ ap (λ x. x *ℤ k) (+ℤ_invr a) ∙ zero-*ℤ k)

pub *ℤ_assoc : (a b c : ℤ) → a *ℤ b *ℤ c ≡ a *ℤ (b *ℤ c)
*ℤ_assoc a b c = by_steps (λ a. a *ℤ b *ℤ c ≡ a *ℤ (b *ℤ c))
    (ap (λ x. x *ℤ c) (zero-*ℤ b) ∙ zero-*ℤ c ∙ sym (zero-*ℤ (b *ℤ c)))
    (λ a h. ap (λ x. x *ℤ c) (suc_ℤ-*ℤ a b) ∙ *ℤ_+ℤ (a *ℤ b) b c ∙ ap (λ x. x +ℤ b *ℤ c) h ∙ sym (suc_ℤ-*ℤ a (b *ℤ c)))
    (λ a h. ap (λ x. x *ℤ c) (pred_ℤ-*ℤ a b) ∙ *ℤ_+ℤ (a *ℤ b) (neg_ℤ b) c ∙ ap (λ x. a *ℤ b *ℤ c +ℤ x) (neg_*ℤ b c) ∙ ap (λ x. x -ℤ b *ℤ c) h ∙ sym (pred_ℤ-*ℤ a (b *ℤ c)))
    a

-- ---- ℤ as a ring, and its solver

pub one_*ℤ : (a : ℤ) → pos 1 *ℤ a ≡ a
unfolding one
one_*ℤ a = *ℤ_comm (pos 1) a ∙ *ℤ-one a

abbrev pub ℤ_ring : Ring ℤ
ℤ_ring = record {
  0# = pos zero;
  1# = pos 1;
  ◌+◌ = ◌+ℤ◌;
  ◌*◌ = ◌*ℤ◌;
  neg = neg_ℤ;
  +_assoc = +ℤ_assoc;
  +_comm = +ℤ_comm;
  +_zero = +ℤ_idl;
  +_neg = +ℤ_invr;
  *_assoc = *ℤ_assoc;
  *_comm = *ℤ_comm;
  *_one = one_*ℤ;
  *_+ = *ℤ_+ℤ;
}

abbrev pub is_zero : ℤ → Bool
is_zero (pos n) = eqb n 0
is_zero (negsuc n) = false

pub is_zero_is : (z : ℤ) → T (is_zero z) → z ≡ pos zero
is_zero_is (pos n) t = ap pos (eqb→eq n 0 t)
is_zero_is (negsuc n) t = absurd t

abbrev pub ℤ_coef : Coef ℤ
ℤ_coef = record { unit = pos 1; plus = ◌+ℤ◌; times = ◌*ℤ◌; minus = neg_ℤ; none = is_zero }

abbrev pub ℤ_into : Into ℤ_coef ℤ_ring
ℤ_into = record { at = λ z. z; unit = refl; plus = λ c d. refl; times = λ c d. refl; minus = λ c. refl; none = is_zero_is }

-- the values of the variables, in order
abbrev pub ℤ_env : List ℤ → ℕ → ℤ
ℤ_env xs i = get_or xs i (pos zero)

pub ℤ_solve : (xs : List ℤ) (e f : Expr ℤ) → T (empty ℤ_coef (norm ℤ_coef (e ⊕ ⊖ f))) → ⟦◌⟧ ℤ_coef ℤ_ring ℤ_into (ℤ_env xs) e ≡ ⟦◌⟧ ℤ_coef ℤ_ring ℤ_into (ℤ_env xs) f
ℤ_solve xs = solve ℤ_coef ℤ_ring ℤ_into (ℤ_env xs)

-- ---- the sign of a product

suc_* : (a b : ℕ) → suc a * suc b ≡ suc (a * suc b + b)
suc_* a b = omega arith

pub scaled : (z : ℤ) (n : ℕ) → non_neg (z *ℤ pos (suc n)) ≡ non_neg z
scaled (pos a) n = refl
scaled (negsuc a) n = ap (λ (k : ℕ). non_neg (neg_ℤ (pos k))) (suc_* a n)

pub non_neg_+ : (a b : ℤ) → T (non_neg a) → T (non_neg b) → T (non_neg (a +ℤ b))
non_neg_+ (pos a) (pos b) s t = tt
non_neg_+ (pos a) (negsuc b) s t = absurd t
non_neg_+ (negsuc a) b s t = absurd s

pub non_neg_* : (a b : ℤ) → T (non_neg a) → T (non_neg b) → T (non_neg (a *ℤ b))
non_neg_* (pos a) (pos b) s t = tt
non_neg_* (pos a) (negsuc b) s t = absurd t
non_neg_* (negsuc a) b s t = absurd s

-- only 0 has a square that is not above 0
pub square_zero : (a : ℤ) → T (non_neg (neg_ℤ (a *ℤ a))) → T (non_neg (neg_ℤ a))
square_zero (pos zero) t = tt
square_zero (pos (suc a)) t = absurd (rw (suc_* a a) at t)
square_zero (negsuc a) t = tt

-- b is above 0, and a b is not
pub cut : (a b : ℤ) → T (not (non_neg (neg_ℤ b))) → T (non_neg (neg_ℤ (a *ℤ b))) → T (non_neg (neg_ℤ a))
cut (pos zero) b s t = tt
cut (pos (suc a)) (pos zero) s t = absurd s
cut (pos (suc a)) (pos (suc b)) s t = absurd (rw (suc_* a b) at t)
cut (pos (suc a)) (negsuc b) s t = absurd s
cut (negsuc a) b s t = tt

sub_sign : (a b : ℕ) → leb b a ≡ non_neg (sub_ℕ a b)
sub_sign a b = go (ltb a b) (leb b a) _ _ (λ t. lt→nleb b a (ltb→lt a b t)) (λ t. le→leb b a (nltb→le a b t))
  where
    go : (c d : Bool) (m n : ℕ) → (T c → T (not d)) → (T (not c) → T d) → d ≡ non_neg (cond c (negsuc m) (pos n))
    go true true m n f g = absurd (f tt)
    go true false m n f g = refl
    go false true m n f g = refl
    go false false m n f g = absurd (g tt)

pub le_z_is : (a b : ℤ) → le_z a b ≡ non_neg (b +ℤ neg_ℤ a)
le_z_is (pos zero) (pos b) = leb-zero b
le_z_is (pos zero) (negsuc b) = sym (leb-suc-zero b) ∙ sub_sign zero (suc b)
le_z_is (pos (suc a)) (pos b) = sub_sign b (suc a)
le_z_is (pos (suc a)) (negsuc b) = refl
le_z_is (negsuc a) (pos b) = refl
le_z_is (negsuc a) (negsuc b) = sym (leb-suc-suc b a) ∙ sub_sign (suc a) (suc b)

pub le_z_antisym : (a b : ℤ) → T (le_z a b) → T (le_z b a) → a ≡ b
le_z_antisym (pos a) (pos b) s t = ap pos (le_antisymm (leb→le a b s) (leb→le b a t))
le_z_antisym (pos a) (negsuc b) s t = absurd s
le_z_antisym (negsuc a) (pos b) s t = absurd t
le_z_antisym (negsuc a) (negsuc b) s t = ap negsuc (le_antisymm (leb→le a b t) (leb→le b a s))
