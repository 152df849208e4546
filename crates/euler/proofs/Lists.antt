-- A list of triples, one more at a time.
use Rattle.std.proofs.Common.{◌≡◌, ℕ, zero, suc, ◌+◌, ◌<◌, ◌≤◌, Bool, true, false, leb, ◌≢◌, List, [], ◌∷◌, length, get_or, take, drop, set, Some, None, Option, Result, sym, refl, ap, ◌∙◌, subst, le_of_suc-le-suc, not-suc-le-zero, arith, get_or-set_other, get_or-set_same, below_more, le-leb}
use Rattle.std.proofs.lemmas.List.{drop-set-lt, get_or_default}
use Rattle.fault.specs.Answers.{unless, ◌⨾◌}
use Rattle.fault.specs.declared.RotationFault.{RotationFault}
use Rattle.fault.specs.declared.RotationFault.TheVariants.{TooShort}
use Rattle.euler.specs.Lists.{Triple, first_fault, Converted, ListedBy, Listed}
use lib.Ieee.{Float}

both_none : (o u : Option RotationFault) → o ⨾ u ≡ None → (o ≡ None) × (u ≡ None)
both_none None u h = (refl, h)
both_none (Some f) u h = let z : ◌≡◌ {A = ℕ} 0 1 = cc in absurd (omega arith)

-- ---- faults

module _ (f : Float → Float → Float → Option RotationFault) where
  abbrev of : Triple → Option RotationFault
  of t = f t.0 t.1 t.2

  -- none among the first i, and none at i
  pub first_more : (ts : List Triple) (i : ℕ) (d : Triple) → i < length ts → first_fault f (take i ts) ≡ None → of (get_or ts i d) ≡ None → first_fault f (take (suc i) ts) ≡ None
  first_more [] i d lt h e = absurd (not-suc-le-zero lt)
  first_more (t ∷ ts) zero d lt h e = ap (λ o. o ⨾ first_fault f (take 0 ts)) e
  first_more (t ∷ ts) (suc i) d lt h e =
      let p = both_none (of t) (first_fault f (take i ts)) h in
      ap (λ o. o ⨾ first_fault f (take (suc i) ts)) p.0 ∙ first_more ts i d (le_of_suc-le-suc lt) p.1 e

  -- none among the first i, and one at i
  pub first_here : (ts : List Triple) (i : ℕ) (d : Triple) (x : RotationFault) → i < length ts → first_fault f (take i ts) ≡ None → of (get_or ts i d) ≡ Some x → first_fault f ts ≡ Some x
  first_here [] i d x lt h e = absurd (not-suc-le-zero lt)
  first_here (t ∷ ts) zero d x lt h e = ap (λ o. o ⨾ first_fault f ts) e
  first_here (t ∷ ts) (suc i) d x lt h e =
      let p = both_none (of t) (first_fault f (take i ts)) h in
      ap (λ o. o ⨾ first_fault f ts) p.0 ∙ first_here ts i d x (le_of_suc-le-suc lt) p.1 e

  pub none_at : (ts : List Triple) (i : ℕ) (d : Triple) → i < length ts → first_fault f ts ≡ None → of (get_or ts i d) ≡ None
  none_at [] i d lt h = absurd (not-suc-le-zero lt)
  none_at (t ∷ ts) zero d lt h = (both_none (of t) (first_fault f ts) h).0
  none_at (t ∷ ts) (suc i) d lt h = none_at ts i d (le_of_suc-le-suc lt) (both_none (of t) (first_fault f ts) h).1

-- ---- places

pub converted_more : {R : Type 0} (rot : Float → Float → Float → R) (j : ℕ) (ts : List Triple) (qs : List R) (q : R) (t0 : Triple)
    → j < length ts → j < length qs → Converted rot j ts qs → q ≡ rot (get_or ts j t0).0 (get_or ts j t0).1 (get_or ts j t0).2
    → Converted rot (j + 1) ts (set qs j q)
converted_more rot j ts qs q t0 lt lu h e k t d =
    below_more (λ k. get_or (set qs j q) k d ≡ rot (get_or ts k t).0 (get_or ts k t).1 (get_or ts k t).2) j
    (λ k lk. let ne : k ≢ j = omega arith in rw get_or-set_other (h k t d lk))
    (get_or-set_same qs j q d lu ∙ e ∙ ap (λ (u : Triple). rot u.0 u.1 u.2) (get_or_default ts j t0 t lt))
    k

pub rest_kept : {R : Type 0} (qs os : List R) (j n : ℕ) (q : R) → j < n → drop n qs ≡ drop n os → drop n (set qs j q) ≡ drop n os
rest_kept qs os j n q lt e = drop-set-lt n qs j q lt ∙ e

-- the output is long enough, and the first fault is o
pub listed : {R : Type 0} (f : Float → Float → Float → Option RotationFault) (rot : Float → Float → Float → R) (ts : List Triple) (os : List R) (r : Result ℕ RotationFault) (qs : List R) (o : Option RotationFault)
    → length ts ≤ length os → first_fault f ts ≡ o → ListedBy o rot ts os r qs → Listed f rot ts os r qs
listed f rot ts os r qs o le e h = go (leb (length ts) (length os)) (le-leb (length ts) (length os) le)
  where
    go : (b : Bool) → b ≡ true → ListedBy (unless b (TooShort 2) ⨾ first_fault f ts) rot ts os r qs
    go true p = subst (λ (x : Option RotationFault). ListedBy x rot ts os r qs) (sym e) h
    go false p = let z : ◌≡◌ {A = ℕ} 0 1 = cc in absurd (omega arith)
