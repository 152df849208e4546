-- The float sine and cosine of an angle, of its opposite and of its half, beside the exact ones.
use Rattle.std.proofs.Common.{◌≡◌, Bool, true, false, cond, pos, sym, refl, ap, ◌∙◌}
use lib.Ieee.{Float}
use lib.Ieee as I
use Rattle.exact.specs.Fraction.{Frac, 0ᶠ, 1ᶠ, whole, part, ◌over◌, ◌+ᶠ◌, ◌*ᶠ◌}
use Rattle.exact.specs.Fraction.{neg as negᶠ}
use Rattle.exact.specs.Sine.{sine}
use Rattle.exact.proofs.Ring.{con, ◌⊗◌, ⊖◌}
use Rattle.exact.proofs.Rational.{ℚ, cls, ◌+◌, ◌*◌, neg, neg_cls, times_cls, ∅, ◌▸◌, ◌≐◌, ring}
use Rattle.exact.proofs.Order.{◌≤◌}
use Rattle.exact.proofs.Within.{1#, 2⁻, computes, closed, 0≤part, ◌within◌, within_≤, within_at, within_neg, within_*, within_self, near_size, near_at, near_neg, apart}
use Rattle.exact.proofs.Distance.{size, close, size_back}
use Rattle.exact.proofs.Pairs.{Pair, pair, mirror, ◌≋⟨◌⟩◌, ≋_at}
use Rattle.exact.proofs.Sines.{exact, sine_size, cosine_size, exact_equal, exact_steady, exact_mirror}
use Rattle.rounding.specs.Value.{val}
use Rattle.rounding.proofs.Values.{#◌, neg_val, neg_value, neg_is}
use Rattle.rounding.proofs.Rounds.{Rounds}
use Rattle.rounding.proofs.Operations.{rounds_≤, rounds_at, rounds_then}
use Rattle.rounding.proofs.Exact.{half_rounds}
use Rattle.rounding.proofs.Literals.{half_exact}
use Rattle.rounding.proofs.Approx.{Approx, known_≤, itself}
use Rattle.numeric.specs.Floats.{◌⊗◌ as ◌⊗ᶠ◌, half}
use Rattle.numeric.specs.Sine.{sin_float, cos_float}
use Rattle.numeric.specs.Laws.{Angle}
use Rattle.numeric.proofs.Sines.{sine_law, cosine_law}
use Rattle.euler.specs.declared.Axis.{Axis}
use Rattle.euler.specs.declared.Order.{Order}

-- the order of four choices
abbrev pub at : Axis → Bool → Bool → Bool → Order
at i e r f = record { initial_axis = i; parity_even = e; initial_repeated = r; frame_static = f }

-- the floats t.0 and t.1 within e of the sine and the cosine of w
pub record Sines (t : Float × Float) (w : Pair) (e : ℚ) : Type 0 where
  pub s : Rounds t.0 w.s e
  pub c : Rounds t.1 w.c e

pub sines_≤ : {t : Float × Float} {w : Pair} {e f : ℚ} → Sines t w e → e ≤ f → Sines t w f
sines_≤ h k = record { s = rounds_≤ h.s k; c = rounds_≤ h.c k }

sines_then : {t : Float × Float} {v w : Pair} {e f : ℚ} → Sines t v e → v ≋⟨ f ⟩ w → Sines t w (e + f)
sines_then h k = record { s = rounds_then h.s k.of_s; c = rounds_then h.c k.of_c }

abbrev pub sines_of : Float → Float × Float
sines_of v = (sin_float v, cos_float v)

-- at the opposite angle, where e
abbrev pub flip : Bool → Pair → Pair
flip e w = cond e (mirror w) w

abbrev pub halved : Frac → Frac
halved a = a *ᶠ (pos 1 over 2)

-- 2⁻⁴⁴ for the float sine; 2⁻⁶⁰ is more than the 2⁻⁷³ of the opposite angle and what halving takes
abbrev pub ε : Frac
ε = part 44 +ᶠ part 60

opposite : {v : Float} → Angle v → Angle (I.neg v)
opposite {v} h = record { is = neg_is h.is; size = size_back (val (I.neg v)) (whole (pos 1000)) (within_at (sym (neg_value v)) (within_neg (size h.size))) }

half_near : {v : Float} → Angle v → Rounds (v ⊗ᶠ half) (cls (halved (val v))) (2⁻ 80)
half_near {v} h = rounds_≤ (rounds_at (sym (times_cls (val v) (part 1))) (half_rounds h.is half_exact.is half_exact.value)) (known_≤ tt)

half_angle : {v : Float} → Angle v → Angle (v ⊗ᶠ half)
unfolding computes
half_angle {v} h = let r = half_near h in record { is = r.is; size = size_back (val (v ⊗ᶠ half)) (whole (pos 1000)) (within_≤ (near_size r.near (within_* (size h.size) (within_self (0≤part 1)))) (closed tt)) }

-- half the opposite angle
halved_opposite : (v : Float) → exact (negᶠ (halved (val v))) ≡ exact (halved (val (I.neg v)))
halved_opposite v = exact_equal (negᶠ (halved (val v))) (halved (val (I.neg v)))
    (neg_cls (halved (val v)) ∙ ap neg (times_cls (val v) (part 1)) ∙ ring (# v ▸ ∅) (λ v. ⊖ (v ⊗ con (part 1)) ≐ ⊖ v ⊗ con (part 1)) tt ∙ ap (λ z. z * 2⁻ 1) (sym (neg_value v)) ∙ sym (times_cls (val (I.neg v)) (part 1)))

own_sines : {v : Float} → Angle v → Sines (sines_of v) (exact (val v)) (2⁻ 44)
own_sines {v} h =
    let s = (sine_law v h).near in
    let c = cosine_law v h in
    record { s = record { is = s.0; near = close s.1 }; c = record { is = c.0; near = close c.1 } }

half_sines : {v : Float} → Angle v → Sines (sines_of (v ⊗ᶠ half)) (exact (halved (val v))) (2⁻ 44 + (2⁻ 73 + 2⁻ 80 * (1# + 2⁻ 68)))
unfolding computes
half_sines {v} h = sines_then (own_sines (half_angle h)) (exact_steady (halved (val v)) (val (v ⊗ᶠ half)) (2⁻ 80) (apart (half_near h).near) (closed tt))

pub signed_sines : (e : Bool) {v : Float} → Angle v → Sines (sines_of (cond e (I.neg v) v)) (flip e (exact (val v))) (cls ε)
unfolding computes
signed_sines true {v} h = sines_≤ (sines_then (own_sines (opposite h)) (≋_at (ap exact (sym (neg_val v))) refl (exact_mirror (val v)))) (closed tt)
signed_sines false h = sines_≤ (own_sines h) (closed tt)

pub signed_half_sines : (e : Bool) {v : Float} → Angle v → Sines (sines_of (cond e (I.neg v) v ⊗ᶠ half)) (flip e (exact (halved (val v)))) (cls ε)
unfolding computes
signed_half_sines true {v} h = sines_≤ (sines_then (half_sines (opposite h)) (≋_at (halved_opposite v) refl (exact_mirror (halved (val v))))) (closed tt)
signed_half_sines false h = sines_≤ (half_sines h) (closed tt)

-- ---- what the sizes of floats come to

-- 1 and what the exact sine and the float may add
abbrev pub full : Frac
full = 1ᶠ +ᶠ part 40

flip_size : (e : Bool) (a : Frac) → ((flip e (exact a)).s within cls (1ᶠ +ᶠ part 73)) × ((flip e (exact a)).c within cls (1ᶠ +ᶠ part 73))
unfolding computes
flip_size true a = (within_neg (sine_size a), cosine_size a)
flip_size false a = (sine_size a, cosine_size a)

-- floats that stand for themselves, and the pair of their values
pub record Small (t : Float × Float) : Type 0 where
  pub s : Approx t.0 (# t.0) full 0ᶠ
  pub c : Approx t.1 (# t.1) full 0ᶠ

pub small : (e : Bool) (a : Frac) {t : Float × Float} → Sines t (flip e (exact a)) (cls ε) → Small t
unfolding computes
small e a h = record {
  s = itself h.s.is (within_≤ (near_size h.s.near (flip_size e a).0) (closed tt));
  c = itself h.c.is (within_≤ (near_size h.c.near (flip_size e a).1) (closed tt));
}

abbrev pub pair_of : Float × Float → Pair
pair_of t = pair (# t.0) (# t.1)

-- the floats' pair, turned back where e, near the exact one
pub turned_back : (e : Bool) (a : Frac) {t : Float × Float} → Sines t (flip e (exact a)) (cls ε) → flip e (pair_of t) ≋⟨ cls ε ⟩ exact a
turned_back true a h = record { of_s = near_at refl (ring (cls (sine a) ▸ ∅) (λ s. ⊖ ⊖ s ≐ s) tt) (near_neg h.s.near); of_c = h.c.near }
turned_back false a h = record { of_s = h.s.near; of_c = h.c.near }
