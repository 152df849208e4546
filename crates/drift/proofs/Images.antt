-- Images of vectors in floats: that they are not refused, and how far they lie from the exact ones.
use Rattle.std.proofs.Common.{◌≡◌, true, ◌&&◌, pos, None, sym, ap, ◌∙◌, subst, ap₂, arith}
use Prim.Native.Nat as N
use lib.Ieee.{Float, of_bits, fits}
use Rattle.fault.specs.Answers.{unless, ◌⨾◌, within as inside}
use Rattle.fault.specs.declared.NumberFault.TheVariants.{NotFinite}
use Rattle.fault.specs.declared.RotationFault.TheVariants.{Number, NotNormalized}
use Rattle.exact.specs.Fraction.{0ᶠ, 1ᶠ, whole, part, ◌+ᶠ◌, ◌-ᶠ◌}
use Rattle.exact.specs.Quat.{Quat, image, square}
use Rattle.exact.specs.Vector.{Vec, vec, pure, rotated}
use Rattle.exact.specs.Distance.{Size}
use Rattle.exact.proofs.Ring.{con, ◌⊕◌, ◌⊗◌, ⊖◌}
use Rattle.exact.proofs.Rational.{ℚ, ◌*◌, neg, ◌-◌, ∅, ◌▸◌}
use Rattle.exact.proofs.Order.{◌≤◌, number, ◌⊞◌, ◌⊠◌, ◌≼◌, ◌by◌, ◌⇒◌, from_frac}
use Rattle.exact.proofs.Order.{le as order}
use Rattle.exact.proofs.Within.{0#, 1#, 0ₑ, 1ₑ, num, num_≤, 2⁻, closed, computes, ≤_trans, ◌within◌, within_≤, ◌≈⟨◌⟩◌, near_≤, near_size, near_trans}
use Rattle.exact.proofs.Within.{apart as gap}
use Rattle.exact.proofs.Quats.{ops, ◌upto◌, ◌~⟨◌⟩◌, image_near, ~_trans, ~_≤}
use Rattle.exact.proofs.Vectors.{rotated_is}
use Rattle.exact.proofs.Distance.{classes, near, long, back, size, size_back}
use Rattle.rounding.specs.Value.{val, Is, floats}
use Rattle.rounding.proofs.Values.{#◌, neg_value, neg_is}
use Rattle.rounding.proofs.Rounds.{own}
use Rattle.rounding.proofs.Convert.{literal_is}
use Rattle.rounding.proofs.Literals.{zero_exact, one_exact}
use Rattle.rounding.proofs.Operations.{difference_rounds}
use Rattle.rounding.proofs.Approx.{Approx, constant, itself, same}
use Rattle.rounding.proofs.Analysis.{forms, Approxs, ∎, ◌⊳◌, ◌⊵◌, analyse4}
use Rattle.numeric.proofs.Sines.{sized, size_≤}
use Rattle.vectors.specs.Vectors.{unit, finite3}
use Rattle.numeric.specs.Floats.{zero, one, two, minus_one}
use Rattle.drift.specs.Tests.{image_fault}
use Rattle.drift.specs.Laws.{Kept, Units, IsImage, ImageLaw}
use Rattle.drift.specs.Drift.{down, Beam}
use Rattle.drift.proofs.Tests.{is_finite, are_finite, at_most}
use Rattle.drift.proofs.Floats.{values, length_of, kept_upto, kept_parts, settles, beside}
use Rattle.drift.proofs.Normalize.{κ, length²_near}

abbrev values3 : Vec Float → Vec ℚ
values3 v = vec (# v.x) (# v.y) (# v.z)

-- ---- what is kept passes the test of its length

-- the squared length s has | s − 1 | ≤ 2⁻³⁸, for 2⁻⁴⁰ and roundings; the test allows 0.0002
pub kept_unit : {q : Quat Float} → Kept q → unit (square floats q) ≡ true
unfolding computes of_bits fits
kept_unit {q} h =
    let n = length_of h in
    let Q = square ops (values q) in
    let s = # square floats q in
    let d = length²_near h.are (order (Q ▸ ∅) (λ n. 1ₑ ≼ n ⊕ con (part 40) ⇒ λ h. con (part 3) ≼ n by h) tt n.down) (≤_trans n.up (closed tt)) in
    let c : s ≈⟨ 2⁻ 39 ⟩ 1# = near_≤ (near_trans d.1 n) (order (Q ▸ ∅) (λ n. n ≼ 1ₑ ⊕ con (part 40) ⇒ λ h. n ⊗ con κ ⊕ con (part 40) ≼ con (part 39) by h ⊠ number κ) tt n.up) in
    let t : s - # one within 2⁻ 39 = subst (λ z. s - z within 2⁻ 39) (sym one_exact.value) (gap c) in
    let r = difference_rounds d.0 one_exact.is t (closed tt) in
    let a = size_≤ r.is (within_≤ (near_size r.near t) (closed {y = 2⁻ 38} tt)) in
    at_most (own (sized _ r.is).0) (own (literal_is tt)) (≤_trans a (closed tt))

-- ---- the image in floats

two_near : Approx two (num 2) (whole (pos 2)) 0ᶠ
unfolding of_bits fits
two_near = constant tt tt

units_near : {v : Vec Float} → Units v → Approx v.x (# v.x) 1ᶠ 0ᶠ × Approx v.y (# v.y) 1ᶠ 0ᶠ × Approx v.z (# v.z) 1ᶠ 0ᶠ
units_near h = (itself h.x.0 (size h.x.1), itself h.y.0 (size h.y.1), itself h.z.0 (size h.z.1))

-- 85 roundings of 2⁻⁵³ in a part
rotated_approx : {q : Quat Float} {v : Vec Float} → Kept q → Units v → Approxs (pure zero (rotated floats two q v)) (pure 0# (rotated ops (num 2) (values q) (values3 v))) (whole (pos 16)) (part 46)
rotated_approx h k = let v = units_near k in analyse4 (kept_parts h ⊵ v.0 ⊳ v.1 ⊳ v.2 ⊳ two_near ⊳ zero_near ⊳ ∎) (λ q x y z two o. pure o (rotated forms two q (vec x y z))) tt
  where
    zero_near : Approx zero 0# 1ᶠ 0ᶠ
    zero_near = same zero_exact.value (itself zero_exact.is (subst (λ z. z within 1#) (sym zero_exact.value) (record { up = order ∅ (0ₑ ≼ 1ₑ by number 1ᶠ) tt; down = order ∅ (⊖ 0ₑ ≼ 1ₑ by number 1ᶠ) tt })))

module _ {q : Quat Float} {v : Vec Float} (h : Kept q) (k : Units v) where
  abbrev r : Vec Float
  r = rotated floats two q v

  rotated_near : pure 0# (values3 r) ~⟨ 2⁻ 45 ⟩ image ops (values q) (pure 0# (values3 v))
  rotated_near = subst (λ w. record { x = # r.x; y = # r.y; z = # r.z; w = w } ~⟨ 2⁻ 45 ⟩ image ops (values q) (pure 0# (values3 v))) zero_exact.value
      (subst (λ t. values (pure zero r) ~⟨ 2⁻ 45 ⟩ t) (rotated_is (values q) (values3 v)) (settles (rotated_approx h k) tt))

  -- 2 e for the two factors q and q*, and e for roundings and what is of the order of e²
  away : {Π : Quat ℚ} {e : ℚ} → values q ~⟨ e ⟩ Π → pure 0# (values3 v) upto 1# → 2⁻ 36 ≤ e → e ≤ 2⁻ 20 → pure 0# (values3 r) ~⟨ num 3 * e ⟩ pure 0# (rotated ops (num 2) Π (values3 v))
  away {Π} {e} d m lo hi = subst (λ z. pure 0# (values3 r) ~⟨ num 3 * e ⟩ z) (sym (rotated_is Π (values3 v)))
      (~_≤ (~_trans rotated_near (image_near d (kept_upto h) (beside (kept_upto h) d) m))
      (order (e ▸ ∅) (λ e. con (part 36) ≼ e ⇒ λ l. e ≼ con (part 20) ⇒ λ m. con (part 45) ⊕ (e ⊗ 1ₑ ⊗ con (1ᶠ +ᶠ part 40) ⊕ (con (1ᶠ +ᶠ part 40) ⊕ e) ⊗ 1ₑ ⊗ e) ≼ con (whole (pos 3)) ⊗ e
      by (l ⊞ number (part 36)) ⊠ m ⊞ number (1ᶠ -ᶠ part 39 -ᶠ part 20) ⊠ l) tt lo hi))

  is_image : IsImage q v r
  unfolding computes
  is_image =
      let a = rotated_approx h k in
      record {
        x = a.x.rounds.is;
        y = a.y.rounds.is;
        z = a.z.rounds.is;
        near = back _ _ _ (subst (λ t. pure 0# (values3 r) ~⟨ 2⁻ 45 ⟩ t) (sym (rotated_is (values q) (values3 v))) rotated_near);
        away = λ p e d m lo hi. back _ _ _ (away (near d) (long m) (from_frac _ _ lo) (from_frac _ _ hi));
      }

  passes : image_fault q v ≡ None
  passes = ap₂ (λ a b. inside Number (unless a (NotFinite 0)) ⨾ unless b (Number (NotFinite 1)) ⨾ unless (unit (square floats q)) (NotNormalized 0)) (are_finite h.are) finite_parts ∙ ap (λ a. unless a (NotNormalized 0)) (kept_unit h)
    where
      finite_parts : finite3 v ≡ true
      finite_parts = ap₂ ◌&&◌ (ap₂ ◌&&◌ (is_finite _ k.x.0) (is_finite _ k.y.0)) (is_finite _ k.z.0)

pub image_law : ImageLaw
image_law q v h k = (is_image h k, passes h k)

-- ---- the beam

down_is : values3 down ≡ vec 0# 0# (neg 1#)
down_is = λ i. vec (zero_exact.value i) (zero_exact.value i) (minus_one_is i)
  where
    minus_one_is : # minus_one ≡ neg 1#
    minus_one_is = neg_value one ∙ ap neg one_exact.value

down_units : Units down
unfolding computes
down_units = record { x = nought; y = nought; z = (neg_is one_exact.is, size_back _ _ (subst (λ (v : Vec ℚ). v.z within 1#) (sym down_is) (record { up = closed tt; down = closed tt }))) }
  where
    nought : Is zero × Size (val zero) 1ᶠ
    nought = (zero_exact.is, size_back _ _ (subst (λ z. z within 1#) (sym zero_exact.value) (record { up = order ∅ (0ₑ ≼ 1ₑ by number 1ᶠ) tt; down = order ∅ (⊖ 0ₑ ≼ 1ₑ by number 1ᶠ) tt })))

down_upto : pure 0# (values3 down) upto 1#
unfolding computes
down_upto = subst (λ (v : Vec ℚ). pure 0# v upto 1#) (sym down_is) (record { nonneg = closed tt; most = closed tt })

pub beamed : Beam
unfolding computes
beamed q p d n h d₁ n₁ k =
    let e = num (N.◌+◌ (N.◌+◌ d n) 1) in
    let r = pure 0# (values3 (rotated floats two q down)) in
    let at : e * 2⁻ 36 ≤ 2⁻ 20 = order (e ▸ ∅) (λ e. e ≼ con (whole (pos 4013)) ⇒ λ h. e ⊗ con (part 36) ≼ con (part 20) by number (part 36) ⊠ h) tt (num_≤ (omega arith)) in
    back _ _ _ (subst (λ (v : Vec ℚ). r ~⟨ num 3 * (e * 2⁻ 36) ⟩ pure 0# (rotated ops (num 2) (classes p) v)) down_is
    (away h down_units (near k) down_upto (order (e ▸ ∅) (λ e. 1ₑ ≼ e ⇒ λ h. con (part 36) ≼ e ⊗ con (part 36) by number (part 36) ⊠ h) tt (num_≤ (omega arith))) at))
