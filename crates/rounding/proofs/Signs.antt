-- Signed whole numbers: `signed s n` is n with the sign s. An integer z is `up_z z - down_z z`, the form that `omega` reads.
use Rattle.std.proofs.Common.{◌≡◌, ℕ, zero, suc, ◌+◌, ◌*◌, Bool, true, false, not, ℤ, pos, ◌*ℤ◌, neg_ℤ, nat_abs, refl, ap, ◌∙◌, arith}
use Rattle.std.proofs.lemmas.Int.{unsigned_abs-mul}
use lib.Ieee.{unlike}
use borrow.Author.Differences.{neg_is, product_is, same_in}
use borrow.Author.Differences.{up as up_z, down as down_z}
use Rattle.rounding.specs.Value.{signed}

pub abs_scale : (z : ℤ) (n : ℕ) → nat_abs (z *ℤ pos n) ≡ nat_abs z * n
abs_scale z n = unsigned_abs-mul z (pos n)

pub signed_is : (s : Bool) (n : ℕ) → (up_z (signed s n) + down_z (signed s n) ≡ n) × (nat_abs (signed s n) ≡ n)
signed_is false n = omega arith
signed_is true zero = omega arith
signed_is true (suc n) = omega arith

pub signed_neg : (s : Bool) (n : ℕ) → signed (not s) n ≡ neg_ℤ (signed s n)
signed_neg false n = refl
signed_neg true zero = refl
signed_neg true (suc n) = refl

-- -(a) as two parts
neg_up : (a k : ℕ) → k * up_z (neg_ℤ (pos a)) ≡ 0
neg_up a k = omega (arith, ap (λ (x : ℕ). k * x) (neg_is (pos a)).0)

neg_down : (a k : ℕ) → k * down_z (neg_ℤ (pos a)) ≡ k * a
neg_down a k = ap (λ (x : ℕ). k * x) (neg_is (pos a)).1

pub signed_scale : (s : Bool) (a d : ℕ) → signed s a *ℤ pos d ≡ signed s (a * d)
signed_scale false a d = refl
signed_scale true a d = same_in (neg_ℤ (pos a) *ℤ pos d) (neg_ℤ (pos (a * d))) (omega (arith, product_is (neg_ℤ (pos a)) (pos d), neg_up a d, neg_down a d, neg_is (pos (a * d))))

scale_left : (a d : ℕ) → pos d *ℤ neg_ℤ (pos a) ≡ neg_ℤ (pos (d * a))
scale_left a d = same_in (pos d *ℤ neg_ℤ (pos a)) (neg_ℤ (pos (d * a))) (omega (arith, product_is (pos d) (neg_ℤ (pos a)), neg_up a d, neg_down a d, neg_is (pos (d * a))))

both_neg : (a b : ℕ) → neg_ℤ (pos a) *ℤ neg_ℤ (pos b) ≡ pos (a * b)
both_neg a b =
    let x = neg_ℤ (pos a) in
    let y = neg_ℤ (pos b) in
    let u : up_z x * up_z y ≡ 0 = neg_up b (up_z x) in
    let v : down_z x * up_z y ≡ 0 = neg_up b (down_z x) in
    let w : up_z x * down_z y ≡ 0 = omega (arith, neg_up a (down_z y)) in
    let d : down_z x * down_z y ≡ a * b = neg_down b (down_z x) ∙ ap (λ (k : ℕ). k * b) (neg_is (pos a)).1 in
    same_in (x *ℤ y) (pos (a * b)) (omega (arith, product_is x y))

pub signed_mul : (s t : Bool) (a b : ℕ) → signed s a *ℤ signed t b ≡ signed (unlike s t) (a * b)
signed_mul false false a b = refl
signed_mul false true a b = scale_left b a
signed_mul true false a b = signed_scale true a b
signed_mul true true a b = both_neg a b
