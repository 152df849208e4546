-- Fractions: a whole number over a natural number above zero. Equality and order are said by cross products.
use Rattle.std.specs.Prelude.{◌≡◌, ℕ, zero, suc, ◌-◌, ◌*◌, ◌^◌, ℤ, pos, negsuc, neg_ℤ, nat_abs, ◌+ℤ◌, ◌*ℤ◌, T}
use Rattle.std.specs.Int.Signed.{le_z}

-- num / (low + 1)
pub record Frac : Type 0 where
  pub num : ℤ
  pub low : ℕ

abbrev pub den : Frac → ℕ
den x = suc x.low

-- n / d, for d above zero
infix 75 ◌over◌
abbrev pub ◌over◌ : ℤ → ℕ → Frac
n over d = record { num = n; low = d - 1 }

-- n
abbrev pub whole : ℤ → Frac
whole n = record { num = n; low = 0 }

abbrev pub 0ᶠ : Frac
0ᶠ = whole (pos 0)

abbrev pub 1ᶠ : Frac
1ᶠ = whole (pos 1)

-- 1 / 2ᵏ
abbrev pub part : ℕ → Frac
part k = pos 1 over (2 ^ k)

-- the numerator of x where x and y have the denominator den x · den y
abbrev pub cross : Frac → Frac → ℤ
cross x y = x.num *ℤ pos (den y)

infixl 60 ◌+ᶠ◌ ◌-ᶠ◌
infixl 70 ◌*ᶠ◌
abbrev pub ◌+ᶠ◌ : Frac → Frac → Frac
x +ᶠ y = (cross x y +ℤ cross y x) over (den x * den y)

abbrev pub ◌*ᶠ◌ : Frac → Frac → Frac
x *ᶠ y = (x.num *ℤ y.num) over (den x * den y)

abbrev pub neg : Frac → Frac
neg x = record { num = neg_ℤ x.num; low = x.low }

-- |x|
abbrev pub magnitude : Frac → Frac
magnitude x = record { num = pos (nat_abs x.num); low = x.low }

abbrev pub ◌-ᶠ◌ : Frac → Frac → Frac
x -ᶠ y = x +ᶠ neg y

-- 1 / x, and 0 at 0
abbrev pub inverse : Frac → Frac
inverse x = upside_down x.num x.low
  where
    upside_down : ℤ → ℕ → Frac
    upside_down (pos zero) l = 0ᶠ
    upside_down (pos (suc n)) l = record { num = pos (suc l); low = n }
    upside_down (negsuc n) l = record { num = negsuc l; low = n }

infix 50 ◌≈◌ ◌≤ᶠ◌
abbrev pub ◌≈◌ : Frac → Frac → Type 0
x ≈ y = cross x y ≡ cross y x

pub record ◌≤ᶠ◌ (x y : Frac) : Type 0 where
  pub by : T (le_z (cross x y) (cross y x))
