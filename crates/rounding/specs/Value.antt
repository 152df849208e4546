-- The value of a finite float: the fraction that its bits spell. And the same number as a whole number of ticks, `ticks x / L`: a tick is 2 ^ -1074, the smallest positive f64.
use Rattle.std.specs.Prelude.{ℕ, zero, suc, ◌+◌, ◌*◌, ◌/◌, ◌%◌, ◌^◌, Bool, true, false, T, ℤ, pos, neg_ℤ, nat_le, Float}
use Rattle.std.specs.Float.{nan, inf, fin, binary64}
use Rattle.std.specs.Float.Ieee.{up, down, fits, add, sub, mul, neg}
use Rattle.std.specs.Float.Ieee.Scale.{finite}
use Rattle.exact.specs.Fraction.{Frac, ◌over◌}
use Rattle.exact.specs.Quat.{Ops}

abbrev pub signed : Bool → ℕ → ℤ
signed false n = pos n
signed true n = neg_ℤ (pos n)

abbrev pub top : Float → ℤ
top nan = pos 0
top (inf s) = pos 0
top (fin s m e) = signed s (m * up e)

abbrev pub bottom : Float → ℕ
bottom nan = 1
bottom (inf s) = 1
bottom (fin s m e) = down e

abbrev pub val : Float → Frac
val x = top x over bottom x

-- a finite f64: what code has
pub record Is (x : Float) : Type 0 where
  pub fit : T (fits binary64 x)
  pub fin : T (finite x)

-- the operations of f64
abbrev pub floats : Ops Float
floats = record { ◌+ᵒ◌ = add binary64; ◌-ᵒ◌ = sub binary64; ◌*ᵒ◌ = mul binary64; neg = neg }

-- ticks in one. It is shut, so that no tactic meets a number of 324 digits.
unfoldable pub L : ℕ
L = 2 ^ 1074

-- for a float that fits, exactly its value: `value_ticks` of proofs/Ticks.antt
unfoldable pub ticks : Float → ℤ
ticks nan = pos 0
ticks (inf s) = pos 0
ticks (fin s m e) = signed s (m * up e * 2 ^ 1074 / down e)

-- ---- bit patterns: the sign, 11 bits of exponent, 52 digits

abbrev pub field : ℕ → ℕ
field b = b % 2 ^ 63 / 2 ^ 52

-- in ticks: a field of 0 has no leading digit, and counts as one of 1
abbrev pub units : ℕ → ℕ → ℕ
units zero t = t
units (suc x) t = (2 ^ 52 + t) * 2 ^ x

-- the number that a pattern with a field below 2047 spells; 2047 is for infinities and what is no number
abbrev pub spelled : ℕ → Frac
spelled b = signed (nat_le (2 ^ 63) b) (units (field b) (b % 2 ^ 52)) over L
