-- The operations of f64, each rounded once, in the usual signs.
use Rattle.std.specs.Prelude.{ℕ, false, List, [], ◌∷◌, from_bits, Float}
use Rattle.std.specs.Float.Ieee.{add, sub, mul, div, neg}
use Rattle.std.specs.Float.{float_with_sign, binary64}

infixl 60 ◌⊕◌ ◌⊖◌
infixl 70 ◌⊗◌ ◌⊘◌
abbrev pub ◌⊕◌ : Float → Float → Float
x ⊕ y = add binary64 x y

abbrev pub ◌⊖◌ : Float → Float → Float
x ⊖ y = sub binary64 x y

abbrev pub ◌⊗◌ : Float → Float → Float
x ⊗ y = mul binary64 x y

abbrev pub ◌⊘◌ : Float → Float → Float
x ⊘ y = div binary64 x y

-- the f64 of a bit pattern
abbrev pub bits : ℕ → Float
bits n = from_bits binary64 n

abbrev pub zero : Float
zero = bits 0

abbrev pub half : Float
half = bits 0x3FE0_0000_0000_0000

abbrev pub one : Float
one = bits 0x3FF0_0000_0000_0000

abbrev pub minus_one : Float
minus_one = neg one

abbrev pub two : Float
two = bits 0x4000_0000_0000_0000

-- 2^-27
abbrev pub tiny : Float
tiny = bits 0x3E40_0000_0000_0000

abbrev pub size : Float → Float
size x = float_with_sign false x

-- c − z (d − z (…)), from the inside
abbrev pub horner : Float → Float → List Float → Float
horner z c [] = c
horner z c (d ∷ ds) = c ⊖ z ⊗ horner z d ds

-- r − r (z (c − z (d − z (…)))) at z = r²: what is taken from r is small, so that little but the last rounding counts
abbrev pub odd_polynomial : Float → Float → List Float → Float
odd_polynomial r c ds = let z = r ⊗ r in r ⊖ r ⊗ (z ⊗ horner z c ds)
