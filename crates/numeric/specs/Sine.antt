-- The float steps of sine and cosine: quarter turns are taken off, and a polynomial is left.
use Rattle.std.specs.Prelude.{ℕ, zero, suc, ◌%◌, cond, List, [], ◌∷◌, pos, Float}
use Rattle.std.specs.Float.{binary64}
use Rattle.std.specs.Float.Ieee.{neg, lt, of_int, to_unsigned}
use Rattle.numeric.specs.Floats.{◌⊕◌, ◌⊖◌, ◌⊗◌, bits, zero as nought, half, one, tiny, size, horner, odd_polynomial}

-- ---- the polynomials: r − r³/3! + … − r¹⁵/15! and 1 − r²/2! + … + r¹⁶/16!, each 1/n! the nearest f64

-- 1/3!
abbrev pub sixth : Float
sixth = bits 0x3FC5_5555_5555_5555

-- 1/5!, 1/7!, … 1/15!
abbrev pub odd_inverses : List Float
odd_inverses =
    bits 0x3F81_1111_1111_1111 ∷ bits 0x3F2A_01A0_1A01_A01A ∷ bits 0x3EC7_1DE3_A556_C734
    ∷ bits 0x3E5A_E645_67F5_44E4 ∷ bits 0x3DE6_1246_13A8_6D09 ∷ bits 0x3D6A_E7F3_E733_B81F ∷ []

abbrev pub sin_kernel : Float → Float
sin_kernel r = odd_polynomial r sixth odd_inverses

-- 1/2!, 1/4!, … 1/16!
abbrev pub even_inverses : List Float
even_inverses =
    half ∷ bits 0x3FA5_5555_5555_5555 ∷ bits 0x3F56_C16C_16C1_6C17 ∷ bits 0x3EFA_01A0_1A01_A01A
    ∷ bits 0x3E92_7E4F_B778_9F5C ∷ bits 0x3E21_EED8_EFF8_D898 ∷ bits 0x3DA9_3974_A8C0_7C9D ∷ bits 0x3D2A_E7F3_E733_B81F ∷ []

abbrev pub cos_kernel : Float → Float
cos_kernel r = horner (r ⊗ r) one even_inverses

-- ---- the quarter turns of an a that is not negative

-- 2/P
abbrev pub turns_per_radian : Float
turns_per_radian = bits 0x3FE4_5F30_6DC9_C883

-- a · 2/P rounded to the nearest, by adding 1/2 and cutting
abbrev pub quarter_turns : Float → ℕ
quarter_turns a = to_unsigned 32 (a ⊗ turns_per_radian ⊕ half)

-- P/2 in two parts: its leading 31 binary digits, so that k times them is exact for k below 2²², and the nearest f64 to the rest
abbrev pub quarter_high : Float
quarter_high = bits 0x3FF9_21FB_5440_0000

abbrev pub quarter_low : Float
quarter_low = bits 0x3DD0_B461_1A62_6331

abbrev pub remainder : Float → ℕ → Float
remainder a k = let q = of_int binary64 (pos k) in a ⊖ q ⊗ quarter_high ⊖ q ⊗ quarter_low

-- the sine s and the cosine c after k quarter turns more
abbrev pub quarter : ℕ → Float → Float → Float × Float
quarter zero s c = (s, c)
quarter (suc zero) s c = (c, neg s)
quarter (suc (suc zero)) s c = (neg s, neg c)
quarter (suc (suc (suc k))) s c = (neg c, s)

abbrev pub turned : ℕ → Float → Float → Float × Float
turned k s c = quarter (k % 4) s c

-- ---- sine and cosine

-- of an a that is not negative
unfoldable pub upward : Float → Float × Float
upward a = let k = quarter_turns a in let r = remainder a k in turned k (sin_kernel r) (cos_kernel r)

-- the sine of v by that of its size: below 2^-27 in size v itself; else it has the sign of v
abbrev pub signed : Float → Float → Float
signed v s = cond (lt (size v) tiny) v (cond (lt v nought) (neg s) s)

abbrev pub sin_float : Float → Float
sin_float v = signed v (upward (size v)).0

abbrev pub cos_float : Float → Float
cos_float v = (upward (size v)).1
