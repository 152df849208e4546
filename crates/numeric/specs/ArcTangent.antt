-- The float steps of the arc tangent: a series near 0, and pieces about 1/4, 1/2, 3/4 and 1 that lead back to it; then the octants.
use Rattle.std.specs.Prelude.{cond, List, [], ◌∷◌, Float}
use Rattle.std.specs.Float.Ieee.{neg, lt, le}
use Rattle.std.specs.Float.{sqrt, float_clamp, binary64}
use Rattle.numeric.specs.Floats.{◌⊕◌, ◌⊖◌, ◌⊗◌, ◌⊘◌, bits, zero, half, one, minus_one, tiny, odd_polynomial}

-- 1/5, 1/7, … 1/15, each the nearest f64
abbrev pub odd_parts : List Float
odd_parts =
    bits 0x3FC9_9999_9999_999A ∷ bits 0x3FC2_4924_9249_2492 ∷ bits 0x3FBC_71C7_1C71_C71C
    ∷ bits 0x3FB7_45D1_745D_1746 ∷ bits 0x3FB3_B13B_13B1_3B14 ∷ bits 0x3FB1_1111_1111_1111 ∷ []

-- u − u³/3 + … − u¹⁵/15, for a u of at most 1/8 in size
abbrev pub atan_kernel : Float → Float
atan_kernel u = odd_polynomial u (bits 0x3FD5_5555_5555_5555) odd_parts

-- a + arctan ((q − b) / (1 + q b)), where a is the arc tangent of b
unfoldable pub atan_near : Float → Float → Float → Float
atan_near q b a = a ⊕ atan_kernel ((q ⊖ b) ⊘ (one ⊕ q ⊗ b))

-- of a q from 0 to 1: below 2^-27 itself, below 1/8 the series, else about the nearest quarter
abbrev pub atan_unit : Float → Float
atan_unit q =
    cond (lt q tiny) q
    (cond (lt q (bits 0x3FC0_0000_0000_0000)) (atan_kernel q)
    (cond (lt q (bits 0x3FD8_0000_0000_0000)) (atan_near q (bits 0x3FD0_0000_0000_0000) (bits 0x3FCF_5B75_F92C_80DD))
    (cond (lt q (bits 0x3FE4_0000_0000_0000)) (atan_near q half (bits 0x3FDD_AC67_0561_BB4F))
    (cond (lt q (bits 0x3FEC_0000_0000_0000)) (atan_near q (bits 0x3FE8_0000_0000_0000) (bits 0x3FE4_978F_A326_9EE1))
    (atan_near q one (bits 0x3FE9_21FB_5444_2D18))))))

-- P/2 and P, each the nearest f64
abbrev pub quarter_turn : Float
quarter_turn = bits 0x3FF9_21FB_5444_2D18

abbrev pub half_turn : Float
half_turn = bits 0x4009_21FB_5444_2D18

-- the angle of (x, y), for a y that is not negative; 0 at the origin
abbrev pub angle_up : Float → Float → Float
angle_up y x =
    cond (lt x zero)
    (cond (le y (neg x)) (half_turn ⊖ atan_unit (y ⊘ neg x)) (quarter_turn ⊕ atan_unit (neg x ⊘ y)))
    (cond (le y x) (cond (lt zero x) (atan_unit (y ⊘ x)) zero) (quarter_turn ⊖ atan_unit (x ⊘ y)))

unfoldable pub atan2_float : Float → Float → Float
atan2_float y x = cond (lt y zero) (neg (angle_up (neg y) x)) (angle_up y x)

-- f brought into −1..1
abbrev pub in_unit : Float → Float
in_unit f = float_clamp f minus_one one

-- √(1 − g²)
abbrev pub other_side : Float → Float
other_side g = sqrt binary64 ((one ⊖ g) ⊗ (one ⊕ g))

abbrev pub acos_float : Float → Float
acos_float f = let g = in_unit f in atan2_float (other_side g) g
