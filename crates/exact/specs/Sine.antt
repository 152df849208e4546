-- The exact sine and cosine of a fraction: quarter turns are taken off, and of what is left a fixed part of the power series is summed.
use Rattle.std.specs.Prelude.{List, [], ◌∷◌, ℕ, zero, suc, ◌-◌, ◌*◌, ◌%◌, ◌^◌, ℤ, pos, negsuc, neg_ℤ}
use Rattle.std.specs.Int.Signed.{shr_z}
use Rattle.exact.specs.Fraction.{Frac, 0ᶠ, 1ᶠ, den, whole, ◌over◌, ◌-ᶠ◌, ◌*ᶠ◌, neg, inverse}

-- P = 3.14159265358979323846264338327950288, and a quarter turn is P / 2
abbrev pub P : Frac
P = pos 314159265358979323846264338327950288 over (10 ^ 35)

abbrev pub quarter : Frac
quarter = P *ᶠ (pos 1 over 2)

-- ---- whole numbers: the one at or below x; the one nearest to x, the lower at a tie; what k leaves by 4

unfoldable pub floor : Frac → ℤ
floor x = shr_z x.num (den x)

unfoldable pub nearest : Frac → ℤ
nearest x = neg_ℤ (floor (pos 1 over 2 -ᶠ x))

abbrev pub mod4 : ℤ → ℕ
mod4 (pos n) = n % 4
mod4 (negsuc n) = 3 - n % 4

-- ---- the series

abbrev pub power : Frac → ℕ → Frac
power x zero = 1ᶠ
power x (suc n) = x *ᶠ power x n

abbrev pub factorial : ℕ → ℕ
factorial zero = 1
factorial (suc n) = suc n * factorial n

-- xᵃ/a! − xᵇ/b! + xᶜ/c! − …
unfoldable pub alternating : Frac → List ℕ → Frac
alternating x [] = 0ᶠ
alternating x (n ∷ ns) = power x n *ᶠ (pos 1 over factorial n) -ᶠ alternating x ns

abbrev pub odds : List ℕ
odds = 1 ∷ 3 ∷ 5 ∷ 7 ∷ 9 ∷ 11 ∷ 13 ∷ 15 ∷ 17 ∷ 19 ∷ 21 ∷ []

abbrev pub evens : List ℕ
evens = 0 ∷ 2 ∷ 4 ∷ 6 ∷ 8 ∷ 10 ∷ 12 ∷ 14 ∷ 16 ∷ 18 ∷ 20 ∷ 22 ∷ []

-- r − r³/3! + … + r²¹/21!, and 1 − r²/2! + … − r²²/22!
abbrev pub S : Frac → Frac
S r = alternating r odds

abbrev pub C : Frac → Frac
C r = alternating r evens

-- ---- the sine and the cosine

-- the whole number nearest to 2v / P
abbrev pub turns : Frac → ℤ
turns v = nearest (v *ᶠ inverse quarter)

-- what k quarter turns leave of v
abbrev pub rest : Frac → ℤ → Frac
rest v k = v -ᶠ whole k *ᶠ quarter

-- the first, second, third or fourth
abbrev pub pick : {A : Type 0} → ℕ → A → A → A → A → A
pick zero a b c d = a
pick (suc zero) a b c d = b
pick (suc (suc zero)) a b c d = c
pick (suc (suc (suc n))) a b c d = d

-- by any number k of quarter turns
abbrev pub sine_by : Frac → ℤ → Frac
sine_by v k = pick (mod4 k) (S (rest v k)) (C (rest v k)) (neg (S (rest v k))) (neg (C (rest v k)))

abbrev pub cosine_by : Frac → ℤ → Frac
cosine_by v k = pick (mod4 k) (C (rest v k)) (neg (S (rest v k))) (neg (C (rest v k))) (S (rest v k))

-- by the nearest number of them
unfoldable pub sine : Frac → Frac
sine v = sine_by v (turns v)

unfoldable pub cosine : Frac → Frac
cosine v = cosine_by v (turns v)
