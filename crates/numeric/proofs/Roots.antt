-- The root of 2, by its definition: the whole part of the root of 2⁴⁵⁴³, and half a place more, rounded.
use Rattle.std.proofs.Common.{◌≡◌, ℕ, ◌+◌, ◌*◌, ◌^◌, ◌≤◌, false, cond, eqb, ap, le_of_suc-le-suc, mul-le-mul, le_antisymm, lt_of_not-le, arith, lit<, lit≤}
use lib.Ieee.{binary64, round, root_below, root_twice, of_bits}
use lib.Ieee.Digits.{size-lt}
use Rattle.std.specs.Float.{sqrt}
use Rattle.rounding.proofs.Root.{Root, below}
use Rattle.numeric.specs.Laws.{RootExample}

-- two whole numbers that are the whole part of one root
no_less : (s r n : ℕ) → Root s n → Root r n → r ≤ s
no_less s r n h k = le_of_suc-le-suc (lt_of_not-le (λ g. let m = mul-le-mul g g in omega (arith, m, h.1, k.0)))

same_root : (s r n : ℕ) → Root s n → Root r n → s ≡ r
same_root s r n h k = le_antisymm (no_less r s n k h) (no_less s r n h k)

-- ⌊√(2⁴⁵⁴³)⌋
abbrev root : ℕ
root = 616077220092924566551411179549820412796493414332623903164762237572436267005121246549164045821909978334662860370446808561285360761523319682412929566429655169508886806623322568936270656316451806194841037509491850023503465396308734847268423139947768982932565075321140283312212447358405073974373961187951808621169553507507949533339346891207727998511613067767564340504005345690534869138033189214373214326593313064600949125711576946364140644676198329338344268502547720722875729440315916970582944663179273518745169882287668411171389771826692573265488784262904375071036192460658004115679502292205135165514736182816874095888075389065760661810122399998750707092025119179903149090363777876248724

root_is : Root root (2 ^ 4543)
root_is = (lit≤ tt, lit< tt)

whole_part : root_below (lib.Ieee.size (2 ^ 4543)) (2 ^ 4543) ≡ root
whole_part = same_root _ root (2 ^ 4543) (below (lib.Ieee.size (2 ^ 4543)) (2 ^ 4543) (size-lt (2 ^ 4543))) root_is

twice : root_twice (2 ^ 4543) ≡ 2 * root + 1
unfolding root_twice
twice = ap (λ (s : ℕ). 2 * s + cond (eqb (s * s) (2 ^ 4543)) 0 1) whole_part

pub root_two : RootExample
unfolding sqrt of_bits round
root_two = ap (λ (t : ℕ). round binary64 false t (2 ^ 2272)) twice
