-- The error of a formula in one line: `analyse` of what its leaves stand for, and the formula.
use Rattle.std.proofs.Common.{pos}
use lib.Ieee.{Float, binary64, mul, sub}
use Rattle.exact.specs.Fraction.{whole, part}
use Rattle.exact.proofs.Rational.{◌*◌, ◌-◌}
use Rattle.exact.proofs.Within.{computes}
use Rattle.exact.proofs.Distance.{size}
use Rattle.rounding.specs.Theorems.{Two}
use Rattle.rounding.proofs.Values.{#◌}
use Rattle.rounding.proofs.Approx.{Approx, itself}
use Rattle.rounding.proofs.Analysis.{◌⟨-⟩◌, ◌⟨*⟩◌, ∎, ◌⊳◌, analyse}
use Rattle.rounding.proofs.Stated.{rounded}
use Rattle.rounding.proofs.cross.Goals as goal

leaf : {x : Float} → Two x → Approx x (# x) (whole (pos 2)) (whole (pos 0))
leaf h = itself h.0 (size h.1)

cross_near : {a b c d : Float} → Two a → Two b → Two c → Two d → Approx (sub binary64 (mul binary64 a b) (mul binary64 c d)) (# a * # b - # c * # d) (whole (pos 9)) (part 48)
cross_near a b c d = analyse (leaf a ⊳ leaf b ⊳ leaf c ⊳ leaf d ⊳ ∎) (λ a b c d. a ⟨*⟩ b ⟨-⟩ c ⟨*⟩ d) tt

pub returns : goal.returns
unfolding computes
returns k a b c d = rounded _ _ (cross_near a b c d).rounds
