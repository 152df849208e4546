-- From fractions to rational numbers and back: a fraction's class keeps sums, products and the order, by computing.
use mathlib.Core.Path.{◌≡◌, sym, ap}
use mathlib.Core.Quot.{sound}
use Rattle.exact.specs.Fraction.{Frac, ◌≈◌}
use Rattle.exact.specs.Quat.{Quat}
use Rattle.exact.specs.Distance.{Near, Long, Size, Close, Same}
use Rattle.exact.proofs.Rational.{ℚ, cls}
use Rattle.exact.proofs.Order.{from_frac, to_frac}
use Rattle.exact.proofs.Ints.{le_z_antisym}
use Rattle.exact.proofs.Within.{computes, ≤_of, ◌within◌, ◌≈⟨◌⟩◌}
use Rattle.exact.proofs.Quats.{◌upto◌, ◌~⟨◌⟩◌}

abbrev pub classes : Quat Frac → Quat ℚ
classes q = record { x = cls q.x; y = cls q.y; z = cls q.z; w = cls q.w }

pub long : {q : Quat Frac} {e : Frac} → Long q e → classes q upto cls e
unfolding computes
long h = record { nonneg = from_frac _ _ h.nonneg; most = from_frac _ _ h.most }

pub near : {p q : Quat Frac} {e : Frac} → Near p e q → classes p ~⟨ cls e ⟩ classes q
unfolding computes
near h = record { nonneg = from_frac _ _ h.nonneg; most = from_frac _ _ h.most }

pub back : (p q : Quat Frac) (e : Frac) → classes p ~⟨ cls e ⟩ classes q → Near p e q
unfolding computes
back p q e h = record { nonneg = to_frac _ _ h.nonneg; most = to_frac _ _ h.most }

pub long_back : (q : Quat Frac) (e : Frac) → classes q upto cls e → Long q e
unfolding computes
long_back q e h = record { nonneg = to_frac _ _ h.nonneg; most = to_frac _ _ h.most }

pub size : {x m : Frac} → Size x m → cls x within cls m
unfolding computes
size h = record { up = from_frac _ _ h.up; down = from_frac _ _ h.down }

pub close : {x e y : Frac} → Close x e y → cls x ≈⟨ cls e ⟩ cls y
unfolding computes
close h = record { up = from_frac _ _ h.up; down = from_frac _ _ h.down }

pub close_back : (x e y : Frac) → cls x ≈⟨ cls e ⟩ cls y → Close x e y
unfolding computes
close_back x e y h = record { up = to_frac _ _ h.up; down = to_frac _ _ h.down }

pub size_back : (x m : Frac) → cls x within cls m → Size x m
unfolding computes
size_back x m h = record { up = to_frac _ _ h.up; down = to_frac _ _ h.down }

-- fractions are one rational number where their cross products are equal
pub from_≈ : (a b : Frac) → a ≈ b → cls a ≡ cls b
from_≈ a b h = sound h

pub same_frac : (a b : Frac) → cls a ≡ cls b → a ≈ b
same_frac a b e = le_z_antisym _ _ (to_frac a b (≤_of e)).by (to_frac b a (≤_of (sym e))).by

pub same_quat : (p q : Quat Frac) → classes p ≡ classes q → Same p q
same_quat p q e = (same_frac _ _ (ap (λ q. q.x) e), same_frac _ _ (ap (λ q. q.y) e), same_frac _ _ (ap (λ q. q.z) e), same_frac _ _ (ap (λ q. q.w) e))
