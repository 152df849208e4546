-- Exact turns: about an axis, by three letters and three angles, and the product of a list of them.
use Rattle.std.specs.Prelude.{Bool, true, false, List, [], ◌∷◌, pos}
use Rattle.exact.specs.Fraction.{Frac, 0ᶠ, ◌over◌, ◌*ᶠ◌}
use Rattle.exact.specs.Quat.{Quat, fractions, product}
use Rattle.exact.specs.Sine.{sine, cosine}

pub data Axis : Type 0 where
  X : Axis
  Y : Axis
  Z : Axis

-- an order's letters as its name has them, and whether it ends in Ex
pub record Letters : Type 0 where
  pub first : Axis
  pub second : Axis
  pub third : Axis
  pub ex : Bool

-- s along an axis, and c in w
abbrev pub along : {A : Type 0} → A → Axis → A → A → Quat A
along nil X s c = record { x = s; y = nil; z = nil; w = c }
along nil Y s c = record { x = nil; y = s; z = nil; w = c }
along nil Z s c = record { x = nil; y = nil; z = s; w = c }

-- the turn by a about an axis: (sin a/2, 0, 0, cos a/2) for X, and Y and Z likewise
abbrev pub about : Axis → Frac → Quat Frac
about axis a = along 0ᶠ axis (sine (a *ᶠ (pos 1 over 2))) (cosine (a *ᶠ (pos 1 over 2)))

-- p q r; with Ex, r q p
abbrev pub ordered : Bool → Quat Frac → Quat Frac → Quat Frac → Quat Frac
ordered false p q r = product fractions (product fractions p q) r
ordered true p q r = product fractions (product fractions r q) p

-- plain: the first letter by a, times the second by b, times the third by c; with Ex: the third by c, times the second by b, times the first by a
abbrev pub exact_turn : Letters → Frac → Frac → Frac → Quat Frac
exact_turn l a b c = ordered l.ex (about l.first a) (about l.second b) (about l.third c)

-- p times the first, the second, … of a list
abbrev pub total : Quat Frac → List (Quat Frac) → Quat Frac
total p [] = p
total p (q ∷ qs) = total (product fractions p q) qs
