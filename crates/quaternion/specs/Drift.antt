-- How far a run of turns in floats drifts from the exact product of the turns, and the beam with it.
use Rattle.std.specs.Prelude.{ℕ, ◌+◌, ◌≤◌, List, [], ◌∷◌, length, Float}
use Rattle.exact.specs.Fraction.{Frac, 1ᶠ, part, ◌+ᶠ◌, ◌*ᶠ◌, ◌≤ᶠ◌}
use Rattle.exact.specs.Quat.{Quat, fractions, product}
use Rattle.exact.specs.Distance.{Long, Near}
use Rattle.exact.specs.Turn.{total}
use Rattle.exact.specs.Facts.{one}
use Rattle.drift.specs.Laws as Law
use Rattle.drift.specs.Laws.{exact, Kept, turned}
use Rattle.drift.specs.Drift.{count}
pub use Rattle.drift.specs.Drift.{AxisFair, Told, hung}

-- where k is e off p, and t is f off τ, which is at most a long.
-- 2⁻⁴⁰ for what normalising moves, as k and t are of length 1 up to 2⁻⁴¹ each; 2⁻⁴⁵ for roundings
abbrev pub Step : Type 0
Step = (k t : Quat Float) (p τ : Quat Frac) (e f a : Frac) → Kept k → Kept t → Near (exact k) e p → Near (exact t) f τ → Long τ a
    → Kept (turned k t) × Near (exact (turned k t)) (e *ᶠ a +ᶠ f *ᶠ (1ᶠ +ᶠ part 40) +ᶠ (part 40 +ᶠ part 45)) (product fractions p τ)

-- ---- runs

-- a turn in floats, and the exact turn that it stands for
pub record Turn : Type 0 where
  pub float : Quat Float
  pub turn : Quat Frac

abbrev pub Fair : Turn → Type 0
Fair t = Law.Fair t.float t.turn

abbrev pub Fairs : List Turn → Type 0
Fairs [] = Unit {0}
Fairs (t ∷ ts) = Fair t × Fairs ts

-- what is kept after the turns, each from the right and normalised
abbrev pub run : Quat Float → List Turn → Quat Float
run k [] = k
run k (t ∷ ts) = run (turned k t.float) ts

abbrev pub turns : List Turn → List (Quat Frac)
turns [] = []
turns (t ∷ ts) = t.turn ∷ turns ts

-- n turns drift by n 2⁻³⁷ at most: in each 2⁻³⁸ for the turn, 2⁻⁴⁰ and 2⁻⁴⁵ for the step, 2⁻⁴⁰ for the growth of what was off before
abbrev pub Drift : Type 0
Drift = (k : Quat Float) (p : Quat Frac) (e : Frac) (ts : List Turn) → Kept k → Near (exact k) e p → Fairs ts → e ≤ᶠ part 1 → length ts ≤ 4000
    → Kept (run k ts) × Near (exact (run k ts)) (e +ᶠ count (length ts) *ᶠ part 37) (total p (turns ts))

-- a lamp is hung without a turn, turned n times, and stands over a mount of depth d: what `Told` says of runs
abbrev pub Lamp : Type 0
Lamp = (m : Quat Float) (t : Quat Frac) (d : ℕ) (ts : List Turn) → Kept m → d ≤ 12 → Near (exact m) (count d *ᶠ part 36) t → Fairs ts → length ts ≤ 4000
    → Kept (turned m (run hung ts)) × Near (exact (turned m (run hung ts))) (count (d + length ts + 1) *ᶠ part 36) (product fractions t (total one (turns ts)))
