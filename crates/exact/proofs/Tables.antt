-- The table of sines and cosines is checked by computing.
use mathlib.Core.Bool.{Bool, true, ◌&&◌}
use mathlib.Core.List.{List, [], ◌∷◌}
use Prim.Native.Nat.{◌^◌}
use lib.Dec.{T}
use lib.IntN.{ℤ, pos}
use lib.Signed.{le_z}
use lib.Ieee.Fits.{and_l, and_r}
use Rattle.exact.specs.Fraction.{Frac, ◌over◌, cross, ◌+ᶠ◌}
use Rattle.exact.specs.Sine.{sine, cosine, alternating, nearest, floor}
use Rattle.exact.specs.Table.{Row, Reads, AllRead, table, TableReads}

abbrev at_most : Frac → Frac → Bool
at_most x y = le_z (cross x y) (cross y x)

abbrev unit : Frac
unit = pos 1 over (10 ^ 24)

abbrev reads : Frac → ℤ → Bool
reads x n = at_most x (n over (10 ^ 24) +ᶠ unit) && at_most (n over (10 ^ 24)) (x +ᶠ unit)

abbrev all_read : List Row → Bool
all_read [] = true
all_read (r ∷ rs) = reads (sine r.v) r.s && (reads (cosine r.v) r.c && all_read rs)

reads_is : (x : Frac) (n : ℤ) → T (reads x n) → Reads x n
reads_is x n t = record { up = record { by = and_l _ _ t }; down = record { by = and_r (at_most x (n over (10 ^ 24) +ᶠ unit)) _ t } }

all_read_is : (rs : List Row) → T (all_read rs) → AllRead rs
all_read_is [] t = tt
all_read_is (r ∷ rs) t =
    let s = reads (sine r.v) r.s in
    let c = reads (cosine r.v) r.c in
    let more = and_r s _ t in
    (reads_is (sine r.v) r.s (and_l s _ t), reads_is (cosine r.v) r.c (and_l c _ more), all_read_is rs (and_r c _ more))

computed : T (all_read table)
unfolding sine cosine alternating nearest floor
computed = tt

pub table_reads : TableReads
table_reads = all_read_is table computed
