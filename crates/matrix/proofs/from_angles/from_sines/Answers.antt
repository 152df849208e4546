-- The table filled by axis numbers is the matrix placed by axes.
use Rattle.std.proofs.Common.{◌≡◌, ℕ, Bool, true, false, List, [], ◌∷◌, get_or, set, sym, refl, ap, ◌∙◌}
use lib.Ieee.{Float}
use Rattle.rounding.specs.Value.{floats}
use Rattle.numeric.specs.Floats.{bits}
use Rattle.euler.specs.Orders.{index, second, other}
use Rattle.euler.specs.declared.Axis.{Axis}
use Rattle.euler.specs.declared.Axis.TheVariants.{X, Y, Z}
use Rattle.euler.specs.declared.Order.{Order}
use Rattle.matrix.specs.Matrices.{listed}
use Rattle.drift.specs.Columns.{Nine, nine}
use Rattle.matrix.specs.Angles.{placed}
use Rattle.matrix.proofs.from_angles.from_sines.Goals as goal
use Rattle.matrix.proofs.from_angles.from_sines.Goals.{then-order, else-order}

abbrev put : List (List Float) → ℕ → ℕ → Float → List (List Float)
put m c r v = set m c (set (get_or m c []) r v)

abbrev zeros : List Float
zeros = bits 0 ∷ bits 0 ∷ bits 0 ∷ []

abbrev fill : ℕ → ℕ → ℕ → Nine Float → List (List Float)
fill i j k n =
    let first = put (put (put (zeros ∷ zeros ∷ zeros ∷ []) i i n.ii) i j n.ij) i k n.ik in
    let second = put (put (put first j i n.ji) j j n.jj) j k n.jk in
    put (put (put second k i n.ki) k j n.kj) k k n.kk

filled : (i : Axis) (even repeated static : Bool) (n : Nine Float)
    → let o : Order = record { initial_axis = i; parity_even = even; initial_repeated = repeated; frame_static = static } in
    listed (fill (index i) (index (second o)) (index (other o)) n) ≡ placed o n
filled X true r f n = refl
filled X false r f n = refl
filled Y true r f n = refl
filled Y false r f n = refl
filled Z true r f n = refl
filled Z false r f n = refl

pub returns : goal.returns
returns c =
    let o = c.args.order in
    let t = c.angle_order-i.result in
    let at : Bool → Nine Float = λ r. nine floats r c.args.first c.args.middle c.args.last in
    let go : (r : Bool) → o.initial_repeated ≡ r → c.if-order.m ≡ fill t.0 t.1 t.2 (at r) → listed c.if-order.m ≡ placed o (at o.initial_repeated) =
    λ r e h. ap listed h ∙ ap (λ t. listed (fill t.0 t.1 t.2 (at r))) c.angle_order-i.ensures
    ∙ filled o.initial_axis o.parity_even o.initial_repeated o.frame_static (at r) ∙ ap (λ r. placed o (at r)) (sym e) in
    c.from_cols_array_2d.ensures ∙ elim c.if-order.branch [
      | then-order w ↦ go true w.if-order.true w.m-is
      | else-order w ↦ go false w.if-order.false w.m-is
    ]
