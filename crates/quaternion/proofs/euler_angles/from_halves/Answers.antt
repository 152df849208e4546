-- The array filled by axis numbers is the quaternion filled by axes.
use Rattle.std.proofs.Common.{◌≡◌, ℕ, Bool, true, false, not, List, [], ◌∷◌, set, sym, refl, ap, ◌∙◌, ap₂, true≢false}
use lib.Ieee.{Float, neg}
use Rattle.exact.specs.Quat.{Quat}
use Rattle.rounding.specs.Value.{floats}
use Rattle.euler.specs.Orders.{index, second, other}
use Rattle.euler.specs.declared.Axis.{Axis}
use Rattle.euler.specs.declared.Axis.TheVariants.{X, Y, Z}
use Rattle.euler.specs.declared.Order.{Order}
use Rattle.numeric.specs.Floats.{zero, one}
use Rattle.quaternion.specs.Quaternions.{parts, listed}
use Rattle.drift.specs.Turns.{angle, place, four, parity}
use Rattle.quaternion.proofs.euler_angles.from_halves.Goals as goal
use Rattle.quaternion.proofs.euler_angles.from_halves.Goals.{then-order, else-order, then-not-order, else-not-order}

abbrev fill : ℕ → ℕ → ℕ → Quat Float → List Float
fill i j k q = set (set (set (set (zero ∷ zero ∷ zero ∷ zero ∷ []) i q.x) j q.y) k q.z) 3 q.w

filled : (i : Axis) (even repeated static : Bool) (q : Quat Float)
    → let o : Order = record { initial_axis = i; parity_even = even; initial_repeated = repeated; frame_static = static } in
    parts (listed (fill (index i) (index (second o)) (index (other o)) q)) ≡ place o q
filled X true r f q = refl
filled X false r f q = refl
filled Y true r f q = refl
filled Y false r f q = refl
filled Z true r f q = refl
filled Z false r f q = refl

odd_sign : (even : Bool) → not even ≡ true → one ≡ parity even
odd_sign true h = absurd (true≢false (sym h))
odd_sign false h = refl

even_sign : (even : Bool) → not even ≡ false → neg one ≡ parity even
even_sign true h = refl
even_sign false h = absurd (true≢false h)

pub returns : goal.returns
returns c =
    let o = c.args.order in
    let t = c.angle_order-i.result in
    let turn = λ (r : Bool) (p : Float). four floats r p (angle c.args.first) (angle c.args.middle) (angle c.args.last) in
    let go : (q : Quat Float) → c.if-order.a ≡ fill t.0 t.1 t.2 q → parts (listed c.if-order.a) ≡ place o q =
    λ q e. ap (λ a. parts (listed a)) e ∙ ap (λ t. parts (listed (fill t.0 t.1 t.2 q))) c.angle_order-i.ensures ∙ filled o.initial_axis o.parity_even o.initial_repeated o.frame_static q in
    let sign : c.if-not-order.parity ≡ parity o.parity_even = elim c.if-not-order.branch [
      | then-not-order w ↦ w.parity-is ∙ odd_sign o.parity_even w.if-not-order.true
      | else-not-order w ↦ w.parity-is ∙ even_sign o.parity_even w.if-not-order.false
    ] in
    let at : (r : Bool) → o.initial_repeated ≡ r → place o (turn r c.if-not-order.parity) ≡ place o (turn o.initial_repeated (parity o.parity_even)) =
    λ r e. ap₂ (λ r p. place o (turn r p)) (sym e) sign in
    ap parts c.from_array.ensures ∙ elim c.if-order.branch [
      | then-order w ↦ go (turn true c.if-not-order.parity) w.a-is ∙ at true w.if-order.true
      | else-order w ↦ go (turn false c.if-not-order.parity) w.a-is ∙ at false w.if-order.false
    ]
