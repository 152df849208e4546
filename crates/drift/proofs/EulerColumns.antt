-- The matrices of Euler orders: the images under three turns, the algebra of each order by the solver, and the error, which no order changes.
use Rattle.std.proofs.Common.{◌≡◌, zero, Bool, true, false, cond, T, pos, sym, refl, ap, ◌∙◌, subst}
use lib.Ieee.{Float}
use lib.Ieee as I
use Rattle.exact.specs.Fraction.{Frac, 0ᶠ, 1ᶠ, whole, part, ◌+ᶠ◌, ◌*ᶠ◌}
use Rattle.exact.specs.Quat.{Ops, Quat, product}
use Rattle.exact.specs.Vector.{Vec, vec, pure, vector, rotated, exact_image}
use Rattle.exact.specs.Sine.{sine, cosine}
use Rattle.exact.specs.Turn as T
use Rattle.exact.specs.Turn.{along, about}
use Rattle.exact.proofs.Ring.{con, ◌⊕◌, ⊖◌}
use Rattle.exact.proofs.Rational.{ℚ, cls, ◌+◌, ◌*◌, ◌-◌, Ex, Vars, fill, ∅, ◌▸◌, ◌▹◌}
use Rattle.exact.proofs.Order.{◌≼◌, ◌by◌, ◌⇒◌, le}
use Rattle.exact.proofs.Within.{0#, 1#, 0ₑ, 1ₑ, num, 2⁻, closed, computes, ◌within◌, within_≤, within_+, within_*, within_neg, within_nonneg, ◌≈⟨◌⟩◌, near, near_≤, near_sym, near_self, near_size, near_nonneg, near_neg, near_+, near_*}
use Rattle.exact.proofs.Pairs.{Pair, ◌≋⟨◌⟩◌, ≋_trans}
use Rattle.exact.proofs.Quats.{ops, exs, Equations, ◌≗◌, Say, true_of4, ring4}
use Rattle.exact.proofs.Distance.{classes}
use Rattle.exact.proofs.Vectors.{classes3}
use Rattle.exact.proofs.Sines.{exact, exact_circle, sine_size, cosine_size}
use Rattle.exact.proofs.Adding.{exact_half}
use Rattle.exact.proofs.Turns.{along_cls}
use Rattle.rounding.specs.Value.{val, floats}
use Rattle.rounding.proofs.Operations.{rounds_≤, rounds_then}
use Rattle.rounding.proofs.Approx.{Approx}
use Rattle.rounding.proofs.Analysis.{Form, leaf, forms, Leaves, float, number, meets, ∎, ◌⊳◌, analyse}
use Rattle.rounding.proofs.Stated.{rounded}
use Rattle.euler.specs.Orders.{letter, order, same, second, third}
use Rattle.euler.specs.declared.Axis.{Axis}
use Rattle.euler.specs.declared.Axis.TheVariants.{X, Y, Z}
use Rattle.euler.specs.declared.Order.{Order}
use Rattle.euler.proofs.Turns.{ends, both_ends, in_order, name_turn}
use Rattle.drift.specs.Columns.{Nine, nine, pick, placed_column, column}
use Rattle.drift.specs.EulerLaws.{IsColumn, unit, EulerColumnLaw}
use Rattle.drift.proofs.EulerAngles.{at, Sines, sines_of, flip, halved, ε, signed_sines, Small, small, pair_of, turned_back}

-- ---- images under turns

-- the sine and the cosine of an angle, and the squared length of the turn by it
record Spin (A : Type 0) : Type 0 where
  s : A
  c : A
  n : A

abbrev spin : {A : Type 0} → A → A → A → Spin A
spin s c n = record { s = s; c = c; n = n }

module _ {A : Type 0} (O : Ops A) where
  infixl 60 ◌+ᵒ◌ ◌-ᵒ◌
  infixl 70 ◌*ᵒ◌
  open O use {◌+ᵒ◌, ◌-ᵒ◌, ◌*ᵒ◌}

  -- v turned about an axis
  abbrev spun : T.Axis → Spin A → Vec A → Vec A
  spun T.X t v = vec (t.n *ᵒ v.x) (t.c *ᵒ v.y -ᵒ t.s *ᵒ v.z) (t.c *ᵒ v.z +ᵒ t.s *ᵒ v.y)
  spun T.Y t v = vec (t.c *ᵒ v.x +ᵒ t.s *ᵒ v.z) (t.n *ᵒ v.y) (t.c *ᵒ v.z -ᵒ t.s *ᵒ v.x)
  spun T.Z t v = vec (t.c *ᵒ v.x -ᵒ t.s *ᵒ v.y) (t.c *ᵒ v.y +ᵒ t.s *ᵒ v.x) (t.n *ᵒ v.z)

  -- about the axes k, j and i
  abbrev thrice : Order → Spin A → Spin A → Spin A → Vec A → Vec A
  thrice o a b c v = spun (letter o.initial_axis) a (spun (letter (second o)) b (spun (letter (third o)) c v))

  -- from the sine and the cosine of half the angle
  abbrev doubled : A → A → A → Spin A
  doubled two s c = spin (two *ᵒ (s *ᵒ c)) (c *ᵒ c -ᵒ s *ᵒ s) (s *ᵒ s +ᵒ c *ᵒ c)

abbrev two : Ex
two = con (whole (pos 2))

abbrev image : Quat ℚ → Vec ℚ → Vec ℚ
image = rotated ops (num 2)

image_product : (p q : Quat ℚ) (v : Vec ℚ) → image (product ops p q) v ≡ image p (image q v)
image_product p q v = ap vector (ring4 (p ▹ q ▹ v.x ▸ v.y ▸ v.z ▸ ∅) (λ p q x y z. pure 0ₑ (rotated exs two (product exs p q) (vec x y z)) ≗ pure 0ₑ (rotated exs two p (rotated exs two q (vec x y z)))) tt)

image_along : (i : T.Axis) (s c : ℚ) (v : Vec ℚ) → image (along 0# i s c) v ≡ spun ops i (doubled ops (num 2) s c) v
image_along T.X s c v = ap vector (ring4 (s ▸ c ▸ v.x ▸ v.y ▸ v.z ▸ ∅) (λ s c x y z. pure 0ₑ (rotated exs two (along 0ₑ T.X s c) (vec x y z)) ≗ pure 0ₑ (spun exs T.X (doubled exs two s c) (vec x y z))) tt)
image_along T.Y s c v = ap vector (ring4 (s ▸ c ▸ v.x ▸ v.y ▸ v.z ▸ ∅) (λ s c x y z. pure 0ₑ (rotated exs two (along 0ₑ T.Y s c) (vec x y z)) ≗ pure 0ₑ (spun exs T.Y (doubled exs two s c) (vec x y z))) tt)
image_along T.Z s c v = ap vector (ring4 (s ▸ c ▸ v.x ▸ v.y ▸ v.z ▸ ∅) (λ s c x y z. pure 0ₑ (rotated exs two (along 0ₑ T.Z s c) (vec x y z)) ≗ pure 0ₑ (spun exs T.Z (doubled exs two s c) (vec x y z))) tt)

-- the turn by a, exactly
abbrev turn : Frac → Spin ℚ
turn a = doubled ops (num 2) (cls (sine (halved a))) (cls (cosine (halved a)))

image_about : (i : T.Axis) (a : Frac) (v : Vec ℚ) → image (classes (about i a)) v ≡ spun ops i (turn a) v
image_about i a v = ap (λ q. image q v) (along_cls i (sine (halved a)) (cosine (halved a))) ∙ image_along i (cls (sine (halved a))) (cls (cosine (halved a))) v

image_in_order : (o : Order) (a b c : Frac) (v : Vec Frac) → classes3 (exact_image (in_order o a b c) v) ≡ thrice ops o (turn a) (turn b) (turn c) (classes3 v)
unfolding computes
image_in_order o a b c v =
    let p = classes (about (letter o.initial_axis) a) in
    let q = classes (about (letter (second o)) b) in
    let r = classes (about (letter (third o)) c) in
    image_product (product ops p q) r (classes3 v) ∙ image_product p q (image r (classes3 v)) ∙ ap (λ u. image p (image q u)) (image_about (letter (third o)) c (classes3 v))
    ∙ ap (image p) (image_about (letter (second o)) b _) ∙ image_about (letter o.initial_axis) a _

-- ---- the algebra

-- of squared length 1
abbrev level : Pair → Spin ℚ
level w = spin w.s w.c 1#

abbrev claim : Order → Axis → Ex → Ex → Ex → Ex → Ex → Ex → Equations
claim o column s c s' c' s'' c'' =
    let turned : Ex → Ex → Spin Ex = λ s c. spin (cond o.parity_even (⊖ s) s) c 1ₑ in
    pure 0ₑ (placed_column o (nine exs o.initial_repeated (s, c) (s', c') (s'', c'')) column) ≗ pure 0ₑ (thrice exs o (turned s c) (turned s' c') (turned s'' c'') (unit 0ₑ 1ₑ column))

abbrev number_of : Pair → ℚ × ℚ
number_of w = (w.s, w.c)

module _ (o : Order) (a b c : Pair) where
  abbrev computed : Axis → Vec ℚ
  computed column = placed_column o (nine ops o.initial_repeated (number_of a) (number_of b) (number_of c)) column

  abbrev meant : Axis → Vec ℚ
  meant column = let e = o.parity_even in thrice ops o (level (flip e a)) (level (flip e b)) (level (flip e c)) (unit 0# 1# column)

  abbrev Claim : Axis → Type 0
  Claim column = pure 0# (computed column) ≡ pure 0# (meant column)

  abbrev six : Vars
  six = a.s ▸ a.c ▸ b.s ▸ b.c ▸ c.s ▸ c.c ▸ ∅

  abbrev said : Axis → Equations
  said column = fill Equations zero six (claim o column)

  columns : T (true_of4 (said X)) → T (true_of4 (said Y)) → T (true_of4 (said Z)) → Say six (said X) × Say six (said Y) × Say six (said Z)
  columns x y z = (ring4 six (claim o X) x, ring4 six (claim o Y) y, ring4 six (claim o Z) z)

algebra : (i : Axis) (e r f : Bool) (a b c : Pair) → Claim (at i e r f) a b c X × Claim (at i e r f) a b c Y × Claim (at i e r f) a b c Z
algebra X true true f a b c = columns (at X true true f) a b c tt tt tt
algebra X true false f a b c = columns (at X true false f) a b c tt tt tt
algebra X false true f a b c = columns (at X false true f) a b c tt tt tt
algebra X false false f a b c = columns (at X false false f) a b c tt tt tt
algebra Y true true f a b c = columns (at Y true true f) a b c tt tt tt
algebra Y true false f a b c = columns (at Y true false f) a b c tt tt tt
algebra Y false true f a b c = columns (at Y false true f) a b c tt tt tt
algebra Y false false f a b c = columns (at Y false false f) a b c tt tt tt
algebra Z true true f a b c = columns (at Z true true f) a b c tt tt tt
algebra Z true false f a b c = columns (at Z true false f) a b c tt tt tt
algebra Z false true f a b c = columns (at Z false true f) a b c tt tt tt
algebra Z false false f a b c = columns (at Z false false f) a b c tt tt tt

computed_is : (o : Order) (a b c : Pair) (column : Axis) → computed o a b c column ≡ meant o a b c column
computed_is o a b c column = go column
  where
    h : Claim o a b c X × Claim o a b c Y × Claim o a b c Z
    h = algebra o.initial_axis o.parity_even o.initial_repeated o.frame_static a b c

    go : (column : Axis) → computed o a b c column ≡ meant o a b c column
    go X = ap vector h.0
    go Y = ap vector h.1
    go Z = ap vector h.2

-- ---- vectors part by part, and what is placed by an order

record Each {A B : Type 0} (R : A → B → Type 0) (v : Vec A) (w : Vec B) : Type 0 where
  x : R v.x w.x
  y : R v.y w.y
  z : R v.z w.z

record Nines {A B : Type 0} (R : A → B → Type 0) (m : Nine A) (n : Nine B) : Type 0 where
  ii : R m.ii n.ii
  ij : R m.ij n.ij
  ik : R m.ik n.ik
  ji : R m.ji n.ji
  jj : R m.jj n.jj
  jk : R m.jk n.jk
  ki : R m.ki n.ki
  kj : R m.kj n.kj
  kk : R m.kk n.kk

module _ {A B : Type 0} (R : A → B → Type 0) where
  either : (t : Bool) {x y : A} {u v : B} → R x u → R y v → R (cond t x y) (cond t u v)
  either true h k = h
  either false h k = k

  picked : (o : Order) (axis : Axis) {i j k : A} {i' j' k' : B} → R i i' → R j j' → R k k' → R (pick o axis i j k) (pick o axis i' j' k')
  picked o axis i j k = either (same axis o.initial_axis) i (either (same axis (second o)) j k)

  placed : (o : Order) (column : Axis) {m : Nine A} {n : Nine B} → Nines R m n → Each R (placed_column o m column) (placed_column o n column)
  placed o column {m} {n} h = record { x = row X; y = row Y; z = row Z }
    where
      row : (r : Axis) → R (pick o column (pick o r m.ii m.ij m.ik) (pick o r m.ji m.jj m.jk) (pick o r m.ki m.kj m.kk))
          (pick o column (pick o r n.ii n.ij n.ik) (pick o r n.ji n.jj n.jk) (pick o r n.ki n.kj n.kk))
      row r = picked o column (picked o r h.ii h.ij h.ik) (picked o r h.ji h.jj h.jk) (picked o r h.ki h.kj h.kk)

-- ---- the floats: rounding alone

abbrev Rough : Float → ℚ → Type 0
Rough x t = Approx x t (whole (pos 3)) (part 49)

module _ {a b c : Float × Float} (ha : Small a) (hb : Small b) (hc : Small c) where
  abbrev leaves : Leaves
  leaves = ha.s ⊳ ha.c ⊳ hb.s ⊳ hb.c ⊳ hc.s ⊳ hc.c ⊳ ∎

  abbrev formula : Bool → Nine Form
  formula r = nine forms r (leaf 0, leaf 1) (leaf 2, leaf 3) (leaf 4, leaf 5)

  entry : (r : Bool) (f : Nine Form → Form) → T (meets leaves (whole (pos 3)) (part 49) (f (formula r))) → Rough (float leaves (f (formula r))) (number leaves (f (formula r)))
  entry r f = analyse leaves (λ s c s' c' s'' c''. f (nine forms r (s, c) (s', c') (s'', c'')))

  nine_near : (r : Bool) → Nines Rough (nine floats r a b c) (nine ops r (number_of (pair_of a)) (number_of (pair_of b)) (number_of (pair_of c)))
  nine_near true = record {
    ii = entry true (λ n. n.ii) tt;
    ij = entry true (λ n. n.ij) tt;
    ik = entry true (λ n. n.ik) tt;
    ji = entry true (λ n. n.ji) tt;
    jj = entry true (λ n. n.jj) tt;
    jk = entry true (λ n. n.jk) tt;
    ki = entry true (λ n. n.ki) tt;
    kj = entry true (λ n. n.kj) tt;
    kk = entry true (λ n. n.kk) tt;
  }
  nine_near false = record {
    ii = entry false (λ n. n.ii) tt;
    ij = entry false (λ n. n.ij) tt;
    ik = entry false (λ n. n.ik) tt;
    ji = entry false (λ n. n.ji) tt;
    jj = entry false (λ n. n.jj) tt;
    jk = entry false (λ n. n.jk) tt;
    ki = entry false (λ n. n.ki) tt;
    kj = entry false (λ n. n.kj) tt;
    kk = entry false (λ n. n.kk) tt;
  }

-- ---- three turns, each with numbers a little off

-- x is within f of t, which is m in size at most
record Off (f m : Frac) (x t : ℚ) : Type 0 where
  near : x ≈⟨ cls f ⟩ t
  size : t within cls m

-- a float sine from the exact one of the doubled half angle; and the size of that
abbrev η : Frac
η = part 44 +ᶠ part 56

abbrev τ : Frac
τ = 1ᶠ +ᶠ part 50

-- what a product with such a number is off by
abbrev product_off : Frac → Frac → Frac
product_off f m = η *ᶠ f +ᶠ η *ᶠ m +ᶠ τ *ᶠ f

times : {f m : Frac} {a t x u : ℚ} → Off η τ a t → Off f m x u → Off (product_off f m) (τ *ᶠ m) (a * x) (t * u)
unfolding computes
times h k = record { near = near_* h.near k.near h.size k.size; size = within_* h.size k.size }

module _ {f m : Frac} {x t : ℚ} (h : Off f m x t) where
  plus : {y u : ℚ} → Off f m y u → Off (f +ᶠ f) (m +ᶠ m) (x + y) (t + u)
  unfolding computes
  plus k = record { near = near_+ h.near k.near; size = within_+ h.size k.size }

  less : {y u : ℚ} → Off f m y u → Off (f +ᶠ f) (m +ᶠ m) (x - y) (t - u)
  unfolding computes
  less k = record { near = near_+ h.near (near_neg k.near); size = within_+ h.size (within_neg k.size) }

  alone : Off (f +ᶠ f) (m +ᶠ m) x t
  unfolding computes
  alone = record {
    near = near_≤ h.near (le (cls f ▸ ∅) (λ f. 0ₑ ≼ f ⇒ λ h. f ≼ f ⊕ f by h) tt (near_nonneg h.near));
    size = within_≤ h.size (le (cls m ▸ ∅) (λ m. 0ₑ ≼ m ⇒ λ h. m ≼ m ⊕ m by h) tt (within_nonneg h.size));
  }

record Spins (t u : Spin ℚ) : Type 0 where
  s : Off η τ t.s u.s
  c : Off η τ t.c u.c
  n : Off η τ t.n u.n

spun_off : (i : T.Axis) {f m : Frac} {t u : Spin ℚ} {v w : Vec ℚ} → Spins t u → Each (Off f m) v w
    → Each (Off (product_off f m +ᶠ product_off f m) (τ *ᶠ m +ᶠ τ *ᶠ m)) (spun ops i t v) (spun ops i u w)
spun_off T.X t v = record { x = alone (times t.n v.x); y = less (times t.c v.y) (times t.s v.z); z = plus (times t.c v.z) (times t.s v.y) }
spun_off T.Y t v = record { x = plus (times t.c v.x) (times t.s v.z); y = alone (times t.n v.y); z = less (times t.c v.z) (times t.s v.x) }
spun_off T.Z t v = record { x = less (times t.c v.x) (times t.s v.y); y = plus (times t.c v.y) (times t.s v.x); z = alone (times t.n v.z) }

nought : Off 0ᶠ 1ᶠ 0# 0#
unfolding computes
nought = record { near = near_self 0# (closed tt); size = record { up = closed tt; down = closed tt } }

one : Off 0ᶠ 1ᶠ 1# 1#
unfolding computes
one = record { near = near_self 1# (closed tt); size = record { up = closed tt; down = closed tt } }

unit_off : (column : Axis) → Each (Off 0ᶠ 1ᶠ) (unit 0# 1# column) (unit 0# 1# column)
unit_off X = record { x = one; y = nought; z = nought }
unit_off Y = record { x = nought; y = one; z = nought }
unit_off Z = record { x = nought; y = nought; z = one }

-- 24 η, about: each turn adds 2 m η, for m = 1, 2 and 4, and doubles what there was
abbrev Beside : ℚ → ℚ → Type 0
Beside x t = x ≈⟨ cls (whole (pos 25) *ᶠ part 44) ⟩ t

thrice_near : (o : Order) {a b c A B C : Spin ℚ} → Spins a A → Spins b B → Spins c C → (column : Axis) → Each Beside (thrice ops o a b c (unit 0# 1# column)) (thrice ops o A B C (unit 0# 1# column))
unfolding computes
thrice_near o a b c column =
    let h = spun_off (letter o.initial_axis) a (spun_off (letter (second o)) b (spun_off (letter (third o)) c (unit_off column))) in
    record { x = near_≤ h.x.near (closed tt); y = near_≤ h.y.near (closed tt); z = near_≤ h.z.near (closed tt) }

-- the floats' sine and cosine beside those of the doubled half angle
spins : {v : Pair} (a : Frac) → v ≋⟨ cls ε ⟩ exact a → Spins (level v) (turn a)
unfolding computes
spins a h =
    let k = exact_half a in
    let w = ≋_trans h k in
    record {
      s = record { near = near_≤ w.of_s (closed tt); size = within_≤ (near_size (near_sym k.of_s) (sine_size a)) (closed tt) };
      c = record { near = near_≤ w.of_c (closed tt); size = within_≤ (near_size (near_sym k.of_c) (cosine_size a)) (closed tt) };
      n = record { near = near_≤ circle (closed tt); size = within_≤ (near_size (near_sym circle) one_itself) (closed tt) };
    }
  where
    circle : 1# ≈⟨ 2⁻ 73 ⟩ (turn a).n
    circle = near_sym (near (exact_circle (halved a)) refl)

    one_itself : 1# within 1#
    one_itself = one.size

-- ---- the law

unit_classes : (column : Axis) → classes3 (unit 0ᶠ 1ᶠ column) ≡ unit 0# 1# column
unit_classes X = refl
unit_classes Y = refl
unit_classes Z = refl

module _ (o : Order) {t u v : Float × Float} (a b c : Frac) (ht : Sines t (flip o.parity_even (exact a)) (cls ε)) (hu : Sines u (flip o.parity_even (exact b)) (cls ε)) (hv : Sines v (flip o.parity_even (exact c)) (cls ε)) where
  abbrev e : Bool
  e = o.parity_even

  order_column : (column : Axis) → IsColumn (placed_column o (nine floats o.initial_repeated t u v) column) (exact_image (in_order o a b c) (unit 0ᶠ 1ᶠ column))
  unfolding computes
  order_column column =
      let w = exact_image (in_order o a b c) (unit 0ᶠ 1ᶠ column) in
      let rough = subst (Each Rough (placed_column o (nine floats o.initial_repeated t u v) column)) (computed_is o (pair_of t) (pair_of u) (pair_of v) column)
      (placed Rough o column (nine_near (small e a ht) (small e b hu) (small e c hv) o.initial_repeated)) in
      let near = subst (Each Beside (meant o (pair_of t) (pair_of u) (pair_of v) column)) (sym (image_in_order o a b c (unit 0ᶠ 1ᶠ column) ∙ ap (thrice ops o (turn a) (turn b) (turn c)) (unit_classes column)))
      (thrice_near o (spins a (turned_back e a ht)) (spins b (turned_back e b hu)) (spins c (turned_back e c hv)) column) in
      record {
        x = rounded w.x (part 38) (rounds_≤ (rounds_then rough.x.rounds near.x) (closed tt));
        y = rounded w.y (part 38) (rounds_≤ (rounds_then rough.y.rounds near.y) (closed tt));
        z = rounded w.z (part 38) (rounds_≤ (rounds_then rough.z.rounds near.z) (closed tt));
      }

pub euler_column : EulerColumnLaw
euler_column n x y z hx hy hz axis =
    let o = order n in
    let e = o.parity_even in
    let static = o.frame_static in
    let two = both_ends static (λ (v : Float) (a : Frac). Sines (sines_of (cond e (I.neg v) v)) (flip e (exact a)) (cls ε)) (signed_sines e hx) (signed_sines e hz) in
    subst (λ q. IsColumn (column o x y z axis) (exact_image q (unit 0ᶠ 1ᶠ axis))) (sym (name_turn (val x) (val y) (val z) n))
    (order_column o (ends static (val x) (val z)).0 (val y) (ends static (val x) (val z)).1 two.0 (signed_sines e hy) two.1 axis)
