-- The exact turn of a name: three turns about the axes of its order.
use Rattle.std.proofs.Common.{◌≡◌, Bool, true, false, cond, not, refl, ap, ◌∙◌}
use Rattle.exact.specs.Fraction.{Frac}
use Rattle.exact.specs.Quat.{Quat, fractions, product}
use Rattle.exact.specs.Turn as exact
use Rattle.exact.specs.Turn.{Letters, about, exact_turn}
use Rattle.euler.specs.declared.Axis.{Axis}
use Rattle.euler.specs.declared.EulerRot.{EulerRot}
use Rattle.euler.specs.declared.Order.{Order}
use Rattle.euler.specs.Orders.{axis, letter, letters, order, order_of, second, third, Spells}
use Rattle.euler.proofs.Spelling.{each_name}

letter_of : (a : exact.Axis) → a ≡ letter (axis a)
letter_of exact.X = refl
letter_of exact.Y = refl
letter_of exact.Z = refl

-- the first and the last as they stand, or with Ex read backwards
abbrev pub ends : {A : Type 0} → Bool → A → A → A × A
ends static a c = cond static (a, c) (c, a)

pub both_ends : (static : Bool) {A B : Type 0} (P : A → B → Type 0) {x z : A} {a c : B} → P x a → P z c → P (ends static x z).0 (ends static a c).0 × P (ends static x z).1 (ends static a c).1
both_ends true P h k = (h, k)
both_ends false P h k = (k, h)

-- by a, b and c about the axes i, j and k
abbrev pub in_order : Order → Frac → Frac → Frac → Quat Frac
in_order o a b c = product fractions (product fractions (about (letter o.initial_axis) a) (about (letter (second o)) b)) (about (letter (third o)) c)

module _ (a b c : Frac) where
  abbrev about_axes : Axis × Axis × Axis → Frac → Frac → Quat Frac
  about_axes t a c = product fractions (product fractions (about (letter t.0) a) (about (letter t.1) b)) (about (letter t.2) c)

  by_letters : (ex : Bool) (i j k : exact.Axis) → let l : Letters = record { first = i; second = j; third = k; ex = ex } in
      Spells l (order_of l) → exact_turn l a b c ≡ in_order (order_of l) (ends (not ex) a c).0 b (ends (not ex) a c).1
  by_letters false i j k h = (λ p. product fractions (product fractions (about (letter_of i p) a) (about (letter_of j p) b)) (about (letter_of k p) c)) ∙ ap (λ t. about_axes t a c) h
  by_letters true i j k h = (λ p. product fractions (product fractions (about (letter_of k p) c) (about (letter_of j p) b)) (about (letter_of i p) a)) ∙ ap (λ t. about_axes t c a) h

  pub name_turn : (n : EulerRot) → let static = (order n).frame_static in exact_turn (letters n) a b c ≡ in_order (order n) (ends static a c).0 b (ends static a c).1
  name_turn n = let l = letters n in by_letters l.ex l.first l.second l.third (each_name n).0
