-- What passes the tests of floats.
use Rattle.std.proofs.Common.{◌≡◌, Bool, true, false, ◌&&◌, is_ok, None, Ok, Err, Option, Result, sym, refl, subst, ap₂}
use lib.Ieee.{Float, nan, inf, fin, lt, le}
use Rattle.std.specs.Float.{float_is_finite, float_is_infinite}
use Rattle.fault.specs.Answers.{answer}
use Rattle.exact.specs.Quat.{Quat}
use Rattle.exact.proofs.Rational.{ℚ}
use Rattle.exact.proofs.Order.{◌≤◌}
use Rattle.exact.proofs.Within.{<_not}
use Rattle.rounding.specs.Value.{Is}
use Rattle.rounding.proofs.Rounds.{Exact}
use Rattle.rounding.proofs.Compare.{lt_yes, le_no}
use Rattle.vectors.specs.Vectors.{finite4}
use Rattle.drift.specs.Laws.{Are, Gives}

pub is_finite : (x : Float) → Is x → float_is_finite x ≡ true
unfolding float_is_finite
is_finite nan i = absurd i.fin
is_finite (inf s) i = absurd i.fin
is_finite (fin s m e) i = refl

pub not_infinite : (x : Float) → Is x → float_is_infinite x ≡ false
unfolding float_is_infinite
not_infinite nan i = absurd i.fin
not_infinite (inf s) i = absurd i.fin
not_infinite (fin s m e) i = refl

pub are_finite : {q : Quat Float} → Are q → finite4 q ≡ true
are_finite i = ap₂ ◌&&◌ (ap₂ ◌&&◌ (ap₂ ◌&&◌ (is_finite _ i.x) (is_finite _ i.y)) (is_finite _ i.z)) (is_finite _ i.w)

-- comparisons, by the values
module _ {x y : Float} {s t : ℚ} (h : Exact x s) (k : Exact y t) where
  pub not_below : t ≤ s → lt x y ≡ false
  not_below l = go (lt x y) refl
    where
      go : (b : Bool) → lt x y ≡ b → b ≡ false
      go true e = absurd (<_not (lt_yes h k e) l)
      go false e = refl

  pub at_most : s ≤ t → le x y ≡ true
  at_most l = go (le x y) refl
    where
      go : (b : Bool) → le x y ≡ b → b ≡ true
      go true e = refl
      go false e = absurd (<_not (le_no h k e) l)

-- an answer that no test refuses
pub accepted : {A F : Type 0} {f : Option F} {a : A} (P : A → Type 0) (r : Result A F) → r ≡ answer f a → f ≡ None → P a → Gives P r
accepted {a = a} P r e n h = subst (Gives P) (sym e) (subst (λ f. Gives P (answer f a)) (sym n) h)

-- what an accepted answer gives
module _ {A F : Type 0} (P : A → Type 0) where
  pub gives_ok : (r : Result A F) → Gives P r → is_ok r ≡ true
  gives_ok (Ok a) h = refl
  gives_ok (Err f) h = absurd h

  pub gives_of : {r : Result A F} {a : A} → r ≡ Ok a → Gives P r → P a
  gives_of e h = subst (Gives P) e h
