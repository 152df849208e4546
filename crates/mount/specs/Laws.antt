-- The laws that the traits ask: of the floor, of any layer, and of each kind of turn.
use Rattle.std.specs.Prelude.{◌≡◌, ℕ, ◌+◌, ◌≤◌, Bool, true, false, cond, Some, None, Option, refl, Float}
use Rattle.std.proofs.Common.{sym, subst, leb-true, arith, rules, add_assoc}
use Rattle.exact.specs.Fraction.{Frac}
use Rattle.exact.specs.Quat.{Quat, fractions, product}
use Rattle.exact.specs.Turn.{X, Z, about, exact_turn}
use Rattle.exact.specs.Facts.{one}
use Rattle.exact.proofs.Within.{computes, closed, near_≤}
use Rattle.exact.proofs.Turns.{exact_turn_length, about_length}
use Rattle.rounding.specs.Value.{val}
use Rattle.euler.specs.Orders.{letters}
use Rattle.drift.specs.Turns as F
use Rattle.drift.specs.Drift.{UnitAt, Stands}
use Rattle.drift.proofs.Standing.{turn_unit, turn_stands}
use Rattle.drift.proofs.Standing as S
use Rattle.mount.specs.Facts.{deepest}
use Rattle.mount.specs.Layers.{room, over, deeper, Over, set_turn, set_truth, set_floats, aim_truth, aim_floats}
use Rattle.mount.specs.Passing.{set_fair, pan_is, tilt_is}
use Rattle.mount.specs.declared.settings.Setting.{Setting}
use Rattle.mount.specs.declared.settings.Aim.{Aim}

-- ---- the floor

pub floor_shallow : 0 ≤ deepest
floor_shallow = omega arith

pub floor_unit : UnitAt 0 one
floor_unit = search rules

-- ---- any layer

-- by whether there is room
by_room : (more d : ℕ) (P : Bool → Type 0) → (d + more ≤ deepest → P true) → P false → P (room more d)
by_room more d P fits full = go (room more d) refl
  where
    go : (b : Bool) → room more d ≡ b → P b
    go true e = fits (leb-true _ _ e)
    go false e = full

pub layer_shallow : {S : Type 0} (more d : ℕ) (o : Option S) → d ≤ deepest → deeper more o d ≤ deepest
layer_shallow more d None h = h
layer_shallow more d (Some s) h = by_room more d (λ b. cond b (d + more) d ≤ deepest) (λ l. l) h

-- by what a layer does where it is set
module _ {S : Type 0} (more d : ℕ) (f : S → Quat Frac → Quat Frac) (t : Quat Frac) where
  pub layer_unit : (o : Option S) → UnitAt d t → ((s : S) → d + more ≤ deepest → UnitAt (d + more) (f s t)) → UnitAt (deeper more o d) (over more d f o t)
  layer_unit None h k = h
  layer_unit (Some s) h k = by_room more d (λ b. UnitAt (cond b (d + more) d) (cond b (f s t) t)) (k s) h

  pub layer_stands : (F : S → Quat Float → Quat Float) (o : Option S) (P : Quat Float → Type 0) (q : Quat Float) → Over more d F o P q → ((m : Quat Float) → P m → Stands d m t)
      → ((s : S) (m : Quat Float) → d + more ≤ deepest → Stands d m t → Stands (d + more) (F s m) (f s t)) → Stands (deeper more o d) q (over more d f o t)
  layer_stands F None P q h below k = below q h
  layer_stands F (Some s) P q h below k =
      let m = below h.0 h.1.0 in
      subst (λ q. Stands (deeper more (Some s) d) q (over more d f (Some s) t)) (sym h.1.1)
      (by_room more d (λ b. Stands (cond b (d + more) d) (cond b (F s h.0) h.0) (cond b (f s t) t)) (λ l. k s h.0 l m) m)

-- ---- the turn of a bracket

pub set_unit : (d : ℕ) (t : Quat Frac) → UnitAt d t → (s : Setting) → d + 1 ≤ deepest → UnitAt (d + 1) (set_truth s t)
unfolding computes
set_unit d t h s l = turn_unit d t (exact_turn (letters s.name) (val s.a) (val s.b) (val s.c)) (omega arith) h (near_≤ (exact_turn_length (letters s.name) (val s.a) (val s.b) (val s.c)) (closed tt))

pub set_stands : (d : ℕ) (t : Quat Frac) (s : Setting) (m : Quat Float) → d + 1 ≤ deepest → Stands d m t → Stands (d + 1) (set_floats s m) (set_truth s t)
set_stands d t s m l k = turn_stands d m (set_turn s) t (exact_turn (letters s.name) (val s.a) (val s.b) (val s.c)) (omega arith) k (set_fair s)

-- ---- the two of a yoke

pub aim_unit : (d : ℕ) (t : Quat Frac) → UnitAt d t → (s : Aim) → d + 2 ≤ deepest → UnitAt (d + 2) (aim_truth s t)
unfolding computes
aim_unit d t h s l =
    let panned = turn_unit d t (about Z (val s.pan)) (omega arith) h (near_≤ (about_length Z (val s.pan)) (closed tt)) in
    subst (λ (n : ℕ). UnitAt n (aim_truth s t)) (add_assoc d 1 1)
    (turn_unit (d + 1) (product fractions t (about Z (val s.pan))) (about X (val s.tilt)) (omega arith) panned (near_≤ (about_length X (val s.tilt)) (closed tt)))

pub aim_stands : (d : ℕ) (t : Quat Frac) (s : Aim) (m : Quat Float) → d + 2 ≤ deepest → Stands d m t → Stands (d + 2) (aim_floats s m) (aim_truth s t)
aim_stands d t s m l k = S.aim_stands d m (F.about Z s.pan) (F.about X s.tilt) t s.pan s.tilt (omega arith) k (pan_is s) (tilt_is s)

-- ---- a bracket and a yoke

pub bracket_unit : (d : ℕ) (t : Quat Frac) (o : Option Setting) → UnitAt d t → UnitAt (deeper 1 o d) (over 1 d set_truth o t)
bracket_unit d t o h = layer_unit 1 d set_truth t o h (set_unit d t h)

pub bracket_stands : (d : ℕ) (t : Quat Frac) (o : Option Setting) (P : Quat Float → Type 0) (q : Quat Float) → Over 1 d set_floats o P q → ((m : Quat Float) → P m → Stands d m t) → Stands (deeper 1 o d) q (over 1 d set_truth o t)
bracket_stands d t o P q h below = layer_stands 1 d set_truth t set_floats o P q h below (set_stands d t)

pub yoke_unit : (d : ℕ) (t : Quat Frac) (o : Option Aim) → UnitAt d t → UnitAt (deeper 2 o d) (over 2 d aim_truth o t)
yoke_unit d t o h = layer_unit 2 d aim_truth t o h (aim_unit d t h)

pub yoke_stands : (d : ℕ) (t : Quat Frac) (o : Option Aim) (P : Quat Float → Type 0) (q : Quat Float) → Over 2 d aim_floats o P q → ((m : Quat Float) → P m → Stands d m t) → Stands (deeper 2 o d) q (over 2 d aim_truth o t)
yoke_stands d t o P q h below = layer_stands 2 d aim_truth t aim_floats o P q h below (aim_stands d t)
