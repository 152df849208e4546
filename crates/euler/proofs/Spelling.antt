-- Each name is spelled by its letters and named by its text; and a text that is none of the names names no order.
use Rattle.std.proofs.Common.{◌≡◌, ℕ, Bool, true, false, cond, ◌&&◌, eqb, List, [], ◌∷◌, Ok, Err, Result, refl, arith, eqb-true}
use Rattle.fault.specs.declared.RotationFault.{RotationFault}
use Rattle.fault.specs.declared.RotationFault.TheVariants.{UnknownOrder}
use Rattle.euler.specs.declared.EulerRot.{EulerRot}
use Rattle.euler.specs.declared.EulerRot.TheVariants.{ZYX, ZXY, YXZ, YZX, XYZ, XZY, ZYZ, ZXZ, YXY, YZY, XYX, XZX, ZYXEx, ZXYEx, YXZEx, YZXEx, XYZEx, XZYEx, ZYZEx, ZXZEx, YXYEx, YZYEx, XYXEx, XZXEx}
use Rattle.euler.specs.Orders.{letters, order, Spells}
use Rattle.euler.specs.Names.{name, named, same, named_among}

both : (a b : Bool) → (a && b) ≡ true → (a ≡ true) × (b ≡ true)
both true b h = (refl, h)
both false b h = let z : ◌≡◌ {A = ℕ} 0 1 = cc in absurd (omega arith)

same_texts : (s t : List ℕ) → same s t ≡ true → s ≡ t
same_texts [] [] h = refl
same_texts [] (y ∷ t) h = let z : ◌≡◌ {A = ℕ} 0 1 = cc in absurd (omega arith)
same_texts (x ∷ s) [] h = let z : ◌≡◌ {A = ℕ} 0 1 = cc in absurd (omega arith)
same_texts (x ∷ s) (y ∷ t) h =
    let p = both (eqb x y) (same s t) h in
    let e = eqb-true x y p.0 in
    let f = same_texts s t p.1 in
    cc

-- the text differs from each of these names
abbrev pub Differs : List ℕ → List EulerRot → Type 0
Differs text [] = Unit {0}
Differs text (n ∷ ns) = (text ≡ name n → ⊥) × Differs text ns

passed : (text : List ℕ) (n : EulerRot) (r : Result EulerRot RotationFault) (b : Bool) → same text (name n) ≡ b → (text ≡ name n → ⊥) → Err (UnknownOrder 0) ≡ r → Err (UnknownOrder 0) ≡ cond b (Ok n) r
passed text n r true h d e = absurd (d (same_texts text (name n) h))
passed text n r false h d e = e

pub unnamed : (text : List ℕ) (ns : List EulerRot) → Differs text ns → Err (UnknownOrder 0) ≡ named_among ns text
unnamed text [] d = refl
unnamed text (n ∷ ns) d = passed text n (named_among ns text) (same text (name n)) refl d.0 (unnamed text ns d.1)

-- by computing
pub each_name : (n : EulerRot) → Spells (letters n) (order n) × (named (name n) ≡ Ok n)
each_name n =
    elim n as (λ m. Spells (letters m) (order m) × (named (name m) ≡ Ok m)) [
      | ZYX ↦ (refl, refl)
      | ZXY ↦ (refl, refl)
      | YXZ ↦ (refl, refl)
      | YZX ↦ (refl, refl)
      | XYZ ↦ (refl, refl)
      | XZY ↦ (refl, refl)
      | ZYZ ↦ (refl, refl)
      | ZXZ ↦ (refl, refl)
      | YXY ↦ (refl, refl)
      | YZY ↦ (refl, refl)
      | XYX ↦ (refl, refl)
      | XZX ↦ (refl, refl)
      | ZYXEx ↦ (refl, refl)
      | ZXYEx ↦ (refl, refl)
      | YXZEx ↦ (refl, refl)
      | YZXEx ↦ (refl, refl)
      | XYZEx ↦ (refl, refl)
      | XZYEx ↦ (refl, refl)
      | ZYZEx ↦ (refl, refl)
      | ZXZEx ↦ (refl, refl)
      | YXYEx ↦ (refl, refl)
      | YZYEx ↦ (refl, refl)
      | XYXEx ↦ (refl, refl)
      | XZXEx ↦ (refl, refl)
    ]
