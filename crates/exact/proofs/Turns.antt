-- The lengths of exact turns, and examples.
use mathlib.Core.Path.{◌≡◌, refl, sym, ◌∙◌, ap, ap₂, subst}
use mathlib.Core.Quot.{sound}
use mathlib.Core.Bool.{Bool, true, false}
use lib.IntN.{pos}
use Rattle.exact.specs.Fraction.{Frac, 0ᶠ, 1ᶠ, ◌over◌, ◌*ᶠ◌}
use Rattle.exact.specs.Quat.{Quat, product, square}
use Rattle.exact.specs.Sine.{P, sine, cosine, alternating, nearest, floor}
use Rattle.exact.specs.Turn.{Axis, X, Y, Z, Letters, along, about, ordered, exact_turn}
use Rattle.exact.specs.Facts.{one, NoTurn, HalfTurns}
use Rattle.exact.proofs.Ring.{◌⊕◌, ◌⊗◌}
use Rattle.exact.proofs.Rational.{ℚ, cls, ◌+◌, ◌*◌, ◌-◌, ∅, ◌▸◌, ◌≐◌, ring}
use Rattle.exact.proofs.Within.{0#, 1#, 0ₑ, 2⁻, computes, closed, ◌within◌, within_self, ◌≈⟨◌⟩◌, near, near_≤, near_*}
use Rattle.exact.proofs.Quats.{ops, square_product}
use Rattle.exact.proofs.Distance.{classes, same_quat}
use Rattle.exact.proofs.Sines.{exact_circle}

-- ---- lengths

pub along_cls : (axis : Axis) (s c : Frac) → classes (along 0ᶠ axis s c) ≡ along 0# axis (cls s) (cls c)
along_cls X s c = refl
along_cls Y s c = refl
along_cls Z s c = refl

pub along_square : (axis : Axis) (s c : ℚ) → square ops (along 0# axis s c) ≡ s * s + c * c
along_square X s c = ring (s ▸ c ▸ ∅) (λ s c. s ⊗ s ⊕ 0ₑ ⊗ 0ₑ ⊕ 0ₑ ⊗ 0ₑ ⊕ c ⊗ c ≐ s ⊗ s ⊕ c ⊗ c) tt
along_square Y s c = ring (s ▸ c ▸ ∅) (λ s c. 0ₑ ⊗ 0ₑ ⊕ s ⊗ s ⊕ 0ₑ ⊗ 0ₑ ⊕ c ⊗ c ≐ s ⊗ s ⊕ c ⊗ c) tt
along_square Z s c = ring (s ▸ c ▸ ∅) (λ s c. 0ₑ ⊗ 0ₑ ⊕ 0ₑ ⊗ 0ₑ ⊕ s ⊗ s ⊕ c ⊗ c ≐ s ⊗ s ⊕ c ⊗ c) tt

pub about_length : (axis : Axis) (a : Frac) → square ops (classes (about axis a)) ≈⟨ 2⁻ 73 ⟩ 1#
about_length axis a = near (exact_circle h) (sym (ap (λ q. square ops q - 1#) (along_cls axis (sine h) (cosine h)) ∙ ap (λ z. z - 1#) (along_square axis (cls (sine h)) (cls (cosine h)))))
  where
    h : Frac
    h = a *ᶠ (pos 1 over 2)

-- (1 + 2⁻⁷³)³ ≤ 1 + 2⁻⁷¹
three_length : (p q r : Quat ℚ) → square ops p ≈⟨ 2⁻ 73 ⟩ 1# → square ops q ≈⟨ 2⁻ 73 ⟩ 1# → square ops r ≈⟨ 2⁻ 73 ⟩ 1# → square ops (product ops (product ops p q) r) ≈⟨ 2⁻ 71 ⟩ 1#
unfolding computes
three_length p q r h k l = subst (λ z. z ≈⟨ 2⁻ 71 ⟩ 1#) (sym (square_product (product ops p q) r ∙ ap (λ z. z * square ops r) (square_product p q)))
    (near_≤ (near_* (near_* h k unit unit) l unit unit) (closed tt))
  where
    unit : 1# within 1#
    unit = within_self (closed tt)

ordered_length : (ex : Bool) (p q r : Quat Frac) → square ops (classes p) ≈⟨ 2⁻ 73 ⟩ 1# → square ops (classes q) ≈⟨ 2⁻ 73 ⟩ 1# → square ops (classes r) ≈⟨ 2⁻ 73 ⟩ 1#
    → square ops (classes (ordered ex p q r)) ≈⟨ 2⁻ 71 ⟩ 1#
unfolding computes
ordered_length false p q r h k l = three_length (classes p) (classes q) (classes r) h k l
ordered_length true p q r h k l = three_length (classes r) (classes q) (classes p) l k h

pub exact_turn_length : (l : Letters) (a b c : Frac) → square ops (classes (exact_turn l a b c)) ≈⟨ 2⁻ 71 ⟩ 1#
exact_turn_length l a b c = ordered_length l.ex (about l.first a) (about l.second b) (about l.third c) (about_length l.first a) (about_length l.second b) (about_length l.third c)

-- ---- examples: an angle 0 is no turn, and P is half a turn, exactly

-- the turn by an angle of which half's sine and cosine are known
module _ (a s c : Frac) (hs : cls (sine (a *ᶠ (pos 1 over 2))) ≡ cls s) (hc : cls (cosine (a *ᶠ (pos 1 over 2))) ≡ cls c) where
  about_is : (axis : Axis) → classes (about axis a) ≡ classes (along 0ᶠ axis s c)
  about_is axis = along_cls axis _ _ ∙ ap₂ (along 0# axis) hs hc ∙ sym (along_cls axis s c)

ordered_at : (ex : Bool) {p q r p' q' r' : Quat Frac} → classes p ≡ classes p' → classes q ≡ classes q' → classes r ≡ classes r' → classes (ordered ex p q r) ≡ classes (ordered ex p' q' r')
unfolding computes
ordered_at false {r = r} {p'} {q'} h k l = ap₂ (λ a b. product ops (product ops a b) (classes r)) h k ∙ ap (product ops (product ops (classes p') (classes q'))) l
ordered_at true {p} {q' = q'} {r'} h k l = ap₂ (λ a b. product ops (product ops a b) (classes p)) l k ∙ ap (product ops (product ops (classes r') (classes q'))) h

at_0 : (axis : Axis) → classes (about axis 0ᶠ) ≡ classes (along 0ᶠ axis 0ᶠ 1ᶠ)
unfolding sine cosine alternating nearest floor
at_0 = about_is 0ᶠ 0ᶠ 1ᶠ (sound refl) (sound refl)

at_P : (axis : Axis) → classes (about axis P) ≡ classes (along 0ᶠ axis 1ᶠ 0ᶠ)
unfolding sine cosine alternating nearest floor
at_P = about_is P 1ᶠ 0ᶠ (sound refl) (sound refl)

no_turn_about : (axis : Axis) → classes (about axis 0ᶠ) ≡ classes one
no_turn_about X = at_0 X
no_turn_about Y = at_0 Y
no_turn_about Z = at_0 Z

ones : (ex : Bool) → classes (ordered ex one one one) ≡ classes one
ones false = refl
ones true = refl

pub no_turn : NoTurn
no_turn l = same_quat (exact_turn l 0ᶠ 0ᶠ 0ᶠ) one
    (ordered_at l.ex (no_turn_about l.first) (no_turn_about l.second) (no_turn_about l.third) ∙ ones l.ex)

pub half_turns : HalfTurns
half_turns = (same_quat _ _ (ordered_at false (at_P X) (at_P Y) (at_0 Z)), same_quat _ _ (ordered_at true (at_P X) (at_P Y) (at_0 Z)))
