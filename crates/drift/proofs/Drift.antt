-- A lamp's drift by one turn more, and with the mount below it.
use Rattle.std.proofs.Common.{◌≡◌, pos, sym, ap, ◌∙◌, subst, arith}
use Prim.Native.Nat as N
use Rattle.exact.specs.Fraction.{1ᶠ, whole, part, ◌+ᶠ◌, ◌-ᶠ◌}
use Rattle.exact.specs.Quat.{fractions, product, square}
use Rattle.exact.specs.Facts.{one}
use Rattle.exact.proofs.Ring.{con, ◌⊕◌, ◌⊗◌}
use Rattle.exact.proofs.Rational.{cls, ◌+◌, ◌*◌, ∅, ◌▸◌}
use Rattle.exact.proofs.Order.{◌≤◌, number, ◌⊞◌, ◌⊠◌, ◌≼◌, ◌by◌, ◌⇒◌, le}
use Rattle.exact.proofs.Within.{0#, 1#, 0ₑ, 1ₑ, num, num_+, num_≤, 2⁻, closed, computes, 0≤num, ◌≈⟨◌⟩◌}
use Rattle.exact.proofs.Quats.{ops, ◌upto◌, ◌~⟨◌⟩◌, upto_≤, ~_≤}
use Rattle.exact.proofs.Distance.{classes, near, long, back}
use Rattle.rounding.proofs.Literals.{zero_exact, one_exact}
use Rattle.drift.specs.Laws.{turned}
use Rattle.drift.specs.Drift.{hung, Hung, TurnDrifts, Told}
use Rattle.drift.proofs.Floats.{values, unit_within, kept_sound, kept_upto, beside}
use Rattle.drift.proofs.Step.{turned_kept, turned_near}

-- ---- (0, 0, 0, 1)

hung_is : values hung ≡ classes one
hung_is = λ i. record { x = zero_exact.value i; y = zero_exact.value i; z = zero_exact.value i; w = one_exact.value i }

pub hung_stands : Hung
unfolding computes
hung_stands =
    let i = zero_exact.is in
    record {
      kept = unit_within (record { x = i; y = i; z = i; w = one_exact.is }) (subst (λ q. square ops q ≈⟨ 2⁻ 40 ⟩ 1#) (sym hung_is) (record { up = closed tt; down = closed tt }));
      near = back _ _ _ (subst (λ q. q ~⟨ 0# * 2⁻ 37 ⟩ classes one) (sym hung_is) (record { nonneg = closed tt; most = closed tt }));
    }

-- ---- a turn more

pub turn_drifts : TurnDrifts
unfolding computes
turn_drifts n k t p τ l h f =
    let M = num n in
    let r : values (turned k t) ~⟨ num (N.◌+◌ n 1) * 2⁻ 37 ⟩ classes (product fractions p τ) = ~_≤ (turned_near (kept_sound h.kept) f.kept (near h.near) (near f.near) (long f.long))
    (subst (λ z. M * 2⁻ 37 * cls (1ᶠ +ᶠ part 40) + 2⁻ 38 * cls (1ᶠ +ᶠ part 38) + cls (part 39 +ᶠ part 41 +ᶠ part 45) ≤ z * 2⁻ 37) (sym (num_+ n 1))
    (le (M ▸ ∅) (λ n. n ≼ con (whole (pos 4000)) ⇒ λ h. n ⊗ con (part 37) ⊗ con (1ᶠ +ᶠ part 40) ⊕ con (part 38) ⊗ con (1ᶠ +ᶠ part 38) ⊕ con (part 39 +ᶠ part 41 +ᶠ part 45) ≼ (n ⊕ 1ₑ) ⊗ con (part 37) by number (part 77) ⊠ h) tt (num_≤ (omega arith)))) in
    record { kept = turned_kept (kept_sound h.kept) f.kept; near = back _ _ _ r }

-- ---- over a mount

pub told : Told
unfolding computes
told d n m k t p d₁ n₁ dm dk =
    let D = num d in
    let M = num n in
    let h = kept_sound dm.kept in
    let b : classes p upto cls (1ᶠ +ᶠ part 24) = upto_≤ (beside (kept_upto dk.kept) (near dk.near)) (le (M ▸ ∅) (λ n. n ≼ con (whole (pos 4000)) ⇒ λ h. con (1ᶠ +ᶠ part 40) ⊕ n ⊗ con (part 37) ≼ con (1ᶠ +ᶠ part 24) by h ⊠ number (part 37)) tt (num_≤ n₁)) in
    let all : num (N.◌+◌ (N.◌+◌ d n) 1) ≡ D + M + 1# = num_+ (N.◌+◌ d n) 1 ∙ ap (λ z. z + 1#) (num_+ d n) in
    let r : values (turned m k) ~⟨ num (N.◌+◌ (N.◌+◌ d n) 1) * 2⁻ 36 ⟩ classes (product fractions t p) = ~_≤ (turned_near h dk.kept (near dm.near) (near dk.near) b)
    (subst (λ z. D * 2⁻ 36 * cls (1ᶠ +ᶠ part 24) + M * 2⁻ 37 * cls (1ᶠ +ᶠ part 38) + cls (part 39 +ᶠ part 41 +ᶠ part 45) ≤ z * 2⁻ 36) (sym all)
    (le (D ▸ M ▸ ∅) (λ d n. d ≼ con (whole (pos 12)) ⇒ λ h. 0ₑ ≼ n ⇒ λ p. d ⊗ con (part 36) ⊗ con (1ᶠ +ᶠ part 24) ⊕ n ⊗ con (part 37) ⊗ con (1ᶠ +ᶠ part 38) ⊕ con (part 39 +ᶠ part 41 +ᶠ part 45) ≼ (d ⊕ n ⊕ 1ₑ) ⊗ con (part 36)
    by number (part 60) ⊠ h ⊞ number (part 37 -ᶠ part 75) ⊠ p) tt (num_≤ d₁) (0≤num n))) in
    (turned_kept h dk.kept, back _ _ _ r)
