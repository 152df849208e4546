-- Runs of turns, by induction over the step; and the mount below them.
use Rattle.std.proofs.Common.{◌≡◌, suc, List, [], ◌∷◌, length, pos, sym, ap, ◌∙◌, subst}
use lib.Ieee.{Float}
use Rattle.exact.specs.Fraction.{Frac, whole, part}
use Rattle.exact.specs.Quat.{Quat, fractions, product}
use Rattle.exact.specs.Turn.{total}
use Rattle.exact.specs.Facts.{one}
use Rattle.exact.proofs.Ring.{con, ◌⊕◌, ◌⊗◌}
use Rattle.exact.proofs.Rational.{ℚ, cls, ◌+◌, ◌*◌, ∅, ◌▸◌, ◌≐◌, ring}
use Rattle.exact.proofs.Order.{◌≤◌, number, ◌⊞◌, ◌⊠◌, ◌≼◌, ◌by◌, ◌⇒◌, le, from_frac}
use Rattle.exact.proofs.Within.{0#, 1#, 0ₑ, 1ₑ, num, num_suc, num_≤, 2⁻, closed, computes, 0≤num, ◌≈⟨◌⟩◌}
use Rattle.exact.proofs.Quats.{◌~⟨◌⟩◌, ~_≤, ~_at}
use Rattle.exact.proofs.Distance.{classes, near, long, back}
use Rattle.drift.specs.Laws.{Kept, turned}
use Rattle.quaternion.specs.Drift.{Step, Turn, Fair, Fairs, run, turns, hung, Drift, Lamp}
use Rattle.drift.proofs.Floats.{values, kept_sound}
use Rattle.drift.proofs.Step.{turned_kept}
use Rattle.drift.proofs.Drift.{hung_stands, told}
use Rattle.quaternion.proofs.Step.{step_near, kept_near}

pub stepped : Step
unfolding computes
stepped k t p τ e f a h g d l m = (turned_kept (kept_sound h) g, back _ _ _ (kept_near h g (near d) (near l) (long m)))

step : (k : Quat Float) (p : Quat Frac) (e : ℚ) (t : Turn) → Kept k → values k ~⟨ e ⟩ classes p → Fair t → e ≤ 1# → values (turned k t.float) ~⟨ e + 2⁻ 37 ⟩ classes (product fractions p t.turn)
unfolding computes
step k p e t h d f m = step_near h f.kept d (near f.near) (long f.long) m

drifts : (ts : List Turn) (k : Quat Float) (p : Quat Frac) (e : ℚ) → Kept k → values k ~⟨ e ⟩ classes p → Fairs ts → 0# ≤ e → e + num (length ts) * 2⁻ 37 ≤ 1#
    → Kept (run k ts) × (values (run k ts) ~⟨ e + num (length ts) * 2⁻ 37 ⟩ classes (total p (turns ts)))
drifts [] k p e h d f e₀ m = (h, ~_at (ring (e ▸ ∅) (λ e. e ≐ e ⊕ 0ₑ ⊗ con (part 37)) tt) d)
drifts (t ∷ ts) k p e h d f e₀ m =
    let g = f.0.kept in
    let n = num (length ts) in
    let one_more : e + num (suc (length ts)) * 2⁻ 37 ≡ e + 2⁻ 37 + n * 2⁻ 37 = ap (λ n. e + n * 2⁻ 37) (num_suc (length ts)) ∙ ring (e ▸ n ▸ ∅) (λ e n. e ⊕ (n ⊕ 1ₑ) ⊗ con (part 37) ≐ e ⊕ con (part 37) ⊕ n ⊗ con (part 37)) tt in
    let m' = subst (λ z. z ≤ 1#) one_more m in
    let s = step k p e t h d f.0 (le (e ▸ n ▸ ∅) (λ e n. e ⊕ con (part 37) ⊕ n ⊗ con (part 37) ≼ 1ₑ ⇒ λ m. 0ₑ ≼ n ⇒ λ p. e ≼ 1ₑ by m ⊞ p ⊠ number (part 37)) tt m' (0≤num (length ts))) in
    let r = drifts ts (turned k t.float) (product fractions p t.turn) (e + 2⁻ 37) (turned_kept (kept_sound h) g) s f.1 (le (e ▸ ∅) (λ e. 0ₑ ≼ e ⇒ λ h. 0ₑ ≼ e ⊕ con (part 37) by h) tt e₀) m' in
    (r.0, ~_at (sym one_more) r.1)

pub drift : Drift
unfolding computes
drift k p e ts h d f l n =
    let r = drifts ts k p (cls e) h (near d) f (near d).nonneg
    (le (cls e ▸ num (length ts) ▸ ∅) (λ e n. e ≼ con (part 1) ⇒ λ l. n ≼ con (whole (pos 4000)) ⇒ λ h. e ⊕ n ⊗ con (part 37) ≼ 1ₑ by l ⊞ h ⊠ number (part 37)) tt (from_frac _ _ l) (num_≤ n)) in
    (r.0, back _ _ _ r.1)

pub lamp : Lamp
unfolding computes
lamp m t d ts h d₁ k f n =
    let r = drifts ts hung one 0# hung_stands.kept (~_≤ (near hung_stands.near) (closed tt)) f (closed tt) (le (num (length ts) ▸ ∅) (λ n. n ≼ con (whole (pos 4000)) ⇒ λ h. 0ₑ ⊕ n ⊗ con (part 37) ≼ 1ₑ by h ⊠ number (part 37)) tt (num_≤ n)) in
    told d (length ts) m (run hung ts) t (total one (turns ts)) d₁ n (record { kept = h; near = k })
    (record { kept = r.0; near = back _ _ _ (~_at (ring (num (length ts) ▸ ∅) (λ n. 0ₑ ⊕ n ⊗ con (part 37) ≐ n ⊗ con (part 37)) tt) r.1) })
