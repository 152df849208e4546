-- What passes tests that follow one another, and what an accepted answer is.
use Rattle.std.proofs.Common.{◌≡◌, ℕ, Bool, true, false, Some, None, Ok, Err, Option, Result, IsOk, sym, refl, true≢false, arith}
use Rattle.fault.specs.Answers.{unless, within, ◌⨾◌, answer, clear}

module _ {F : Type 0} where
  pub clear_none : (o : Option F) → clear o ≡ true → o ≡ None
  clear_none (Some f) h = absurd (true≢false (sym h))
  clear_none None h = refl

  pub clear_first : (o p : Option F) → clear (o ⨾ p) ≡ true → clear o ≡ true
  clear_first (Some f) p h = h
  clear_first None p h = refl

  pub clear_next : (o p : Option F) → clear (o ⨾ p) ≡ true → clear p ≡ true
  clear_next (Some f) p h = absurd (true≢false (sym h))
  clear_next None p h = h

  pub clear_unless : (b : Bool) (f : F) → clear (unless b f) ≡ true → b ≡ true
  clear_unless true f h = refl
  clear_unless false f h = absurd (true≢false (sym h))

pub clear_within : {F G : Type 0} (g : F → G) (o : Option F) → clear (within g o) ≡ true → clear o ≡ true
clear_within g (Some f) h = absurd (true≢false (sym h))
clear_within g None h = refl

-- ---- an answer's parts

module _ {F A : Type 0} where
  pub answered : (o : Option F) (v q : A) → Ok q ≡ answer o v → (o ≡ None) × (q ≡ v)
  answered None v q h = (refl, cc)
  answered (Some f) v q h = let z : ◌≡◌ {A = ℕ} 0 1 = cc in absurd (omega arith)

  pub refused : (o : Option F) (v : A) (e : F) → Err e ≡ answer o v → o ≡ Some e
  refused None v e h = let z : ◌≡◌ {A = ℕ} 0 1 = cc in absurd (omega arith)
  refused (Some f) v e h = cc

  pub accepted : (o : Option F) (v : A) (r : Result A F) → o ≡ None → r ≡ answer o v → IsOk r
  accepted o v r h e = rw e (rw h refl)
