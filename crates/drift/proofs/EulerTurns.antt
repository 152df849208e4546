-- The quaternions of Euler orders: their algebra by the solver, and the float error, which no order changes.
use Rattle.std.proofs.Common.{◌≡◌, Bool, true, false, cond, pos, sym, refl, ap, subst}
use lib.Ieee.{Float, fits, of_bits}
use lib.Ieee as I
use Rattle.exact.specs.Fraction.{Frac, 0ᶠ, 1ᶠ, ◌over◌, whole, part, ◌*ᶠ◌}
use Rattle.exact.specs.Quat.{Ops, Quat, product, square}
use Rattle.exact.specs.Turn.{along, about, exact_turn}
use Rattle.exact.proofs.Ring.{⊖◌}
use Rattle.exact.proofs.Rational.{ℚ, cls, neg, Ex, Vars, ∅, ◌▸◌}
use Rattle.exact.proofs.Within.{0#, 1#, 0ₑ, 1ₑ, 2⁻, closed, computes, ≤_trans, ≤_of, ≤_+, ◌≈⟨◌⟩◌, apart, near_≤, near_trans}
use Rattle.exact.proofs.Pairs.{Pair, ◌≋⟨◌⟩◌}
use Rattle.exact.proofs.Quats.{ops, exs, ◌upto◌, ◌~⟨◌⟩◌, ~_trans, ~_left, ~_right, ~_sym, ~_≤, ~_same, upto_*, upto_≤, upto_one, square_near, Equations, ◌≗◌, ring4}
use Rattle.exact.proofs.Distance.{classes, back}
use Rattle.exact.proofs.Sines.{exact}
use Rattle.exact.proofs.Turns.{along_cls, about_length, exact_turn_length}
use Rattle.rounding.specs.Value.{val, floats}
use Rattle.rounding.proofs.Approx.{Approx, constant}
use Rattle.rounding.proofs.Analysis.{forms, Approxs, ∎, ◌⊳◌, analyse4}
use Rattle.numeric.specs.Floats.{◌⊗◌ as ◌⊗ᶠ◌, half}
use Rattle.euler.specs.Orders.{letter, letters, order, second, third}
use Rattle.euler.specs.declared.Axis.{Axis}
use Rattle.euler.specs.declared.Axis.TheVariants.{X, Y, Z}
use Rattle.euler.specs.declared.Order.{Order}
use Rattle.euler.proofs.Turns.{ends, both_ends, in_order, name_turn}
use Rattle.drift.proofs.EulerAngles.{at, Sines, sines_of, flip, halved, ε, full, signed_half_sines, Small, small, pair_of, turned_back}
use Rattle.drift.specs.Turns.{Angle, angle, place, four, assembled, parity, by_order}
use Rattle.drift.specs.EulerLaws.{OrderTurnLaw}
use Rattle.drift.proofs.Floats.{values, square_of, settles, beside, unit_within}
use Rattle.drift.proofs.About.{along_apart}
use Rattle.drift.proofs.Fair.{turn_long}

-- ---- the algebra

abbrev of : Pair → Angle ℚ
of w = angle (w.s, w.c)

module _ {A : Type 0} (O : Ops A) where
  -- about the axes i, j and k, by half the angles a, b and c
  abbrev turns : A → Order → Angle A → Angle A → Angle A → Quat A
  turns nil o a b c = product O (product O (along nil (letter o.initial_axis) a.s a.c) (along nil (letter (second o)) b.s b.c)) (along nil (letter (third o)) c.s c.c)

abbrev claim : Order → Ex → Ex → Ex → Ex → Ex → Ex → Equations
claim o s c s' c' s'' c'' = let e = o.parity_even in
    assembled exs (cond e (⊖ 1ₑ) 1ₑ) o (angle (s, c)) (angle (s', c')) (angle (s'', c'')) ≗ turns exs 0ₑ o (angle (s, c)) (angle (cond e (⊖ s') s', c')) (angle (s'', c''))

abbrev Claim : Order → Type 0
Claim o = (a b c : Pair) → assembled ops (cond o.parity_even (neg 1#) 1#) o (of a) (of b) (of c) ≡ turns ops 0# o (of a) (of (flip o.parity_even b)) (of c)

abbrev six : Pair → Pair → Pair → Vars
six a b c = a.s ▸ a.c ▸ b.s ▸ b.c ▸ c.s ▸ c.c ▸ ∅

algebra : (i : Axis) (e r f : Bool) → Claim (at i e r f)
algebra X true true f a b c = ring4 (six a b c) (claim (at X true true f)) tt
algebra X true false f a b c = ring4 (six a b c) (claim (at X true false f)) tt
algebra X false true f a b c = ring4 (six a b c) (claim (at X false true f)) tt
algebra X false false f a b c = ring4 (six a b c) (claim (at X false false f)) tt
algebra Y true true f a b c = ring4 (six a b c) (claim (at Y true true f)) tt
algebra Y true false f a b c = ring4 (six a b c) (claim (at Y true false f)) tt
algebra Y false true f a b c = ring4 (six a b c) (claim (at Y false true f)) tt
algebra Y false false f a b c = ring4 (six a b c) (claim (at Y false false f)) tt
algebra Z true true f a b c = ring4 (six a b c) (claim (at Z true true f)) tt
algebra Z true false f a b c = ring4 (six a b c) (claim (at Z true false f)) tt
algebra Z false true f a b c = ring4 (six a b c) (claim (at Z false true f)) tt
algebra Z false false f a b c = ring4 (six a b c) (claim (at Z false false f)) tt

-- ---- the floats: rounding alone

four_near : (r : Bool) {p : Float} {P : ℚ} {a b c : Float × Float} → Approx p P 1ᶠ 0ᶠ → Small a → Small b → Small c
    → Approxs (four floats r p (angle a) (angle b) (angle c)) (four ops r P (of (pair_of a)) (of (pair_of b)) (of (pair_of c))) (whole (pos 3)) (part 49)
four_near true p a b c = analyse4 (p ⊳ a.s ⊳ a.c ⊳ b.s ⊳ b.c ⊳ c.s ⊳ c.c ⊳ ∎) (λ p s c s' c' s'' c''. four forms true p (angle (s, c)) (angle (s', c')) (angle (s'', c''))) tt
four_near false p a b c = analyse4 (p ⊳ a.s ⊳ a.c ⊳ b.s ⊳ b.c ⊳ c.s ⊳ c.c ⊳ ∎) (λ p s c s' c' s'' c''. four forms false p (angle (s, c)) (angle (s', c')) (angle (s'', c''))) tt

placed : (i : Axis) (e r f : Bool) {q : Quat Float} {t : Quat ℚ} {b d : Frac} → Approxs q t b d → Approxs (place (at i e r f) q) (place (at i e r f) t) b d
placed X true r f h = record { x = h.x; y = h.y; z = h.z; w = h.w }
placed X false r f h = record { x = h.x; y = h.z; z = h.y; w = h.w }
placed Y true r f h = record { x = h.z; y = h.x; z = h.y; w = h.w }
placed Y false r f h = record { x = h.y; y = h.x; z = h.z; w = h.w }
placed Z true r f h = record { x = h.y; y = h.z; z = h.x; w = h.w }
placed Z false r f h = record { x = h.z; y = h.y; z = h.x; w = h.w }

parity_near : (e : Bool) → Approx (parity e) (cond e (neg 1#) 1#) 1ᶠ 0ᶠ
unfolding computes fits of_bits I.neg
parity_near true = constant tt tt
parity_near false = constant tt tt

floats_near : (o : Order) {a b c : Float × Float} → Small a → Small b → Small c
    → Approxs (assembled floats (parity o.parity_even) o (angle a) (angle b) (angle c)) (turns ops 0# o (of (pair_of a)) (of (flip o.parity_even (pair_of b))) (of (pair_of c))) (whole (pos 3)) (part 49)
floats_near o {a} {b} {c} ha hb hc =
    let e = o.parity_even in
    let r = o.initial_repeated in
    subst (λ t. Approxs (assembled floats (parity e) o (angle a) (angle b) (angle c)) t (whole (pos 3)) (part 49)) (algebra o.initial_axis e r o.frame_static (pair_of a) (pair_of b) (pair_of c))
    (placed o.initial_axis e r o.frame_static (four_near r (parity_near e) ha hb hc))

-- ---- turns about an axis

-- √2 ε, and a bit
abbrev ρ : Frac
ρ = pos 14143 over 10000 *ᶠ ε

abbrev turn : Axis → Pair → Quat ℚ
turn i w = along 0# (letter i) w.s w.c

turn_near : (i : Axis) {v : Pair} (a : Frac) → v ≋⟨ cls ε ⟩ exact (halved a) → turn i v ~⟨ cls ρ ⟩ classes (about (letter i) a)
unfolding computes
turn_near i {v} a h = ~_same refl (sym (along_cls (letter i) _ _)) (record {
  nonneg = closed tt;
  most = ≤_trans (≤_of (along_apart (letter i) v (exact (halved a)))) (≤_trans (≤_+ (square_of (apart h.of_s)) (square_of (apart h.of_c))) (closed tt));
})

-- three turns, each ρ off
module _ {p q r P Q R : Quat ℚ} (hp : p ~⟨ cls ρ ⟩ P) (hq : q ~⟨ cls ρ ⟩ Q) (hr : r ~⟨ cls ρ ⟩ R) (P_long : P upto cls full) (Q_long : Q upto cls full) (R_long : R upto cls full) where
  -- 3 √2 · 2⁻⁴⁴, which is 4.243 · 2⁻⁴⁴, and a bit
  three_near : product ops (product ops p q) r ~⟨ cls (pos 425 over 100 *ᶠ part 44) ⟩ product ops (product ops P Q) R
  unfolding computes
  three_near =
      let p_long = beside P_long (~_sym hp) in
      let q_long = beside Q_long (~_sym hq) in
      ~_≤ (~_trans (~_left hr (upto_* p_long q_long)) (~_right (~_trans (~_right hp q_long) (~_left hq P_long)) R_long)) (closed tt)

about_long : (i : Axis) (a : Frac) → classes (about (letter i) a) upto cls full
unfolding computes
about_long i a = upto_≤ (upto_one (classes (about (letter i) a)) (about_length (letter i) a) (closed tt)) (closed tt)

-- ---- the law

-- with the roundings, 2 · 2⁻⁴⁹
abbrev off : Frac
off = whole (pos 5) *ᶠ part 44

-- the squared length of what is that near to an exact turn
near_unit : {q t : Quat ℚ} → q ~⟨ cls off ⟩ t → square ops t ≈⟨ 2⁻ 71 ⟩ 1# → square ops q ≈⟨ 2⁻ 40 ⟩ 1#
unfolding computes
near_unit {t = t} h k = near_≤ (near_trans (square_near (upto_one t k (closed tt)) h) k) (closed tt)

module _ (o : Order) {t u v : Float × Float} (a b c : Frac) (ht : Sines t (exact (halved a)) (cls ε)) (hu : Sines u (flip o.parity_even (exact (halved b))) (cls ε)) (hv : Sines v (exact (halved c)) (cls ε)) where
  rounding : Approxs (assembled floats (parity o.parity_even) o (angle t) (angle u) (angle v)) (turns ops 0# o (of (pair_of t)) (of (flip o.parity_even (pair_of u))) (of (pair_of v))) (whole (pos 3)) (part 49)
  rounding = floats_near o (small false (halved a) ht) (small o.parity_even (halved b) hu) (small false (halved c) hv)

  order_near : values (assembled floats (parity o.parity_even) o (angle t) (angle u) (angle v)) ~⟨ cls off ⟩ classes (in_order o a b c)
  unfolding computes
  order_near =
      let i = o.initial_axis in
      let j = second o in
      let k = third o in
      ~_≤ (~_trans (settles {f = part 48} rounding tt)
      (three_near (turn_near i a (turned_back false (halved a) ht)) (turn_near j b (turned_back o.parity_even (halved b) hu)) (turn_near k c (turned_back false (halved c) hv)) (about_long i a) (about_long j b) (about_long k c))) (closed tt)

pub order_turn : OrderTurnLaw
unfolding computes by_order
order_turn n x y z hx hy hz =
    let o = order n in
    let l = letters n in
    let e = o.parity_even in
    let static = o.frame_static in
    let two = both_ends static (λ (v : Float) (a : Frac). Sines (sines_of (v ⊗ᶠ half)) (exact (halved a)) (cls ε)) (signed_half_sines false hx) (signed_half_sines false hz) in
    let middle = signed_half_sines e hy in
    let a = (ends static (val x) (val z)).0 in
    let c = (ends static (val x) (val z)).1 in
    let r = rounding o a (val y) c two.0 middle two.1 in
    let near = ~_same refl (ap classes (sym (name_turn (val x) (val y) (val z) n))) (order_near o a (val y) c two.0 middle two.1) in
    record {
      kept = unit_within (record { x = r.x.rounds.is; y = r.y.rounds.is; z = r.z.rounds.is; w = r.w.rounds.is }) (near_unit near (exact_turn_length l (val x) (val y) (val z)));
      near = back _ _ _ (~_≤ near (closed tt));
      long = turn_long (exact_turn l (val x) (val y) (val z)) (near_≤ (exact_turn_length l (val x) (val y) (val z)) (closed tt));
    }
