-- Error analysis by computing. A formula that is written over any operations is read four ways: on floats, on exact numbers, as a bound on their size and as one on their distance.
-- `analyse (h ⊳ k ⊳ ∎) (λ x y. x ⟨*⟩ y ⟨-⟩ x) tt : Approx (sub (mul x y) x) (s * t - s) b e` from h : Approx x s .. and k : Approx y t ..; `analyse4` does the four parts of a quaternion.
use lib.Ieee.Fits.{and_l, and_r}
use Rattle.std.proofs.Common.{ℕ, zero, suc, Bool, true, ◌&&◌, T, pos}
use lib.Ieee as F
use lib.Ieee.{Float, binary64, add, sub, mul, fits}
use Rattle.std.specs.Float as S
use Rattle.exact.specs.Fraction.{Frac, whole, ◌+ᶠ◌, ◌*ᶠ◌}
use Rattle.exact.specs.Quat.{Ops, Quat}
use Rattle.exact.proofs.Rational.{ℚ, ◌+◌, ◌*◌, ◌-◌, neg}
use Rattle.exact.proofs.Within.{0#}
use Rattle.rounding.specs.Theorems.{limit}
use Rattle.rounding.proofs.Approx.{◌≤ᵇ◌, u, tiny, grown, Approx, constant, plus, minus, times, opposite, looser}

infixl 60 ◌⟨+⟩◌ ◌⟨-⟩◌
infixl 70 ◌⟨*⟩◌
infix 80 ⟨-⟩◌
pub data Form : Type 0 where
  leaf : ℕ → Form
  ◌⟨+⟩◌ : Form → Form → Form
  ◌⟨-⟩◌ : Form → Form → Form
  ◌⟨*⟩◌ : Form → Form → Form
  ⟨-⟩◌ : Form → Form

abbrev pub forms : Ops Form
forms = record { ◌+ᵒ◌ = ◌⟨+⟩◌; ◌-ᵒ◌ = ◌⟨-⟩◌; ◌*ᵒ◌ = ◌⟨*⟩◌; neg = ⟨-⟩◌ }

-- four floats that stand for four numbers
pub record Approxs (q : Quat Float) (t : Quat ℚ) (b e : Frac) : Type 0 where
  pub x : Approx q.x t.x b e
  pub y : Approx q.y t.y b e
  pub z : Approx q.z t.z b e
  pub w : Approx q.w t.w b e

infixr 40 ◌⊳◌ ◌⊵◌
pub data Leaves : Type 0 where
  ∎ : Leaves
  ◌⊳◌ : {x : Float} {t : ℚ} {b e : Frac} → Approx x t b e → Leaves → Leaves
  ◌⊵◌ : {q : Quat Float} {t : Quat ℚ} {b e : Frac} → Approxs q t b e → Leaves → Leaves

pub record Leaf : Type 0 where
  pub x : Float
  pub t : ℚ
  pub b : Frac
  pub e : Frac
  pub holds : Approx x t b e

pub nought : Approx S.float_zero 0# (whole (pos 0)) (whole (pos 0))
unfolding fits
nought = constant tt tt

abbrev pub put : {x : Float} {t : ℚ} {b e : Frac} → Approx x t b e → Leaf
put {x} {t} {b} {e} h = record { x = x; t = t; b = b; e = e; holds = h }

abbrev pub get : Leaves → ℕ → Leaf
get ∎ i = put nought
get (h ⊳ v) zero = put h
get (h ⊳ v) (suc i) = get v i
get (h ⊵ v) zero = put h.x
get (h ⊵ v) (suc zero) = put h.y
get (h ⊵ v) (suc (suc zero)) = put h.z
get (h ⊵ v) (suc (suc (suc zero))) = put h.w
get (h ⊵ v) (suc (suc (suc (suc i)))) = get v i

-- a function of the leaves, and what it is of the leaves k, k + 1, …
abbrev pub Over : Leaves → Type 0 → Type 0
Over ∎ B = B
Over (h ⊳ v) B = Form → Over v B
Over (h ⊵ v) B = Quat Form → Over v B

abbrev pub fill : (B : Type 0) (k : ℕ) (v : Leaves) → Over v B → B
fill B k ∎ b = b
fill B k (h ⊳ v) f = fill B (suc k) v (f (leaf k))
fill B k (h ⊵ v) f = fill B (suc (suc (suc (suc k)))) v (f (record { x = leaf k; y = leaf (suc k); z = leaf (suc (suc k)); w = leaf (suc (suc (suc k))) }))

module _ (v : Leaves) where
  abbrev pub float : Form → Float
  float (leaf i) = (get v i).x
  float (a ⟨+⟩ b) = add binary64 (float a) (float b)
  float (a ⟨-⟩ b) = sub binary64 (float a) (float b)
  float (a ⟨*⟩ b) = mul binary64 (float a) (float b)
  float (⟨-⟩ a) = F.neg (float a)

  abbrev pub number : Form → ℚ
  number (leaf i) = (get v i).t
  number (a ⟨+⟩ b) = number a + number b
  number (a ⟨-⟩ b) = number a - number b
  number (a ⟨*⟩ b) = number a * number b
  number (⟨-⟩ a) = neg (number a)

  abbrev pub size : Form → Frac
  size (leaf i) = (get v i).b
  size (a ⟨+⟩ b) = (size a +ᶠ size b) *ᶠ grown
  size (a ⟨-⟩ b) = (size a +ᶠ size b) *ᶠ grown
  size (a ⟨*⟩ b) = size a *ᶠ size b *ᶠ grown +ᶠ tiny
  size (⟨-⟩ a) = size a

  abbrev pub error : Form → Frac
  error (leaf i) = (get v i).e
  error (a ⟨+⟩ b) = (size a +ᶠ size b) *ᶠ u +ᶠ (error a +ᶠ error b)
  error (a ⟨-⟩ b) = (size a +ᶠ size b) *ᶠ u +ᶠ (error a +ᶠ error b)
  error (a ⟨*⟩ b) = size a *ᶠ size b *ᶠ u +ᶠ tiny +ᶠ (size a *ᶠ error b +ᶠ error a *ᶠ size b)
  error (⟨-⟩ a) = error a

  -- nothing overflows
  abbrev pub fine : Form → Bool
  fine (leaf i) = true
  fine (a ⟨+⟩ b) = fine a && fine b && size a +ᶠ size b ≤ᵇ limit
  fine (a ⟨-⟩ b) = fine a && fine b && size a +ᶠ size b ≤ᵇ limit
  fine (a ⟨*⟩ b) = fine a && fine b && size a *ᶠ size b ≤ᵇ limit
  fine (⟨-⟩ a) = fine a

  sound : (f : Form) → T (fine f) → Approx (float f) (number f) (size f) (error f)
  sound (leaf i) t = (get v i).holds
  sound (a ⟨+⟩ b) t = let s = and_l (fine a && fine b) _ t in plus (sound a (and_l (fine a) _ s)) (sound b (and_r (fine a) _ s)) (and_r (fine a && fine b) _ t)
  sound (a ⟨-⟩ b) t = let s = and_l (fine a && fine b) _ t in minus (sound a (and_l (fine a) _ s)) (sound b (and_r (fine a) _ s)) (and_r (fine a && fine b) _ t)
  sound (a ⟨*⟩ b) t = let s = and_l (fine a && fine b) _ t in times (sound a (and_l (fine a) _ s)) (sound b (and_r (fine a) _ s)) (and_r (fine a && fine b) _ t)
  sound (⟨-⟩ a) t = opposite (sound a t)

  -- within the bounds b and e
  abbrev pub meets : Frac → Frac → Form → Bool
  meets b e f = fine f && size f ≤ᵇ b && error f ≤ᵇ e

  met : {b e : Frac} (f : Form) → T (meets b e f) → Approx (float f) (number f) b e
  met {b} {e} f t = let s = and_l (fine f && size f ≤ᵇ b) _ t in looser (sound f (and_l (fine f) _ s)) (and_r (fine f) _ s) (and_r (fine f && size f ≤ᵇ b) _ t)

  abbrev pub floats4 : Quat Form → Quat Float
  floats4 q = record { x = float q.x; y = float q.y; z = float q.z; w = float q.w }

  abbrev pub numbers4 : Quat Form → Quat ℚ
  numbers4 q = record { x = number q.x; y = number q.y; z = number q.z; w = number q.w }

  abbrev pub meets4 : Frac → Frac → Quat Form → Bool
  meets4 b e q = meets b e q.x && meets b e q.y && meets b e q.z && meets b e q.w

  met4 : {b e : Frac} (q : Quat Form) → T (meets4 b e q) → Approxs (floats4 q) (numbers4 q) b e
  met4 {b} {e} q t =
      let x = meets b e q.x in
      let y = meets b e q.y in
      let z = meets b e q.z in
      let xyz = and_l (x && y && z) _ t in
      let xy = and_l (x && y) z xyz in
      record { x = met q.x (and_l x y xy); y = met q.y (and_r x y xy); z = met q.z (and_r (x && y) z xyz); w = met q.w (and_r (x && y && z) _ t) }

pub analyse : {b e : Frac} (v : Leaves) (f : Over v Form) → T (meets v b e (fill Form zero v f)) → Approx (float v (fill Form zero v f)) (number v (fill Form zero v f)) b e
analyse v f = met v (fill Form zero v f)

pub analyse4 : {b e : Frac} (v : Leaves) (f : Over v (Quat Form)) → T (meets4 v b e (fill (Quat Form) zero v f)) → Approxs (floats4 v (fill (Quat Form) zero v f)) (numbers4 v (fill (Quat Form) zero v f)) b e
analyse4 v f = met4 v (fill (Quat Form) zero v f)
