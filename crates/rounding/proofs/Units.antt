-- The rounding lemma, for either format: how far `round` moves a fraction.
-- In units of the format's smallest value the fraction num / den is n / den with n = num * 2 ^ low, and the rounded value is g, a whole number of units.
use Rattle.std.proofs.Common.{◌≡◌, ℕ, suc, ◌+◌, ◌-◌, ◌*◌, ◌/◌, ◌%◌, ◌^◌, ◌<◌, ◌≤◌, max, Bool, not, T, eqb, ◌⊎◌, sym, refl, ap, ◌∙◌, subst, inl, inr, mul-le-mul_right, mod-lt, eq-zero-or-pos, lt_of_mul-lt-mul_right, mul-le-mul_left, mul-pos, div-add-mod', le-div_iff_mul-le, mul-one, le_of_mul-le-mul_right, arith, eqb→eq, leb→le, pow_pos, pow-add}
use Prim.Native.Nat.{compare, Ordering}
use native.Mathlib.Nat.{pow-succ'}
use lib.Dec.{is_le, compare_is_eq, nleb→lt, eqb_refl}
use lib.Arith.{lt_of_le-ne}
use lib.Ieee.{Float, Format, prec, emax, low, size, nearest, round}
use lib.Ieee.Digits.{size_reaches}
use lib.Ieee.Fits.{round_is, two, two-le_pos}
use lib.Ieee.Exact.{HasValue, units_val}
use lib.Ieee.Nearest.{closest}
use lib.Ieee.Order.{drop, kept}
use lib.Ieee.Scale.{grid, overflow}
use lib.Ieee.Positive.{first_pos}

-- ---- what `compare` says
abbrev Cmp : Ordering → ℕ → ℕ → Type 0
Cmp Ordering.lt a b = a < b
Cmp Ordering.eq a b = a ≡ b
Cmp Ordering.gt a b = b < a

cmp : (a b : ℕ) → Cmp (compare a b) a b
cmp a b = go (compare a b) (leb→le a b) (nleb→lt a b) (eqb→eq a b) (λ (e : a ≡ b). subst (λ (x : ℕ). T (eqb a x)) e (eqb_refl a))
  where
    go : (o : Ordering) → (T (is_le o) → a ≤ b) → (T (not (is_le o)) → b < a) → (T (compare_is_eq o) → a ≡ b) → (a ≡ b → T (compare_is_eq o)) → Cmp o a b
    go Ordering.lt h k e n = lt_of_le-ne (h tt) n
    go Ordering.eq h k e n = e tt
    go Ordering.gt h k e n = k tt

-- ---- `closest n u` is within half of n / u
abbrev Half : ℕ → ℕ → ℕ → Type 0
Half n u c = (c * u * 2 ≤ n * 2 + u) × (n * 2 ≤ c * u * 2 + u)

parity : (q u : ℕ) → q % 2 * u ≤ u
parity q u = let h : q % 2 ≤ 1 = omega arith in omega (arith, mul-le-mul_right u h)

half_by : (q r u : ℕ) (o : Ordering) → Cmp o (r * 2) u → r < u → Half (q * u + r) u (nearest q o)
half_by q r u Ordering.lt c l = omega arith
half_by q r u Ordering.eq c l = omega (arith, parity q u)
half_by q r u Ordering.gt c l = omega arith

closest_half : (n u : ℕ) → 0 < u → Half n u (closest n u)
closest_half n u U = subst (λ (x : ℕ). Half x u (closest n u)) (div-add-mod' n u) (half_by (n / u) (n % u) u (compare (n % u * 2) u) (cmp (n % u * 2) u) (mod-lt n U))

-- ---- the unit: no digit is dropped, or the fraction has all p digits
all_in : (z p : ℕ) → 0 < p → 0 < z - p → p - 1 + (z - p) < z
all_in z p P h = omega arith

long : (p n den : ℕ) → 0 < p → 0 < den → 0 < drop p n den → 2 ^ (p - 1) * (den * 2 ^ drop p n den) ≤ n
long p n den P D K =
    let k = drop p n den in
    let a : 2 ^ (p - 1 + k) * den ≤ n = (le-div_iff_mul-le D).0 (size_reaches (n / den) (p - 1 + k) (all_in (size (n / den)) p P K)) in
    omega (arith, ap (λ (x : ℕ). x * den) (pow-add 2 (p - 1) k))

-- ---- the two together. h is 2 ^ (p - 1)
-- g / 1 lies within max (n / den / (2 * h), 1 / 2) of n / den
abbrev pub Near : ℕ → ℕ → ℕ → ℕ → Type 0
Near h n den g = (2 * h * (g * den) ≤ 2 * h * n + max n (h * den)) × (2 * h * n ≤ 2 * h * (g * den) + max n (h * den))

join : (h n den k c g e : ℕ) → g ≡ c * k → Half n (den * k) c → h * (den * k) ≤ e → (2 * h * (g * den) ≤ 2 * h * n + e) × (2 * h * n ≤ 2 * h * (g * den) + e)
join h n den k c g e G H E =
    let v : g * den ≡ c * (den * k) = omega (arith, ap (λ (x : ℕ). x * den) G) in
    let w : h * (g * den) ≡ h * (c * (den * k)) = ap (λ (x : ℕ). h * x) v in
    let a : h * (c * (den * k) * 2) ≤ h * (n * 2 + den * k) = mul-le-mul_left h H.0 in
    let b : h * (n * 2) ≤ h * (c * (den * k) * 2 + den * k) = mul-le-mul_left h H.1 in
    omega arith

by_drop : (h n den k c : ℕ) → (k ≡ 0) ⊎ (h * (den * 2 ^ k) ≤ n) → Half n (den * 2 ^ k) c → Near h n den (c * 2 ^ k)
by_drop h n den k c (inl z) H =
    let o : 2 ^ k ≡ 1 = ap (λ (x : ℕ). 2 ^ x) z in
    let e : h * (den * 2 ^ k) ≡ h * den = ap (λ (x : ℕ). h * (den * x)) o ∙ ap (λ (x : ℕ). h * x) (mul-one den) in
    join h n den (2 ^ k) c (c * 2 ^ k) (max n (h * den)) refl H (omega arith)
by_drop h n den k c (inr l) H = join h n den (2 ^ k) c (c * 2 ^ k) (max n (h * den)) refl H (omega arith)

either : (k : ℕ) (P : Type 0) → (0 < k → P) → (k ≡ 0) ⊎ P
either k P f = elim (eq-zero-or-pos k) [ inl z ↦ inl z | inr p ↦ inr (f p) ]

drop_or_long : (p n den : ℕ) → 0 < p → 0 < den → (drop p n den ≡ 0) ⊎ (2 ^ (p - 1) * (den * 2 ^ drop p n den) ≤ n)
drop_or_long p n den P D = either (drop p n den) (2 ^ (p - 1) * (den * 2 ^ drop p n den) ≤ n) (long p n den P D)

pub grid_near : (f : Format) (num den : ℕ) → 0 < den → Near (2 ^ (prec f - 1)) (num * 2 ^ low f) den (grid f num den)
grid_near f num den D =
    let p = prec f in
    let n = num * 2 ^ low f in
    let P : 0 < p = two-le_pos p (two f) in
    by_drop (2 ^ (p - 1)) n den (drop p n den) (kept p n den) (drop_or_long p n den P D) (closest_half n (den * 2 ^ drop p n den) (mul-pos D (pow_pos (drop p n den))))

-- ---- a whole number of units is kept, or it has all the digits: a sum has no error of its own below the normal range
whole_half : (w den c : ℕ) → 0 < den → Half (w * den) (den * 1) c → c ≡ w
whole_half w den c D H =
    let a : c * den * 2 < (w + 1) * den * 2 = omega (arith, H.0) in
    let b : w * den * 2 < (c + 1) * den * 2 = omega (arith, H.1) in
    let a' : c < w + 1 = lt_of_mul-lt-mul_right den (lt_of_mul-lt-mul_right 2 a) in
    let b' : w < c + 1 = lt_of_mul-lt-mul_right den (lt_of_mul-lt-mul_right 2 b) in
    omega arith

-- g lies within w / (2 * h) of w
abbrev pub NearWhole : ℕ → ℕ → ℕ → Type 0
NearWhole h w g = (2 * h * g ≤ 2 * h * w + w) × (2 * h * w ≤ 2 * h * g + w)

cancel : (h w den g : ℕ) → 0 < den → (2 * h * (g * den) ≤ 2 * h * (w * den) + w * den) × (2 * h * (w * den) ≤ 2 * h * (g * den) + w * den) → NearWhole h w g
cancel h w den g D H =
    let a : 2 * h * g * den ≤ (2 * h * w + w) * den = omega (arith, H.0) in
    let b : 2 * h * w * den ≤ (2 * h * g + w) * den = omega (arith, H.1) in
    (le_of_mul-le-mul_right a D, le_of_mul-le-mul_right b D)

by_drop_whole : (h w den k c : ℕ) → 0 < den → (k ≡ 0) ⊎ (h * (den * 2 ^ k) ≤ w * den) → Half (w * den) (den * 2 ^ k) c → NearWhole h w (c * 2 ^ k)
by_drop_whole h w den k c D (inl z) H =
    let o : 2 ^ k ≡ 1 = ap (λ (x : ℕ). 2 ^ x) z in
    let e : c ≡ w = whole_half w den c D (subst (λ (x : ℕ). Half (w * den) (den * x) c) o H) in
    let g : c * 2 ^ k ≡ w = ap (λ (x : ℕ). c * x) o ∙ mul-one c ∙ e in
    let r : 2 * h * (c * 2 ^ k) ≡ 2 * h * w = ap (λ (x : ℕ). 2 * h * x) g in
    omega arith
by_drop_whole h w den k c D (inr l) H = cancel h w den (c * 2 ^ k) D (join h (w * den) den (2 ^ k) c (c * 2 ^ k) (w * den) refl H l)

pub grid_whole : (f : Format) (num den w : ℕ) → 0 < den → num * 2 ^ low f ≡ w * den → NearWhole (2 ^ (prec f - 1)) w (grid f num den)
grid_whole f num den w D e =
    let p = prec f in
    let n = num * 2 ^ low f in
    let P : 0 < p = two-le_pos p (two f) in
    let k = drop p n den in
    by_drop_whole (2 ^ (p - 1)) w den k (kept p n den) D (subst (λ (x : ℕ). (k ≡ 0) ⊎ (2 ^ (p - 1) * (den * 2 ^ k) ≤ x)) e (drop_or_long p n den P D))
    (subst (λ (x : ℕ). Half x (den * 2 ^ k) (kept p n den)) e (closest_half n (den * 2 ^ k) (mul-pos D (pow_pos k))))

-- ---- and nothing overflows below 2 ^ emax
under : (h n den g t : ℕ) → 0 < h → 0 < den → n < t * den → Near h n den g → g < t * 2
under h n den g t H D l N =
    let a : n ≤ h * n = omega (arith, mul-le-mul_right n H) in
    let b : h * (2 * (g * den)) ≤ h * (3 * n + den) = omega (arith, N.0) in
    let c : 2 * (g * den) ≤ 3 * n + den = native.Mathlib.Nat.le_of_mul-le-mul_left b H in
    let t0 : 0 < t = first_pos t den (omega arith) in
    let d : g * den < t * 2 * den = omega (arith, mul-le-mul_right den t0) in
    lt_of_mul-lt-mul_right den d

less : (num l e den : ℕ) → 0 < l → num < e * den → num * l < l * e * den
less num l e den L h = omega (arith, native.Mathlib.Nat.mul-lt-mul_of_pos_right h L)

twice_top : (l e : ℕ) → 2 ^ l * 2 ^ e * 2 ≡ 2 ^ (l + suc e)
twice_top l e = omega (arith, pow-add 2 l (suc e), ap (λ (x : ℕ). 2 ^ l * x) (pow-succ' 2 e))

grid_under : (f : Format) (num den : ℕ) → 0 < den → num < 2 ^ emax f * den → grid f num den < overflow f
grid_under f num den D h =
    subst (λ (x : ℕ). grid f num den < x) (twice_top (low f) (emax f))
    (under (2 ^ (prec f - 1)) (num * 2 ^ low f) den (grid f num den) (2 ^ low f * 2 ^ emax f) (pow_pos (prec f - 1)) D (less num (2 ^ low f) (2 ^ emax f) den (pow_pos (low f)) h) (grid_near f num den D))

-- The rounding lemma: below 2 ^ emax the result is finite, has the sign s, and is `grid f num den` units, which `grid_near` holds to the fraction.
pub round_finite : (f : Format) (s : Bool) (num den : ℕ) → 0 < den → num < 2 ^ emax f * den → HasValue (round f s num den) s (grid f num den) (2 ^ low f)
round_finite f s num den D h =
    subst (λ (z : Float). HasValue z s (grid f num den) (2 ^ low f)) (sym (round_is f s num den))
    (units_val f s (kept (prec f) (num * 2 ^ low f) den) (drop (prec f) (num * 2 ^ low f) den) (grid_under f num den D h))
