-- The columns of an Euler order's matrix in floats, by glam's steps: the images of X, Y and Z.
use Rattle.std.specs.Prelude.{Bool, true, false, cond, ◌==◌, Float}
use Rattle.exact.specs.Quat.{Ops}
use Rattle.exact.specs.Vector.{Vec, vec}
use Rattle.rounding.specs.Value.{floats}
use Rattle.numeric.specs.Sine.{sin_float, cos_float}
use Rattle.euler.specs.Orders.{index, second, signed}
use Rattle.euler.specs.declared.Axis.{Axis}
use Rattle.euler.specs.declared.Axis.TheVariants.{X, Y, Z}
use Rattle.euler.specs.declared.Order.{Order}

-- nine numbers by the axes i, j and k: first the column, then the row
pub record Nine (A : Type 0) : Type 0 where
  pub ii : A
  pub ij : A
  pub ik : A
  pub ji : A
  pub jj : A
  pub jk : A
  pub ki : A
  pub kj : A
  pub kk : A

module _ {A : Type 0} (O : Ops A) where
  infixl 60 ◌+ᵒ◌ ◌-ᵒ◌
  infixl 70 ◌*ᵒ◌
  open O use {◌+ᵒ◌, ◌-ᵒ◌, ◌*ᵒ◌}

  -- from the sines and cosines of the three angles, where the last letter repeats the first, and where it does not
  abbrev pub nine : Bool → A × A → A × A → A × A → Nine A
  nine true a b c = record {
    ii = b.1;
    ij = b.0 *ᵒ a.0;
    ik = b.0 *ᵒ a.1;
    ji = b.0 *ᵒ c.0;
    jj = O.neg b.1 *ᵒ (a.0 *ᵒ c.0) +ᵒ a.1 *ᵒ c.1;
    jk = O.neg b.1 *ᵒ (a.1 *ᵒ c.0) -ᵒ a.0 *ᵒ c.1;
    ki = O.neg b.0 *ᵒ c.1;
    kj = b.1 *ᵒ (a.0 *ᵒ c.1) +ᵒ a.1 *ᵒ c.0;
    kk = b.1 *ᵒ (a.1 *ᵒ c.1) -ᵒ a.0 *ᵒ c.0;
  }
  nine false a b c = record {
    ii = b.1 *ᵒ c.1;
    ij = b.0 *ᵒ (a.0 *ᵒ c.1) -ᵒ a.1 *ᵒ c.0;
    ik = b.0 *ᵒ (a.1 *ᵒ c.1) +ᵒ a.0 *ᵒ c.0;
    ji = b.1 *ᵒ c.0;
    jj = b.0 *ᵒ (a.0 *ᵒ c.0) +ᵒ a.1 *ᵒ c.1;
    jk = b.0 *ᵒ (a.1 *ᵒ c.0) -ᵒ a.0 *ᵒ c.1;
    ki = O.neg b.0;
    kj = b.1 *ᵒ a.0;
    kk = b.1 *ᵒ a.1;
  }

-- which of i, j and k an axis is
abbrev pub pick : {A : Type 0} → Order → Axis → A → A → A → A
pick o a i j k = cond (index a == index o.initial_axis) i (cond (index a == index (second o)) j k)

abbrev pub placed_column : {A : Type 0} → Order → Nine A → Axis → Vec A
placed_column {A} o n c =
    let row : Axis → A = λ r. pick o c (pick o r n.ii n.ij n.ik) (pick o r n.ji n.jj n.jk) (pick o r n.ki n.kj n.kk) in
    vec (row X) (row Y) (row Z)

abbrev pub sin_cos : Float → Float × Float
sin_cos t = (sin_float t, cos_float t)

-- with Ex the angles are read backwards; all are taken at the opposite where the parity is even
abbrev pub column : Order → Float → Float → Float → Axis → Vec Float
column o x y z =
    let ends : Float × Float = cond o.frame_static (x, z) (z, x) in
    let even = o.parity_even in
    placed_column o (nine floats o.initial_repeated (sin_cos (signed even ends.0)) (sin_cos (signed even y)) (sin_cos (signed even ends.1)))
