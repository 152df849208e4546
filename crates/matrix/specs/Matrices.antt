-- Matrices by their columns.
use Rattle.std.specs.Prelude.{ℕ, zero, suc, Bool, ◌&&◌, List, [], Option, slice_index_or, Float}
use Rattle.fault.specs.Answers.{unless, ◌⨾◌}
use Rattle.fault.specs.declared.NumberFault.TheVariants.{NotFinite}
use Rattle.fault.specs.declared.RotationFault.{RotationFault}
use Rattle.fault.specs.declared.RotationFault.TheVariants.{Number, NotNormalized}
use Rattle.exact.specs.Vector.{dot3}
use Rattle.rounding.specs.Value.{floats}
use Rattle.vectors.specs.Vectors.{parts, listed3, component, finite3, unit}
use Rattle.vectors.specs.declared.dvec3.DVec3.{DVec3}
use Rattle.matrix.specs.declared.dmat3.DMat3.{DMat3}

abbrev pub matrix : DVec3 → DVec3 → DVec3 → DMat3
matrix x y z = record { x_axis = x; y_axis = y; z_axis = z }

-- a table of columns
abbrev pub listed : List (List Float) → DMat3
listed m = matrix (listed3 (slice_index_or m 0 [])) (listed3 (slice_index_or m 1 [])) (listed3 (slice_index_or m 2 []))

abbrev pub column : DMat3 → ℕ → DVec3
column m zero = m.x_axis
column m (suc zero) = m.y_axis
column m (suc (suc c)) = m.z_axis

-- in column c and row r
abbrev pub entry : DMat3 → ℕ → ℕ → Float
entry m c r = component (column m c) r

abbrev pub finite9 : DMat3 → Bool
finite9 m = finite3 (parts m.x_axis) && finite3 (parts m.y_axis) && finite3 (parts m.z_axis)

abbrev pub square : DVec3 → Float
square v = dot3 floats (parts v) (parts v)

-- 1, then 3
abbrev pub axes_fault : DMat3 → Option RotationFault
axes_fault m = unless (finite9 m) (Number (NotFinite 0)) ⨾ unless (unit (square m.x_axis) && unit (square m.y_axis) && unit (square m.z_axis)) (NotNormalized 0)
