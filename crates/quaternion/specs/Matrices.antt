-- Quaternions and matrices into each other, by glam's float steps.
use Rattle.std.specs.Prelude.{Float}
use Rattle.numeric.specs.Floats.{◌⊕◌, ◌⊖◌, ◌⊗◌, one}
use Rattle.vectors.specs.Vectors.{vec3}
use Rattle.vectors.specs.Vectors as V
use Rattle.euler.specs.declared.EulerRot.{EulerRot}
use Rattle.matrix.specs.Matrices.{matrix}
use Rattle.matrix.specs.Angles.{Angles, to_euler, pole}
use Rattle.matrix.specs.declared.dmat3.DMat3.{DMat3}
use Rattle.quaternion.specs.declared.dquat.DQuat.{DQuat}
use Rattle.quaternion.specs.Quaternions.{whole}
use Rattle.quaternion.specs.Axes.{from_axes}

-- the columns (1 − 2(yy + zz), 2(xy + wz), 2(xz − wy)), …: each product of a part with the double of another
unfoldable pub to_matrix : DQuat → DMat3
to_matrix q =
    let double : Float → Float = λ a. a ⊕ a in
    let xx = q.x ⊗ double q.x in
    let xy = q.x ⊗ double q.y in
    let xz = q.x ⊗ double q.z in
    let yy = q.y ⊗ double q.y in
    let yz = q.y ⊗ double q.z in
    let zz = q.z ⊗ double q.z in
    let wx = q.w ⊗ double q.x in
    let wy = q.w ⊗ double q.y in
    let wz = q.w ⊗ double q.z in
    matrix (vec3 (one ⊖ (yy ⊕ zz)) (xy ⊕ wz) (xz ⊖ wy)) (vec3 (xy ⊖ wz) (one ⊖ (xx ⊕ zz)) (yz ⊕ wx)) (vec3 (xz ⊕ wy) (yz ⊖ wx) (one ⊖ (xx ⊕ yy)))

abbrev pub of_matrix : DMat3 → DQuat
of_matrix m = whole (from_axes (V.parts m.x_axis) (V.parts m.y_axis) (V.parts m.z_axis))

abbrev pub to_angles : DQuat → EulerRot → Angles
to_angles q n = to_euler pole (to_matrix q) n
