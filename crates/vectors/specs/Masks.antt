-- Masks, and an index that is too high.
use Rattle.std.specs.Prelude.{ℕ, zero, suc, ◌+◌, ◌*◌, Bool, true, false, ◌&&◌, ◌||◌, Option, nat_lt}
use Rattle.fault.specs.Answers.{unless}
use Rattle.fault.specs.declared.RotationFault.{RotationFault}
use Rattle.fault.specs.declared.RotationFault.TheVariants.{TooShort}
use Rattle.vectors.specs.declared.bvec4.BVec4.{BVec4}

abbrev pub mask : Bool → Bool → Bool → Bool → BVec4
mask x y z w = record { x = x; y = y; z = z; w = w }

abbrev pub every : BVec4 → Bool
every m = m.x && m.y && m.z && m.w

abbrev pub some : BVec4 → Bool
some m = m.x || m.y || m.z || m.w

abbrev pub bit : Bool → ℕ
bit true = 1
bit false = 0

abbrev pub number : BVec4 → ℕ
number m = bit m.x + bit m.y * 2 + bit m.z * 4 + bit m.w * 8

-- an index among n, as argument 1 after the receiver
abbrev pub index_fault : ℕ → ℕ → Option RotationFault
index_fault n i = unless (nat_lt i n) (TooShort 1)

abbrev pub chosen : BVec4 → ℕ → Bool
chosen m zero = m.x
chosen m (suc zero) = m.y
chosen m (suc (suc zero)) = m.z
chosen m (suc (suc (suc i))) = m.w
