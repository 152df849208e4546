-- A list of triples of angles, and the list of their rotations.
use Rattle.std.specs.Prelude.{◌≡◌, ℕ, ◌<◌, List, [], ◌∷◌, length, get_or, drop, Some, None, Ok, Err, Option, Result, nat_le, slice_index_or, Float}
use Rattle.fault.specs.Answers.{unless, ◌⨾◌}
use Rattle.fault.specs.declared.RotationFault.{RotationFault}
use Rattle.fault.specs.declared.RotationFault.TheVariants.{TooShort}

abbrev pub Triple : Type 0
Triple = Float × Float × Float

-- the fault of the first triple that has one
abbrev pub first_fault : (Float → Float → Float → Option RotationFault) → List Triple → Option RotationFault
first_fault f [] = None
first_fault f (t ∷ ts) = f t.0 t.1 t.2 ⨾ first_fault f ts

-- the first n places hold the rotations of the first n triples
abbrev pub Converted : {R : Type 0} → (Float → Float → Float → R) → ℕ → List Triple → List R → Type 0
Converted {R} rotation n ts qs = (k : ℕ) (t : Triple) (d : R) → k < n → slice_index_or qs k d ≡ rotation (get_or ts k t).0 (get_or ts k t).1 (get_or ts k t).2

-- on a refusal nothing is written; else the rotations stand first, and what follows is as it was
abbrev pub ListedBy : {R : Type 0} → Option RotationFault → (Float → Float → Float → R) → List Triple → List R → Result ℕ RotationFault → List R → Type 0
ListedBy (Some f) rotation ts before r after = (r ≡ Err f) × (after ≡ before)
ListedBy None rotation ts before r after = (r ≡ Ok (length ts)) × Converted rotation (length ts) ts after × (drop (length ts) after ≡ drop (length ts) before)

abbrev pub list_fault : {R : Type 0} → (Float → Float → Float → Option RotationFault) → List Triple → List R → Option RotationFault
list_fault f ts out = unless (nat_le (length ts) (length out)) (TooShort 2) ⨾ first_fault f ts

abbrev pub Listed : {R : Type 0} → (Float → Float → Float → Option RotationFault) → (Float → Float → Float → R) → List Triple → List R → Result ℕ RotationFault → List R → Type 0
Listed f rotation ts before r after = ListedBy (list_fault f ts before) rotation ts before r after
