-- Sums and products of lists, from the first to the last.
use Rattle.std.specs.Prelude.{List, fold}
use Rattle.exact.specs.Quat.{plus, product}
use Rattle.rounding.specs.Value.{floats}
use Rattle.quaternion.specs.declared.dquat.DQuat.{DQuat}
use Rattle.numeric.specs.Floats.{zero}
use Rattle.quaternion.specs.Quaternions.{quat, parts, whole, identity}

abbrev pub added : DQuat → DQuat → DQuat
added p q = whole (plus floats (parts p) (parts q))

abbrev pub times : DQuat → DQuat → DQuat
times p q = whole (product floats (parts p) (parts q))

abbrev pub nothing : DQuat
nothing = quat zero zero zero zero

abbrev pub summed : List DQuat → DQuat
summed qs = fold added nothing qs

abbrev pub multiplied : List DQuat → DQuat
multiplied qs = fold times identity qs
