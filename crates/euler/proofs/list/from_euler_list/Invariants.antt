use Rattle.std.proofs.Common.{◌≡◌, length, take, drop, None}
use Rattle.euler.specs.Lists.{first_fault, Converted}
use Rattle.euler.proofs.list.from_euler_list.Given as goal

abbrev pub invariant-loop-a : goal.invariant-loop-a
invariant-loop-a g l = first_fault (g.R.FromEuler.refusal l.order) (take l.a-index l.angles) ≡ None

abbrev pub invariant-loop-i : goal.invariant-loop-i
invariant-loop-i g l =
    (first_fault (g.R.FromEuler.refusal l.order) l.angles ≡ None)
    × Converted (g.R.FromEuler.rotation l.order) l.i l.angles l.out
    × (drop (length l.angles) l.out ≡ drop (length l.angles) l.initial.out)
