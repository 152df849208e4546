use Rattle.std.proofs.Common.{◌≡◌, Some, None, Err, sym, refl, ap, ◌∙◌, subst, add-one, arith, take_all}
use lib.Ieee.{nan}
use Rattle.std.proofs.lemmas.Result.{err_from_is_err_and}
use Rattle.euler.specs.Lists.{first_fault}
use Rattle.fault.proofs.Tests.{answered, refused, accepted}
use Rattle.euler.proofs.Lists.{first_more, first_here, none_at, converted_more, rest_kept, listed}
use Rattle.euler.proofs.list.from_euler_list.Goals as goal

pub returns-in_err-from_euler_angles : goal.returns-in_err-from_euler_angles
returns-in_err-from_euler_angles g c =
    let f = g.R.FromEuler.refusal c.args.order in
    let p = err_from_is_err_and c.from_residual.result c.from_residual.ensures.1 in
    let x = c.in_err-from_euler_angles.field-0.0 in
    let e = refused _ _ x c.in_err-from_euler_angles.ensures in
    listed f (g.R.FromEuler.rotation c.args.order) c.args.angles.now c.args.out.now c.from_residual.result c.args.out.now (Some x)
    c.if-out-angles.false
    (first_here f c.args.angles.now c.loop-a.a-index (nan, nan, nan) x c.loop-a-test.true c.loop-a.invariant e)
    (p.1 ∙ ap Err p.2, refl)

pub loop-a-preserved : goal.loop-a-preserved
loop-a-preserved g c =
    let e = answered _ _ c.in_ok-from_euler_angles.field-0 c.in_ok-from_euler_angles.ensures in
    rw add-one (first_more (g.R.FromEuler.refusal c.args.order) c.args.angles.now c.loop-a.a-index _ c.loop-a-test.true c.loop-a.invariant e.0)

pub loop-i-init : goal.loop-i-init
loop-i-init g c = (
  subst (λ l. first_fault (g.R.FromEuler.refusal c.args.order) l ≡ None) (take_all c.loop-a.a-index c.args.angles.now c.loop-a-test.false) c.loop-a.invariant,
  (λ k t d h. absurd (omega arith)),
  refl,
)

pub unwrap-requires : goal.unwrap-requires
unwrap-requires g c =
    let n = none_at (g.R.FromEuler.refusal c.args.order) c.args.angles.now c.loop-i.i (nan, nan, nan) c.loop-i-test.true c.loop-i.invariant.0 in
    accepted _ _ _ n c.from_euler_angles-in-loop-i.ensures

pub loop-i-preserved : goal.loop-i-preserved
loop-i-preserved g c = (
  c.loop-i.invariant.0,
  converted_more (g.R.FromEuler.rotation c.args.order) c.loop-i.i c.args.angles.now c.loop-i.out c.unwrap.result (nan, nan, nan) c.loop-i-test.true (omega arith) c.loop-i.invariant.1
      (answered _ _ c.unwrap.result (sym c.unwrap.ensures ∙ c.from_euler_angles-in-loop-i.ensures)).1,
  rest_kept c.loop-i.out c.args.out.now c.loop-i.i _ c.unwrap.result c.loop-i-test.true c.loop-i.invariant.2,
)

pub returns : goal.returns
returns g c =
    listed (g.R.FromEuler.refusal c.args.order) (g.R.FromEuler.rotation c.args.order) c.args.angles.now c.args.out.now _ c.loop-i.out None c.if-out-angles.false c.loop-i.invariant.0
    (refl, (λ k t d h. c.loop-i.invariant.1 k t d (omega arith)), c.loop-i.invariant.2)
