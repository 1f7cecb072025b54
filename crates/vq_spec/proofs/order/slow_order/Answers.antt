use Rattle.std.proofs.Common.{◌∙◌, ap, filter, length, not, arith}
use Rattle.std.specs.List.{range_with_len}
use Rattle.vq_plan_laws.proofs.Cited.{plan_lanes}
use Rattle.vq_spec.specs.SlowProgress.{is_marked}
use Rattle.vq_spec.proofs.SlowLeft.{left_is}
use Rattle.vq_spec.proofs.order.slow_order.Goals as goal

pub unmarked-requires : goal.unmarked-requires
unmarked-requires c =
    let come = c.in_ok-order.ensures.come in
    omega (
      arith,
      ap length c.as_slice.ensures.value,
      come.progress.marks_right.count,
      (plan_lanes c.args.plan.now come.plan).few_jobs,
    )

pub returns-clause-stuck : goal.returns-clause-stuck
returns-clause-stuck c =
    let p = c.args.plan.now in
    let s = c.in_ok-order.field-0 in
    let come = c.in_ok-order.ensures.come in
    c.in_ok-stuck.ensures {u = tt}
    ∙ (ap (λ marks. filter (λ j. not (is_marked marks j)) (range_with_len 0 (length marks))) c.as_slice.ensures.value
    ∙ left_is p s.order.items s.marks.items c.in_ok-order.ensures.order come.progress.marks_right)
