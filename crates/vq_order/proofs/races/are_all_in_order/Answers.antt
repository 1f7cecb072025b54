use Rattle.std.proofs.Common.{◌≤◌, arith}
use Rattle.vq_order.proofs.AccessLaws.{access_at, all_next, job_in_order, job_stays, own_job}
use Rattle.vq_order.proofs.races.are_all_in_order.Goals as goal

pub loop-c-init : goal.loop-c-init
loop-c-init c = (
  (λ a l. absurd (omega arith)),
  own_job c.args.order.now c.args.accesses.now c.args.d,
)

pub are_in_order-requires-clause-first : goal.are_in_order-requires-clause-first
are_in_order-requires-clause-first c =
    let l = c.requires.exists in
    let m = c.loop-c-test.true in
    (access_at c.args.order.now c.args.accesses.now c.requires.accesses c.loop-c.c (omega arith)).of_job

pub are_in_order-requires-clause-second : goal.are_in_order-requires-clause-second
are_in_order-requires-clause-second c = (access_at c.args.order.now c.args.accesses.now c.requires.accesses c.args.d c.requires.exists).of_job

pub loop-c-preserved-then-other-in_order : goal.loop-c-preserved-then-other-in_order
loop-c-preserved-then-other-in_order c =
    let p = c.args.order.now in
    let xs = c.args.accesses.now in
    let here = c.loop-c.c in
    let d = c.args.d in
    let low : here ≤ here = omega arith in (
      all_next p xs here d (c.loop-c.invariant.1 here low c.loop-c-test.true c.if-other-in_order.true) c.loop-c.invariant.0,
      job_stays p xs c.loop-c.in_order here d c.loop-c.invariant.1,
    )

pub loop-c-preserved : goal.loop-c-preserved
loop-c-preserved c =
    let p = c.args.order.now in
    let xs = c.args.accesses.now in
    let here = c.loop-c.c in
    let d = c.args.d in
    let o = c.are_in_order.ensures.0 c.if-not-are_in_order.false in (
      all_next p xs here d o c.loop-c.invariant.0,
      job_in_order p c.requires.accesses.plan xs c.requires.accesses here d c.loop-c-test.true c.requires.exists o,
    )
