use Rattle.std.proofs.Common.{◌++◌, ◌∷◌, [], Some, length, subst, sym, ◌∙◌, arith}
use Rattle.vq_model.specs.SlowRun.{is_ready}
use Rattle.vq_spec.specs.SlowProgress.{IsLeastOf}
use Rattle.vq_spec.proofs.SlowHeads.{least_kept, least_leave, least_take}
use Rattle.vq_spec.proofs.progress.SlowState.with_head.Goals as goal

pub returns-then-head-jobs : goal.returns-then-head-jobs
returns-then-head-jobs c =
    let p = c.args.plan.now in
    let v = c.jobs.ensures in
    let h = c.if-head-jobs.true in
    λ heads k. least_leave (is_ready p c.args.self.now.order.items) (length p.jobs) heads c.args.head c.args.lowest (λ l. absurd (omega arith)) k

pub returns-then-is_passed : goal.returns-then-is_passed
returns-then-is_passed c =
    let p = c.args.plan.now in
    λ heads k. least_kept (is_ready p c.args.self.now.order.items) (length p.jobs) heads c.args.head c.args.lowest (sym c.is_passed.ensures ∙ c.if-is_passed.true) k

pub returns-then-not-is_ready : goal.returns-then-not-is_ready
returns-then-not-is_ready c =
    let p = c.args.plan.now in
    λ heads k. least_leave (is_ready p c.args.self.now.order.items) (length p.jobs) heads c.args.head c.args.lowest (λ l. sym c.is_ready.ensures ∙ c.if-not-is_ready.true) k

pub returns : goal.returns
returns c =
    let p = c.args.plan.now in
    let test = is_ready p c.args.self.now.order.items in
    let inside = c.if-head-jobs.false in
    let v = c.jobs.ensures in
    λ heads k. subst (λ m. IsLeastOf test (length p.jobs) (heads ++ c.args.head ∷ []) (Some m)) (sym c.lower.ensures)
    (least_take test (length p.jobs) heads c.args.head c.args.lowest (omega arith) (sym c.is_ready.ensures ∙ c.if-not-is_ready.false) k)
