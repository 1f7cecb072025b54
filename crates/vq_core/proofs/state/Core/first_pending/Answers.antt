use Rattle.std.proofs.Common.{◌∙◌, sym, ap, arith}
use Rattle.std.specs.List.{slice_get}
use Rattle.vq_model.specs.Plan.{chain}
use Rattle.vq_core_laws.proofs.Cited.{pending_at, none_pending}
use Rattle.vq_core.specs.CoreState.{world}
use Rattle.vq_core.proofs.state.Core.first_pending.Goals as goal

pub returns-then-index-bound : goal.returns-then-index-bound
returns-then-index-bound c =
    let s = c.args.self.now in
    let l = c.timeline-timeline.result.now in
    let a = c.completed-index.ensures in
    let b = c.bound.ensures in
    let most = c.if-index-bound.true in
    sym (none_pending s.plan (world s) c.args.chain l c.timeline-timeline.ensures.lists (omega arith))

pub returns : goal.returns
returns c =
    let s = c.args.self.now in
    let l = c.timeline-timeline.result.now in
    let a = c.completed-index.ensures in
    let b = c.bound.ensures in
    let less = c.if-index-bound.false in
    sym (pending_at s.plan (world s) c.args.chain l c.timeline-timeline.ensures.lists c.op_at.result (omega arith)
    (ap (slice_get (chain s.plan c.args.chain)) (sym a) ∙ c.op_at.ensures))
