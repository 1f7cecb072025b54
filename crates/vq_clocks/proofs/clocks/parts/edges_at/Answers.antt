use Rattle.vq_model.specs.Edges.{must_finish}
use Rattle.vq_plan_laws.proofs.Cited.{plan_semaphores}
use Rattle.vq_clocks.proofs.NeedChains.{need_chain}
use Rattle.vq_clocks.proofs.PartLaws.{jobs_more, no_need}
use Rattle.vq_clocks.proofs.clocks.parts.edges_at.Goals as goal

pub push_resolving-requires-clause-chain : goal.push_resolving-requires-clause-chain
push_resolving-requires-clause-chain c =
    need_chain c.args.plan.now (plan_semaphores c.args.plan.now c.requires.plan) c.args.j c.job-job.result.now c.job-job.ensures c.as_slice-need-items.result.now c.as_slice-need-items.ensures c.loop-need.need-index no_need c.loop-need-test.true

pub loop-need-preserved : goal.loop-need-preserved
loop-need-preserved c =
    jobs_more c.args.plan.now c.args.place c.loop-need.need-index c.loop-need.edges.items c.push_resolving.new.edges.items (must_finish c.args.plan.now c.args.j) c.as_slice-need-items.result.now c.loop-need-test.true c.loop-need.invariant c.in_ok-push_resolving.ensures
