use Rattle.std.proofs.Common.{None, ap, ◌∙◌}
use Rattle.std.specs.Option.{option_map_or}
use Rattle.vq_order.proofs.PendingLaws.{step_here, sure_by_last, sure_of_none}
use Rattle.vq_order.proofs.pending.is_sure_before.Goals as goal

pub is_sure-requires-clause-second : goal.is_sure-requires-clause-second
is_sure-requires-clause-second c =
    step_here c.args.order.now c.job.ensures.complete.plan c.args.j c.in-Some.step c.requires.exists
    (ap (λ o. option_map_or (λ x. x.host_before) o None) c.job.ensures.value ∙ c.in-Some.is)

pub returns-in-Some : goal.returns-in-Some
returns-in-Some c =
    sure_by_last c.args.order.now c.job.ensures.complete c.args.op c.args.j c.requires.exists c.requires.immediate c.in-Some.step
    (ap (λ o. option_map_or (λ x. x.host_before) o None) c.job.ensures.value ∙ c.in-Some.is) c.is_sure.result c.is_sure.ensures

pub returns-in-None : goal.returns-in-None
returns-in-None c =
    sure_of_none c.args.order.now c.job.ensures.complete c.args.op c.args.j c.requires.exists c.requires.immediate
    (ap (λ o. option_map_or (λ x. x.host_before) o None) c.job.ensures.value ∙ c.in-None.is)
