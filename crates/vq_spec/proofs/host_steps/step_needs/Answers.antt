use Rattle.std.proofs.Common.{◌≡◌, ◌∷◌, [], ◌∙◌, IfOk, ap, subst, sym}
use Rattle.vq_model.specs.Lowering.{step_needs}
use Rattle.vq_spec.proofs.HostJobs.{fence_need_is}
use Rattle.vq_spec.proofs.host_steps.step_needs.Goals as goal

pub returns-in-FenceWait : goal.returns-in-FenceWait
returns-in-FenceWait c = λ s j k.
    let line = c.args.host.now.line in
    subst (λ ns. IfOk c.fence_needs.result (λ needs. needs ≡ ns))
    (ap (λ n. n ∷ []) (fence_need_is s j c.args.states.now k line c.in-FenceWait.fence
    (c.requires.waited c.in-FenceWait.fence c.in-FenceWait.is))
    ∙ ap (step_needs s j line) (sym c.in-FenceWait.is)) c.fence_needs.ensures
