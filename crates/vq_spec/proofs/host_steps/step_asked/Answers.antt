use Rattle.std.proofs.Common.{◌≡◌, ◌∷◌, [], ◌∙◌, IfOk, ap, subst, sym}
use Rattle.vq_model.specs.Lowering.{step_asked}
use Rattle.vq_spec.proofs.HostJobs.{fence_need_is}
use Rattle.vq_spec.proofs.host_steps.step_asked.Goals as goal

pub returns-in-FencePoll : goal.returns-in-FencePoll
returns-in-FencePoll c = λ s j k.
    let line = c.args.host.now.line in
    subst (λ ns. IfOk c.fence_needs.result (λ asked. asked ≡ ns))
    (ap (λ n. n ∷ []) (fence_need_is s j c.args.states.now k line c.in-FencePoll.fence
    (c.requires.polled c.in-FencePoll.fence c.in-FencePoll.is))
    ∙ ap (step_asked s j line) (sym c.in-FencePoll.is)) c.fence_needs.ensures
