use Rattle.std.proofs.Common.{◌≡◌, ◌∙◌, IfOk, ap, subst, sym}
use Rattle.vq_model.specs.Lowering.{step_idle}
use Rattle.vq_spec.proofs.HostJobs.{idle_jobs}
use Rattle.vq_spec.proofs.host_steps.step_idle.Goals as goal

pub returns-in-Idle : goal.returns-in-Idle
returns-in-Idle c = λ s j e.
    subst (λ js. IfOk c.last_jobs.result (λ jobs. jobs ≡ js))
    (idle_jobs s j c.args.last.now e ∙ ap (step_idle s j) (sym c.in-Idle.is)) c.last_jobs.ensures
