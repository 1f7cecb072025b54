use Rattle.std.proofs.Common.{◌∙◌, sym}
use Rattle.vq_core.specs.CoreState.{world}
use Rattle.vq_core.proofs.SubmitLaws.{steps_some, steps_none}
use Rattle.vq_core.proofs.state.Core.steps_finished.Goals as goal

pub returns-in-Some : goal.returns-in-Some
returns-in-Some c =
    steps_some c.args.self.now.plan (world c.args.self.now) c.args.job c.in-Some.step c.requires
    (sym c.next_job.ensures.job ∙ c.in-Some.is)

pub returns-in-None : goal.returns-in-None
returns-in-None c =
    steps_none c.args.self.now.plan (world c.args.self.now) c.args.job c.requires
    (sym c.next_job.ensures.job ∙ c.in-None.is)
