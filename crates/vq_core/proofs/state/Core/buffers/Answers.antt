use Rattle.std.proofs.Common.{◌≡◌, ◌∙◌, ◌++◌, ℕ, List, subst, sym}
use Rattle.vq_model.specs.Machine.{AreFinished}
use Rattle.vq_model.specs.FittingCommands.{HasSizes}
use Rattle.vq_model.specs.Memory.{Memory}
use Rattle.vq_model.specs.ValidScripts.{sizes_of}
use Rattle.vq_transfer.proofs.Cited.{has_own_sizes}
use Rattle.vq_model.specs.OutputText.{answers_of, buffers_text}
use Rattle.vq_model.specs.Outputs.{IsOutput}
use Rattle.vq_model.specs.SlowRun.{final}
use Rattle.vq_core.specs.CoreState.{Course, world}
use Rattle.vq_core.specs.Kept.{course_of}
use Rattle.vq_core.proofs.Histories.{inside_course, final_bytes, gives_output, plan_sizes}
use Rattle.vq_core.proofs.state.Core.buffers.Goals as goal

pub returns-clause-ends : goal.returns-clause-ends
returns-clause-ends c =
    subst (λ (s : Course). AreFinished s.plan (world s).machine.progress →
    c.self.inside.buffers ≡ final s.plan) c.self.view_is
    (λ done. c.self.invariant.tells.buffers ∙ final_bytes (course_of c.self.inside) (inside_course c.self.inside
    c.self.invariant) done)

pub returns-clause-sizes : goal.returns-clause-sizes
returns-clause-sizes c =
    let a = c.self.inside in
    let is = c.self.invariant in
    subst (λ (s : Course). HasSizes (sizes_of s.plan.script) a.buffers) c.self.view_is
    (subst (λ (ns : List ℕ). HasSizes ns a.buffers) (is.tells.sizes ∙ sym (plan_sizes a.ordered is.read))
    (has_own_sizes a.buffers))

pub returns-clause-output : goal.returns-clause-output
returns-clause-output c =
    subst (λ (s : Course). AreFinished s.plan (world s).machine.progress →
    IsOutput s.plan (answers_of s.plan (world s).machine ++ buffers_text s.plan.script.buffers c.self.inside.buffers))
    c.self.view_is
    (λ done. subst (λ (m : Memory). IsOutput (course_of c.self.inside).plan
    (answers_of (course_of c.self.inside).plan (world (course_of c.self.inside)).machine
    ++ buffers_text (course_of c.self.inside).plan.script.buffers m))
    (sym c.self.invariant.tells.buffers)
    (gives_output (course_of c.self.inside) (inside_course c.self.inside c.self.invariant) done))
