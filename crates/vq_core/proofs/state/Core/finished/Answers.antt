use Rattle.std.proofs.Common.{subst}
use Rattle.std.specs.Prelude.{IsTrue, ◌↔◌, nat_eq}
use Rattle.vq_model.specs.Machine.{AreFinished}
use Rattle.vq_core.specs.CoreState.{Course, world}
use Rattle.vq_core.specs.Kept.{course_of}
use Rattle.vq_core.proofs.Histories.{left_iff}
use Rattle.vq_core.proofs.state.Core.finished.Goals as goal

pub returns : goal.returns
returns c =
    let s = course_of c.self.inside in
    subst (λ (s : Course). IsTrue (nat_eq c.self.inside.left 0) ↔ AreFinished s.plan (world s).machine.progress)
    c.self.view_is
    (left_iff s.plan (world s).machine.progress.finished c.self.inside.left c.self.invariant.tells.left)
