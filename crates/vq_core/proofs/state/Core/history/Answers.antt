use Rattle.std.proofs.Common.{subst}
use Rattle.vq_core.specs.CoreState.{IsCourse}
use Rattle.vq_core.proofs.Histories.{inside_course, is_run, keeps_points, keeps_pending, is_bounded}
use Rattle.vq_core.proofs.state.Core.history.Goals as goal

pub returns-clause-course : goal.returns-clause-course
returns-clause-course c = (subst IsCourse c.self.view_is (inside_course c.self.inside c.self.invariant)).history_from

pub returns-clause-run : goal.returns-clause-run
returns-clause-run c = is_run c.args.self.now (subst IsCourse c.self.view_is (inside_course c.self.inside
    c.self.invariant))

pub returns-clause-points : goal.returns-clause-points
returns-clause-points c = keeps_points c.args.self.now (subst IsCourse c.self.view_is (inside_course c.self.inside
    c.self.invariant))

pub returns-clause-pending : goal.returns-clause-pending
returns-clause-pending c = keeps_pending c.args.self.now (subst IsCourse c.self.view_is (inside_course c.self.inside
    c.self.invariant))

pub returns-clause-few : goal.returns-clause-few
returns-clause-few c = is_bounded c.args.self.now (subst IsCourse c.self.view_is (inside_course c.self.inside
    c.self.invariant))
