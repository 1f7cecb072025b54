use Rattle.std.proofs.Common.{◌≡◌, ◌+◌, ℕ, suc, sym, ap, ◌∙◌, subst, arith}
use Rattle.vq_model.specs.Machine.{next}
use Rattle.vq_point_laws.specs.Points.{next_job, jobs_of_lane}
use Rattle.vq_core.specs.CoreState.{Course, world}
use Rattle.vq_core.specs.Kept.{course_of}
use Rattle.vq_tables.specs.Lanes.{lane_named}
use Rattle.vq_tables.proofs.Cited.{lane_next, next_exists}
use Rattle.vq_core.proofs.state.Core.next_job.Goals as goal

pub returns-in-Host-clause-job : goal.returns-in-Host-clause-job
returns-in-Host-clause-job c =
    let s = course_of c.self.inside in
    let w = world s in
    let is = c.next.ensures ∙ lane_next s.plan w.released w.machine.progress.finished w.held c.self.inside.lanes
    c.self.invariant.tells.lanes 0 in
    subst (λ (s : Course). c.next.result ≡ next_job s.plan (world s) c.args.actor) c.self.view_is
    (is ∙ ap (next_job s.plan w) (sym c.in-Host.is))

pub returns-in-Ring-clause-job : goal.returns-in-Ring-clause-job
returns-in-Ring-clause-job c =
    let s = course_of c.self.inside in
    let w = world s in
    let n = c.in-Ring.queue + 1 in
    let e : n ≡ suc c.in-Ring.queue = omega arith in
    let is = c.next-in-Ring.ensures ∙ lane_next s.plan w.released w.machine.progress.finished w.held
    c.self.inside.lanes c.self.invariant.tells.lanes n
    ∙ ap (λ (n : ℕ). next w.machine.progress.finished (jobs_of_lane s.plan (lane_named n))) e in
    subst (λ (s : Course). c.next-in-Ring.result ≡ next_job s.plan (world s) c.args.actor) c.self.view_is
    (is ∙ ap (next_job s.plan w) (sym c.in-Ring.is))

pub returns-in-Host-clause-exists : goal.returns-in-Host-clause-exists
returns-in-Host-clause-exists c =
    next_exists c.args.self.now.plan (world c.args.self.now) c.args.actor c.next.result (returns-in-Host-clause-job c)

pub returns-in-Ring-clause-exists : goal.returns-in-Ring-clause-exists
returns-in-Ring-clause-exists c =
    next_exists c.args.self.now.plan (world c.args.self.now) c.args.actor c.next-in-Ring.result
    (returns-in-Ring-clause-job c)
