-- What the core's fields keep: each table says what the world says. This project's own.
use Rattle.std.specs.Prelude.{◌≡◌, ◌<◌, ◌≤◌, ◌^◌, length, map}
use Rattle.std.specs.Vec.{vec_capacity}
use Rattle.vq_model.specs.Checks.{IsLawful}
use Rattle.vq_model.specs.LoweredPlans.{IsPlan}
use Rattle.vq_model.specs.Plan.{Plan}
use Rattle.vq_model.specs.SlowRun.{bytes_after}
use Rattle.vq_point_laws.specs.Points.{PointState, HistoryFrom, opening_points}
use Rattle.vq_history_laws.specs.Histories.{points_after, acts}
use Rattle.vq_core.specs.declared.state.Core.TheInside.{Inside}
use Rattle.vq_core.specs.CoreState.{Course}
use Rattle.vq_tables.specs.Lanes.{AreLanes}
use Rattle.vq_tables.specs.Notes.{AreNotes}
use Rattle.vq_tables.specs.AnswerStates.{AreAnswerStates}
use Rattle.vq_tables.specs.Tables.{AreEarlier, AreSubmitted, AreJobs, ArePoints, AreMade, ArePayloads, AreTimelines}
use Rattle.vq_core.specs.Tables.{jobs_left}

abbrev pub course_of : Inside → Course
course_of a = record { plan = a.ordered; history = a.history.items }

pub record Tells (p : Plan) (w : PointState) (a : Inside) : Type 0 where
  pub earlier : AreEarlier p a.earlier
  pub submitted : AreSubmitted p w.submitted a.submitted
  pub jobs : AreJobs p w.released w.machine.progress.started w.machine.progress.finished w.machine.progress.made
      w.machine.progress.applied a.jobs
  pub answers : AreAnswerStates p w.machine.progress.started w.machine.answer w.machine.at_start a.answers
  pub made : AreMade (length p.ops) w.machine.progress.made a.made
  pub points : a.points ≡ w.points
  pub slots : ArePoints (length p.ops) w.carried w.waiting w.held a.slots
  pub payloads : ArePayloads (length p.script.semaphores) w.machine.progress.payload a.payloads.items
  pub timelines : AreTimelines p w a.timelines.items
  pub lanes : AreLanes p w.released w.machine.progress.finished w.held a.lanes
  pub notes : AreNotes p w.machine.progress.finished w.held w.referred w.looked a.notes
  pub buffers : a.buffers ≡ bytes_after p w.machine.progress.applied
  pub sizes : map length a.buffers ≡ p.sizes
  pub left : a.left ≡ jobs_left p w.machine.progress.finished

pub record IsCore (a : Inside) : Type 0 where
  pub read : IsPlan a.ordered
  pub lawful : IsLawful a.ordered
  pub history : HistoryFrom a.ordered (opening_points a.ordered) a.history.items
  pub room : acts a.ordered ≤ vec_capacity a.history
  pub few : acts a.ordered < 2 ^ 64
  pub tells : Tells a.ordered (points_after a.ordered a.history.items) a
