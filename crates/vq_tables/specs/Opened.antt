-- All that a core is before the first event. This project's own.
use Rattle.std.specs.Prelude.{◌≡◌, ◌≤◌, ◌<◌, ◌^◌, [], None, length}
use Rattle.std.specs.Vec.{vec_capacity}
use Rattle.vq_model.specs.Memory.{zeros_of}
use Rattle.vq_model.specs.Plan.{Plan, initial}
use Rattle.vq_model.specs.ValidScripts.{sizes_of}
use Rattle.vq_point_laws.specs.Points.{opening_points}
use Rattle.vq_history_laws.specs.Histories.{acts}
use Rattle.vq_tables.specs.declared.opening.Opening.{Opening}
use Rattle.vq_tables.specs.Lanes.{AreLanes}
use Rattle.vq_tables.specs.Notes.{AreNotes}
use Rattle.vq_tables.specs.AnswerStates.{AreAnswerStates}
use Rattle.vq_tables.specs.Opening.{nothing, unmarked, no_answers, no_payloads}
use Rattle.vq_tables.specs.Tables.{AreEarlier, AreJobs, AreMade, ArePoints, ArePayloads, AreTimelines}

pub record IsOpening (p : Plan) (x : Opening) : Type 0 where
  pub earlier : AreEarlier p x.marks.earlier
  pub jobs : AreJobs p unmarked unmarked unmarked unmarked [] x.marks.jobs
  pub answers : AreAnswerStates p unmarked no_answers no_payloads x.marks.answers
  pub made : AreMade (length p.ops) unmarked x.marks.made
  pub slots : ArePoints (length p.ops) (λ q. None) unmarked [] x.marks.slots
  pub payloads : ArePayloads (length p.script.semaphores) (initial p) x.chains.payloads.items
  pub timelines : AreTimelines p (opening_points p) x.chains.timelines.items
  pub lanes_are : AreLanes p unmarked unmarked [] x.lanes.lanes
  pub notes : AreNotes p unmarked [] nothing nothing x.lanes.notes
  pub history : x.journal.history.items ≡ []
  pub room : acts p ≤ vec_capacity x.journal.history
  pub few : acts p < 2 ^ 64
  pub buffers : x.journal.buffers ≡ zeros_of (sizes_of p.script)
