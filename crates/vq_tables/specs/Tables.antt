-- The other tables, and what the world says of them. This project's own.
use Rattle.std.specs.Prelude.{ℕ, Bool, List, length, count_by, ◌≡◌, ◌<◌, ◌≤◌, ◌==◌, false, Option}
use Rattle.std.specs.Prelude.{None, []}
use Rattle.std.specs.Prelude.{nat_lt, ◌&&◌}
use Rattle.std.specs.List.{slice_index_or}
use Rattle.vq_model.specs.Plan.{Plan, commands_of, signals_of, is_batch}
use Rattle.vq_ground.specs.Lists.{has}
use Rattle.vq_point_laws.specs.Points.{PointState, Reference, written_before}
use Rattle.vq_point_laws.specs.Timeline.{Timeline, KeepsLists, new_timeline}
use Rattle.vq_core_laws.specs.Firsts.{AreFirst}
use Rattle.vq_core_laws.specs.TimelineOf.{IsTimelineOf}
use Rattle.vq_tables.specs.declared.table.JobRecord.{JobRecord}
use Rattle.vq_tables.specs.declared.table.PointSlot.{PointSlot}

-- a job of which nothing is done
abbrev pub idle : JobRecord
idle = record { released = false; started = false; finished = false; commands = 0; signals = 0 }

-- a point that carries nothing
abbrev pub no_slot : PointSlot
no_slot = record { carried = None; waits = false; references = 0 }

-- how many batches are written before a job
abbrev pub batches_before : Plan → ℕ → ℕ
batches_before p j = count_by (is_batch p) (written_before p j)

-- for each job how many batches are written before it
pub record AreEarlier (p : Plan) (xs : List ℕ) : Type 0 where
  pub count : length xs ≡ length p.jobs
  pub each : (j : ℕ) → j < length p.jobs → slice_index_or xs j 0 ≡ batches_before p j

-- So many of the first batches are submitted, and no others.
pub record AreSubmitted (p : Plan) (submitted : ℕ → Bool) (n : ℕ) : Type 0 where
  pub within : n ≤ length p.jobs
  pub each : (j : ℕ) → submitted j ≡ (is_batch p j && nat_lt (batches_before p j) n)

pub record IsJobState (p : Plan) (released started finished made : ℕ → Bool) (applied : List ℕ) (j : ℕ) (s : JobRecord)
    : Type 0 where
  pub is_released : s.released ≡ released j
  pub is_started : s.started ≡ started j
  pub is_finished : s.finished ≡ finished j
  pub first_commands : AreFirst (has applied) (commands_of p j) s.commands
  pub first_signals : AreFirst made (signals_of p j) s.signals

pub record AreJobs (p : Plan) (released started finished made : ℕ → Bool) (applied : List ℕ) (xs : List JobRecord)
    : Type 0 where
  pub count : length xs ≡ length p.jobs
  pub each : (j : ℕ) → IsJobState p released started finished made applied j (slice_index_or xs j idle)

pub record IsSlot (carried : ℕ → Option ℕ) (waiting : ℕ → Bool) (held : List Reference) (q : ℕ) (s : PointSlot) : Type 0
  where
    pub is_carried : s.carried ≡ carried q
    pub is_waiting : s.waits ≡ waiting q
    pub references : s.references ≡ count_by (λ r. r.point == q) held

pub record ArePoints (size : ℕ) (carried : ℕ → Option ℕ) (waiting : ℕ → Bool) (held : List Reference)
    (xs : List PointSlot) : Type 0 where
  pub count : length xs ≡ size
  pub each : (q : ℕ) → IsSlot carried waiting held q (slice_index_or xs q no_slot)

-- for each operation whether it is made
pub record AreMade (size : ℕ) (made : ℕ → Bool) (xs : List Bool) : Type 0 where
  pub count : length xs ≡ size
  pub each : (e : ℕ) → slice_index_or xs e false ≡ made e

pub record ArePayloads (size : ℕ) (payload : ℕ → ℕ) (xs : List ℕ) : Type 0 where
  pub count : length xs ≡ size
  pub each : (t : ℕ) → slice_index_or xs t 0 ≡ payload t

abbrev pub no_timeline : Timeline
no_timeline = new_timeline 0 []

pub record AreTimelines (p : Plan) (w : PointState) (xs : List Timeline) : Type 0 where
  pub count : length xs ≡ length p.chains
  pub each : (t : ℕ) → t < length xs → IsTimelineOf p w t (slice_index_or xs t no_timeline)
  pub kept : (t : ℕ) → t < length xs → KeepsLists (slice_index_or xs t no_timeline)
