-- Parts of what is asked of events. This project's own.
use Rattle.std.specs.Prelude.{ℕ, Bool, ◌≡◌, true, false, MatchBool, [], Some, not, ◌&&◌, ◌||◌}
use Rattle.std.specs.Prelude.{if◌then◌else◌}
use Rattle.std.specs.List.{list_all, slice_get}
use Rattle.vq_model.specs.Edges.{AtEnd}
use Rattle.vq_model.specs.Machine.{are_reached}
use Rattle.vq_model.specs.Plan.{Plan, commands_of, is_host_step}
use Rattle.vq_ground.specs.Lists.{has}
use Rattle.vq_point_laws.specs.Points.{PointState, earlier_in_queue, are_needs_pending, written_before}

-- A batch's turn to be released has come, but for the points of its signals.
pub record ReleaseTurn (p : Plan) (w : PointState) (j : ℕ) : Type 0 where
  pub submitted : w.submitted j ≡ true
  pub waiting : w.released j ≡ false
  pub in_order : list_all w.released (earlier_in_queue p j) ≡ true
  pub needs : are_needs_pending p w j ≡ true

-- whether a point may be taken for a job: a batch's turn to be released has come, or a host step is started
abbrev pub may_take : Plan → PointState → ℕ → Bool
may_take p w j =
    if is_host_step p j then w.machine.progress.started j
    else w.submitted j && not (w.released j) && list_all w.released (earlier_in_queue p j) && are_needs_pending p w j

-- whether each batch that is written before a job is submitted, and whether each host step is finished
abbrev pub are_batches_submitted : Plan → PointState → ℕ → Bool
are_batches_submitted p w j = list_all (λ i. is_host_step p i || w.submitted i) (written_before p j)

abbrev pub are_steps_finished : Plan → PointState → ℕ → Bool
are_steps_finished p w j =
    list_all (λ i. not (is_host_step p i) || w.machine.progress.finished i) (written_before p j)

-- whether a job may start as far as submissions go: a batch is released; for a host step all batches that are
-- written before it are submitted
abbrev pub may_start : Plan → PointState → ℕ → Bool
may_start p w j = if is_host_step p j then are_batches_submitted p w j else w.released j

-- a new point exactly where none of the chain is free, and else the one freed last
abbrev pub IsPointInTurn : PointState → ℕ → ℕ → Bool → Type 0
IsPointInTurn w t q fresh = MatchBool fresh ((w.free t ≡ []) × (q ≡ w.points)) (slice_get (w.free t) 0 ≡ Some q)

-- a job runs, its commands are applied and its needs reached
pub record HasCommandsDone (p : Plan) (w : PointState) (j : ℕ) : Type 0 where
  pub started : w.machine.progress.started j ≡ true
  pub unfinished : w.machine.progress.finished j ≡ false
  pub commands : list_all (has w.machine.progress.applied) (commands_of p j) ≡ true
  pub ready : are_reached p w.machine.progress.payload j AtEnd ≡ true
