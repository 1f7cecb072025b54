-- What other crates may cite of this one. All other files of proofs are private to it.
pub use Rattle.vq_tables.proofs.BatchCounts.{batches_more, batches_most}
pub use Rattle.vq_tables.proofs.TableLaws.{answers_given, answers_started, jobs_applied, jobs_finished, jobs_released, jobs_signaled, jobs_started, made_next, payload_next, slot_completed, slot_freed, slot_referred, slot_taken}
pub use Rattle.vq_tables.proofs.LaneNext.{has_turn, is_turn, lane_next, next_exists, own}
pub use Rattle.vq_tables.proofs.LaneLaws.{actor_less, actor_more, finished_place, lane_finished, lane_referred, lane_released, lane_within, others_less, others_more, point_less, point_more, points_less, points_more}
pub use Rattle.vq_tables.proofs.NoteLaws.{next_actor, note_within, notes_finished, notes_looked, notes_referred, notes_unreferred, some_held}
pub use Rattle.vq_tables.proofs.TimelineTables.{timelines_by, timelines_next}
