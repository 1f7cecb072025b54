-- What other crates may cite of this one. All other files of proofs are private to it.
pub use Rattle.vq_point_laws.proofs.Binds.{bind_keeps}
pub use Rattle.vq_point_laws.proofs.Carriers.{waiting_count, carrier_push}
pub use Rattle.vq_point_laws.proofs.Completions.{IsLeast, complete_keeps, least_pending}
pub use Rattle.vq_point_laws.proofs.Freeings.{free_keeps}
pub use Rattle.vq_point_laws.proofs.HeldPoints.{entries_count}
pub use Rattle.vq_point_laws.proofs.NewTimelines.{new_keeps}
pub use Rattle.vq_point_laws.proofs.PendingLaws.{keeps_pending_law}
pub use Rattle.vq_point_laws.proofs.PointFacts.{Latest, Links, Waits, fewer_held, held_at, held_point, none_held}
pub use Rattle.vq_point_laws.proofs.PointFacts.{same_held, still_held}
pub use Rattle.vq_point_laws.proofs.PointHistories.{at_opening, keeps_point_law, one_event}
pub use Rattle.vq_point_laws.proofs.PointWords.{bit_small}
pub use Rattle.vq_point_laws.proofs.Takes.{take_keeps, unbound}
