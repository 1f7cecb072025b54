-- What other crates may cite of this one. All other files of proofs are private to it.
pub use Rattle.vq_history_laws.proofs.Counts.{count_cons, counted_any, none_counted}
pub use Rattle.vq_history_laws.proofs.HistoryProofs.{can_come_prop}
pub use Rattle.vq_history_laws.proofs.Kept.{keeps_after, keeps_opening, next_exists, uncarried}
pub use Rattle.vq_history_laws.proofs.Longer.{history_push, world_push}
pub use Rattle.vq_history_laws.proofs.Measure.{history_bounded, history_counted, history_reaches, Reaches}
pub use Rattle.vq_history_laws.proofs.Measure.{measure_small, rises}
