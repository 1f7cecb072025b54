-- What other crates may cite of this one. All other files of proofs are private to it.
pub use Rattle.vq_layer_laws.proofs.Closing.{closed_counted, closed_set, closed_uncounted, closed_wait, counted_count}
pub use Rattle.vq_layer_laws.proofs.Closing.{free_closed, put_count, signals_apart, uncounted_count, waited_count}
pub use Rattle.vq_layer_laws.proofs.Counts.{lived_keeps}
pub use Rattle.vq_layer_laws.proofs.Keeping.{close_unnamed}
pub use Rattle.vq_layer_laws.proofs.Living.{MaySubmit, lived_call, lived_opened, set_may, submit_may}
pub use Rattle.vq_layer_laws.proofs.Ordering.{MayTakeBack, oldest_exists, queue_more, queue_other, queue_same}
pub use Rattle.vq_layer_laws.proofs.Ordering.{ready_exists, take_back_may}
pub use Rattle.vq_layer_laws.proofs.Sums.{apart_append, either_false}
