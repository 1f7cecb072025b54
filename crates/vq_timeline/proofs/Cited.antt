-- What other crates may cite of this one. All other files of proofs are private to it.
pub use Rattle.vq_timeline.proofs.Crossing.{timeline_send, timeline_sync}
pub use Rattle.vq_timeline.proofs.Locking.{asked_under, ok_under, err_under}
