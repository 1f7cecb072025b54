-- What other crates may cite of this one. All other files of proofs are private to it.
pub use Rattle.vq_access.proofs.Posting.{elsewhere, there}
pub use Rattle.vq_access.proofs.Sharing.{grounds_sync, waiting_sync}
