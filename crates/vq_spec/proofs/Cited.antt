-- What other crates may cite of this one. All other files of proofs are private to it.
pub use Rattle.vq_spec.proofs.SlowHeads.{previous_first}
pub use Rattle.vq_spec.proofs.SlowReady.{chains_exist, own_needs, same_any}
pub use Rattle.vq_spec.proofs.SlowRuns.{after_all-append, bytes_push}
