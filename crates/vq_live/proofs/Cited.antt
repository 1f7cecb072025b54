-- What other crates may cite of this one. All other files of proofs are private to it.
pub use Rattle.vq_live.proofs.Runs.{event_keeps, opened_keeps, run_keeps}
pub use Rattle.vq_live.proofs.Uses.{event_out, event_refs, next_idle}
pub use Rattle.vq_live.proofs.Removing.{given_same, same_given}
pub use Rattle.vq_live.proofs.Slots.{at_most_one}
pub use Rattle.vq_live.proofs.Values.{last_above}
