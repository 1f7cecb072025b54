-- What other crates may cite of this one. All other files of proofs are private to it.
pub use Rattle.vq_payload.proofs.Growing.{made_grown, shown_grown, learned_none, learned_on, learned_of}
