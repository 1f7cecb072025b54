-- What other crates may cite of this one. All other files of proofs are private to it.
pub use Rattle.vq_capture_judge.proofs.Sources.{stays}
pub use Rattle.vq_capture_judge.proofs.ToldLines.{none_added, one_added}
