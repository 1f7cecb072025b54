-- What other crates may cite of this one. All other files of proofs are private to it.
pub use Rattle.vq_capture_clocks.proofs.Joined.{join_nothing, other_of_test, same_of_test}
pub use Rattle.vq_capture_clocks.proofs.LaneBits.{in_nothing}
pub use Rattle.vq_capture_clocks.proofs.Numbered.{same_number}
pub use Rattle.vq_capture_clocks.proofs.Leveled.{place_of}
