-- What other crates may cite of this one. All other files of proofs are private to it.
pub use Rattle.vq_audit.proofs.Cuts.{cut_or_not, one_cut}
