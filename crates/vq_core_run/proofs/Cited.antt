-- What other crates may cite of this one. All other files of proofs are private to it.
pub use Rattle.vq_core_run.proofs.Troupes.{plan_kept}
