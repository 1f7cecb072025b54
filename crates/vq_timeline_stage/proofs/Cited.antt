-- What other crates may cite of this one. All other files of proofs are private to it.
pub use Rattle.vq_timeline_stage.proofs.Watchables.{pairs_of_first, one_first, two_first, pass_kept, pass_back, timelines_kept}
