-- What other crates may cite of this one. All other files of proofs are private to it.
pub use Rattle.vq_text.proofs.TextSizes.{end_fits, next_fits, same_size}
