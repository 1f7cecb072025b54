-- What other crates may cite of this one. All other files of proofs are private to it.
pub use Rattle.vq_memory_laws.proofs.MemoryLaws.{effect_sizes, effects_commute, length-with_bytes}
