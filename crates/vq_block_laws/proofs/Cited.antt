-- What other crates may cite of this one. All other files of proofs are private to it.
pub use Rattle.vq_block_laws.proofs.CompiledOrigins.{compiled_origins, origins_counted, rest_restored}
pub use Rattle.vq_block_laws.proofs.CompiledScripts.{compiled_is_written, compiled_reads_back}
pub use Rattle.vq_block_laws.proofs.CompiledScripts.{rest_is_read, rest_stands}
