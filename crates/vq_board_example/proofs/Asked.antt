-- What the calls ask of a job that waits for nothing.
pub use Rattle.vq_board_laws.proofs.Cited.{needs_nothing}
