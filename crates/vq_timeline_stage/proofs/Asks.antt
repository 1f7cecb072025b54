-- What calls ask of a job that waits for nothing, and of one whose state is known.
pub use Rattle.vq_board_laws.proofs.Cited.{needs_nothing, knows_so_far}
