-- What other crates may cite of this one. All other files of proofs are private to it.
pub use Rattle.vq_board.proofs.Firsts.{shown_known, shown_more}
pub use Rattle.vq_board.proofs.Placed.{short}
pub use Rattle.vq_board.proofs.Shared.{board_sync}
