-- What other crates may cite of this one. All other files of proofs are private to it.
pub use Rattle.vq_board_laws.proofs.AnswerSteps.{answers_job}
pub use Rattle.vq_board_laws.proofs.ChainShares.{share_is_chain}
pub use Rattle.vq_board_laws.proofs.Endings.{ends_whole}
pub use Rattle.vq_board_laws.proofs.EnterSteps.{enters_command}
pub use Rattle.vq_board_laws.proofs.Frames.{so_of}
pub use Rattle.vq_board_laws.proofs.JobSteps.{looks_at_job, releases_job, state_of_number, submits_job}
pub use Rattle.vq_board_laws.proofs.Learned.{grows_none, grows_on, learns_none, learns_on, learns_recall, learns_look}
pub use Rattle.vq_board_laws.proofs.Learned.{knows_first, knows_more}
pub use Rattle.vq_board_laws.proofs.LookSteps.{looks_at_point}
pub use Rattle.vq_board_laws.proofs.MakeSteps.{makes_point}
pub use Rattle.vq_board_laws.proofs.Moments.{loads_at, stores_at, adds_at, exchanges_at, step_facts}
pub use Rattle.vq_board_laws.proofs.Needed.{made_still, reached_still, needs_still, needs_later, needs_to_end, needs_nothing, needs_each, knows_so_far}
pub use Rattle.vq_board_laws.proofs.OpSteps.{binds_op, completes_op, op_number_is, recalls_op}
pub use Rattle.vq_board_laws.proofs.Opens.{deals, opens}
pub use Rattle.vq_board_laws.proofs.PointLaws.{assigned_free, retired_past, signaled_made}
pub use Rattle.vq_board_laws.proofs.PointSteps.{assigns_point, refers_point, retires_point, unrefers_point}
pub use Rattle.vq_board_laws.proofs.ReferenceLists.{kept_listed}
pub use Rattle.vq_board_laws.proofs.RunSteps.{finishes_job, starts_job}
pub use Rattle.vq_board_laws.proofs.SignalSteps.{signals_op}
pub use Rattle.vq_board_laws.proofs.TurnSteps.{gives_memory, takes_memory_as}
