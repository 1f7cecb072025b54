-- What other crates may cite of this one. All other files of proofs are private to it.
pub use Rattle.vq_run_laws.proofs.HistoryRuns.{Follows, Leads, follows_opening, history_leads, signal_step}
pub use Rattle.vq_run_laws.proofs.KeptRuns.{holds_at_opening, keep}
pub use Rattle.vq_run_laws.proofs.KeptSteps.{made_below, need_made, sure_ready}
pub use Rattle.vq_run_laws.proofs.NeedsMade.{IsNeed}
pub use Rattle.vq_run_laws.proofs.NextDone.{next_before, next_in}
pub use Rattle.vq_run_laws.proofs.OneResult.{one_result}
pub use Rattle.vq_run_laws.proofs.OutputRuns.{run_gives_output}
pub use Rattle.vq_run_laws.proofs.Payloads.{Raised, above_initial, front_below, made_reached, made_where_reached, raised_step}
pub use Rattle.vq_run_laws.proofs.SlowAnswers.{answers_slowly, same_lines}
pub use Rattle.vq_run_laws.proofs.SlowSteps.{next_at}
pub use Rattle.vq_run_laws.proofs.StateFacts.{HasCome, Invariant, RaisedTo, by_finish, by_signal}
