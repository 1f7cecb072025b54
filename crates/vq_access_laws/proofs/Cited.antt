-- What other crates may cite of this one. All other files of proofs are private to it.
pub use Rattle.vq_access_laws.proofs.AnswerGuards.{may_answer}
pub use Rattle.vq_access_laws.proofs.CauseLaws.{lost, moved_on, not_next, refused_now, shown_still}
pub use Rattle.vq_access_laws.proofs.CauseLaws.{step_still, turn_taken, unbound, unfinished}
pub use Rattle.vq_access_laws.proofs.CauseLaws.{unreleased, unsignaled, unsubmitted}
pub use Rattle.vq_access_laws.proofs.FewNeeds.{few_needs}
pub use Rattle.vq_access_laws.proofs.Guards.{may_release, may_submit, runner_own}
pub use Rattle.vq_access_laws.proofs.HeldLists.{few_held, held_one}
pub use Rattle.vq_access_laws.proofs.MeaningLaws.{none_more}
pub use Rattle.vq_access_laws.proofs.OwnGuards.{may_enter, may_finish, may_signal, may_start, may_take_turn}
pub use Rattle.vq_access_laws.proofs.OwnRules.{learned_role}
pub use Rattle.vq_access_laws.proofs.PlainSteps.{learns_job, learns_miss}
pub use Rattle.vq_access_laws.proofs.PlainSteps.{learns_turn, true_bound, true_learned, true_released}
pub use Rattle.vq_access_laws.proofs.PlainSteps.{true_seen_bound, true_seen_finished, true_seen_released}
pub use Rattle.vq_access_laws.proofs.PlainSteps.{true_seen_submitted, true_submitted, true_taken}
pub use Rattle.vq_access_laws.proofs.ReadLaws.{saw_read}
pub use Rattle.vq_access_laws.proofs.RunnerSteps.{true_answered, true_applied, true_compared, true_finished}
pub use Rattle.vq_access_laws.proofs.RunnerSteps.{true_signaled, true_started}
pub use Rattle.vq_access_laws.proofs.ServedActors.{serves_itself}
pub use Rattle.vq_access_laws.proofs.StepRules.{clash_none}
pub use Rattle.vq_access_laws.proofs.TaskKinds.{all_flat, all_jobs}
pub use Rattle.vq_access_laws.proofs.TestLaws.{far_known, finished_known, bound_known, taken_here, taken_known}
pub use Rattle.vq_access_laws.proofs.TestLaws.{taken_more}
pub use Rattle.vq_access_laws.proofs.ToldLaws.{few_told}
pub use Rattle.vq_access_laws.proofs.Truths.{first_true, fresh_true, names_same, true_alike}
pub use Rattle.vq_access_laws.proofs.WaitLaws.{listed_first, listed_held, may_refer, true_given_back, true_met}
pub use Rattle.vq_access_laws.proofs.WaitLaws.{true_past, true_referred}
pub use Rattle.vq_access_laws.proofs.WaitSteps.{held_reached, initial_reached, past_reached, seen_made, seen_taken}
