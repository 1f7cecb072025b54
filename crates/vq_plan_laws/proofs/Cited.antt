-- What other crates may cite of this one. All other files of proofs are private to it.
pub use Rattle.vq_plan_laws.proofs.AskedChains.{plan_asked, plan_reads}
pub use Rattle.vq_plan_laws.proofs.CommandJobs.{HasOwner, StandsAt, command_has_job, command_owner, counted}
pub use Rattle.vq_plan_laws.proofs.CommandJobs.{owner_exists, owner_has, stands_at}
pub use Rattle.vq_plan_laws.proofs.FaultLaws.{no_fault_found}
pub use Rattle.vq_plan_laws.proofs.HostPlans.{host_order}
pub use Rattle.vq_plan_laws.proofs.LastBefore.{HasNone, IsLast, last_cases}
pub use Rattle.vq_plan_laws.proofs.MovedTurns.{kept_read, moved_read, same_fault, same_plan}
pub use Rattle.vq_plan_laws.proofs.Owners.{owner}
pub use Rattle.vq_plan_laws.proofs.PlacesAlike.{needs_alike, reached_earlier, ready_whole, same_before}
pub use Rattle.vq_plan_laws.proofs.PlacesAlike.{same_reached, same_sure}
pub use Rattle.vq_plan_laws.proofs.PlanChains.{chain_is, no_value, op_value_is}
pub use Rattle.vq_plan_laws.proofs.PlanCommands.{length-batch_commands, all_commands}
pub use Rattle.vq_plan_laws.proofs.PlanLanes.{count_jobs, count_ops, few_ops}
pub use Rattle.vq_plan_laws.proofs.PlanLines.{lines_in_order, op_line_is}
pub use Rattle.vq_plan_laws.proofs.PlanParts.{job_is, op_chain_is, op_is, op_job_is, part_is}
pub use Rattle.vq_plan_laws.proofs.PlansKept.{few_queues}
pub use Rattle.vq_plan_laws.proofs.PlansKept.{plan_hosts, plan_lanes, plan_lines, plan_semaphores, plan_well_formed}
pub use Rattle.vq_plan_laws.proofs.SignalValues.{counted_value, value_is}
pub use Rattle.vq_plan_laws.proofs.UnheldWaits.{first_version_unheld}
pub use Rattle.vq_plan_laws.proofs.WellFormedPlans.{well_formed}
