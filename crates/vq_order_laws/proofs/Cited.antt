-- What other crates may cite of this one. All other files of proofs are private to it.
pub use Rattle.vq_order_laws.proofs.ChainSignals.{signal_is}
pub use Rattle.vq_order_laws.proofs.CountedChains.{numbers_rise}
pub use Rattle.vq_order_laws.proofs.Decides.{sure_decides}
pub use Rattle.vq_order_laws.proofs.EdgeReasons.{edge_of, finish_edge, host_first, idle_first, lane_first, need_awaits, of_edge}
pub use Rattle.vq_order_laws.proofs.EdgesAgree.{edges_agree, need_agrees, ready_reached, stands, sure_stands, waiter_exists}
pub use Rattle.vq_order_laws.proofs.HostOrder.{finished_hop, host_is_last, sure_for_last, sure_for_later}
pub use Rattle.vq_order_laws.proofs.JobLines.{lines_across}
pub use Rattle.vq_order_laws.proofs.PassedOn.{sure_along}
pub use Rattle.vq_order_laws.proofs.PlanLines.{job_lines_rise}
pub use Rattle.vq_order_laws.proofs.LawfulOrder.{plan_has_sure_order}
pub use Rattle.vq_order_laws.proofs.LawfulPlans.{lawful_without_fault}
pub use Rattle.vq_order_laws.proofs.NeedsStay.{are_reached_still, reached_still}
pub use Rattle.vq_order_laws.proofs.PlacesOrdered.{before_end, before_later, command_order, job_order}
pub use Rattle.vq_order_laws.proofs.ResetChains.{counted_rises}
pub use Rattle.vq_order_laws.proofs.RowLaws.{op_chain, op_job, share_comm}
pub use Rattle.vq_order_laws.proofs.SlowOrder.{Earlier, ReadyEach, before_earlier, is_of_job, slow_adds, slow_distinct, slow_has}
pub use Rattle.vq_order_laws.proofs.SlowStops.{left_unreachable, left_waits}
pub use Rattle.vq_order_laws.proofs.RisingChains.{rising_at}
pub use Rattle.vq_order_laws.proofs.SlowFronts.{finished_earlier, place_in_front, reached_by, ready_at, signaled_earlier}
