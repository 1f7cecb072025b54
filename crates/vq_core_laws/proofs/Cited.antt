-- What other crates may cite of this one. All other files of proofs are private to it.
pub use Rattle.vq_core_laws.proofs.Firsts.{next_is, put_next, put_other, all_done, done_all, rising_once, rising_less, rising_at_least, first_turn, turn_first}
pub use Rattle.vq_core_laws.proofs.PlanFacts.{Facts, facts, ordered_once, values_rise, chain_places}
pub use Rattle.vq_core_laws.proofs.Counts.{put_counts, put_some_counts, count_raised, count_below}
pub use Rattle.vq_core_laws.proofs.Keeps.{Keeps, KeepsTurns, KeepsCarried, keeps, keeps_after, points_push, held_few, noted_few, carried_below, free_below}
pub use Rattle.vq_core_laws.proofs.LaneFacts.{lane_rises, lane_once, same_lane_self, InLane, in_lane, lane_has, lane_at_is, IsNextOf, next_of, next_put, next_none}
pub use Rattle.vq_core_laws.proofs.TimelineLaws.{opening_timeline, fresh_take, reused_take, other_take, may_take, turn_place, smaller_done, own_bind, may_bind, other_bind, own_complete, other_complete, own_free, other_free}
pub use Rattle.vq_core_laws.proofs.Carriers.{KeepsCarriers, CarriersOf, keeps_carriers}
pub use Rattle.vq_core_laws.proofs.WaitingPoints.{waiting_points}
pub use Rattle.vq_core_laws.proofs.ChainNexts.{pending_at, none_pending, unbound_at, none_unbound}
