-- What other crates may cite of this one. All other files of proofs are private to it.
pub use Rattle.vq_timeline_laws.proofs.Binding.{lists_bound, may_bind_op}
pub use Rattle.vq_timeline_laws.proofs.Completing.{first_within, lists_completed, may_complete, op_below, point_below, point_carries}
pub use Rattle.vq_timeline_laws.proofs.Freeing.{lists_freed, may_retire, waiting_below}
pub use Rattle.vq_timeline_laws.proofs.Fresh.{fresh_lists}
pub use Rattle.vq_timeline_laws.proofs.InUse.{all_looked, found_more, kept_looked, one_looked, retires_still}
pub use Rattle.vq_timeline_laws.proofs.Places.{held_below, index_is, place_at}
pub use Rattle.vq_timeline_laws.proofs.Taking.{lists_new, lists_reused, may_assign_free, may_assign_new, may_make, may_take_far, may_take_new, reused_same}
