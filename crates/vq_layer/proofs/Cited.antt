-- What other crates may cite of this one. All other files of proofs are private to it.
pub use Rattle.vq_layer.proofs.Ground.{same_number, other_number, equal_true, equal_false, true_false, read_set}
pub use Rattle.vq_layer.proofs.Apart.{apart_named, known_named, none_first, open_exists, merged_other, not_closed}
pub use Rattle.vq_layer.proofs.Bare.{count_taken, count_held, count_hold, count_cancelled, count_released, count_returned}
pub use Rattle.vq_layer.proofs.Reserving.{known_others, none_taken, not_named}
pub use Rattle.vq_layer.proofs.Left.{none_host, host_exists}
