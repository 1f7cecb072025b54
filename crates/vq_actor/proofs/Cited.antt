-- What other crates may cite of this one. All other files of proofs are private to it.
pub use Rattle.vq_actor.proofs.Fitting.{fits_forward, fits_answer, fits_see, fits_pass, fits_give_back}
pub use Rattle.vq_actor.proofs.Fitting.{fits_short, fits_need, fits_seen, fits_still, fits_on}
pub use Rattle.vq_actor.proofs.HostService.{deferred_within, put_here, put_there}
