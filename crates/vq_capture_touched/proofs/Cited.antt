-- What other crates may cite of this one. All other files of proofs are private to it.
pub use Rattle.vq_capture_touched.proofs.Listings.{Listing, listing}
pub use Rattle.vq_capture_touched.proofs.SameKinds.{Alike, alike, masks_are_one, said_alike, somes_are_one}
