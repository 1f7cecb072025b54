-- What other crates may cite of this one. All other files of proofs are private to it.
pub use Rattle.vq_clocks.proofs.CommandPlaces.{later_command}
pub use Rattle.vq_clocks.proofs.Marking.{last_item_cases, taken_cases}
pub use Rattle.vq_clocks.proofs.NeedChains.{need_chain, resolver_here}
pub use Rattle.vq_clocks.proofs.RowLaws.{slow_at}
pub use Rattle.vq_clocks.proofs.SlowFacts.{at_place, place_within}
pub use Rattle.vq_clocks.proofs.SortedLists.{has_contains, sorted_once}
