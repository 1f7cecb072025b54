-- What other crates may cite of this one. All other files of proofs are private to it.
pub use Rattle.vq_capture_laws.proofs.BehindPoints.{down, AreInOrder, before_by_test, test_of_before, sound, complete}
pub use Rattle.vq_capture_laws.proofs.MemberFacts.{in_front, in_back, in_either, of_reverse, in_flat_map, from_flat_map, from_map}
pub use Rattle.vq_capture_laws.proofs.MemberFacts.{any_of, one_of_any, each_of_all, all_of_each, and_left, and_right, true_of_not}
pub use Rattle.vq_capture_laws.proofs.PathLaws.{leads_down, two_paths}
pub use Rattle.vq_capture_laws.proofs.PointOrder.{AreRising, AreNumbered, own_step, own_line, points_in_order, same_step}
pub use Rattle.vq_capture_laws.proofs.PointOrder.{numbered_with, numbered_on}
pub use Rattle.vq_capture_laws.proofs.RisingReads.{lines_rise, read_rises}
pub use Rattle.vq_capture_laws.proofs.SlowRaces.{IsLast, Searched, searched, ordered_by_test, test_of_ordered, first_race_said, Said, same_named}
pub use Rattle.vq_capture_laws.proofs.SlowVerdicts.{only, decided}
