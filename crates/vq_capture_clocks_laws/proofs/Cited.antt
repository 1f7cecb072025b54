-- What other crates may cite of this one. All other files of proofs are private to it.
pub use Rattle.vq_capture_clocks_laws.proofs.AccessLanes.{only_taken, only_given, taken_one}
pub use Rattle.vq_capture_clocks_laws.proofs.EdgeCauses.{Cause, Scopes, Signals, Release, Thread, Telling, Cut, cause_of}
pub use Rattle.vq_capture_clocks_laws.proofs.EdgeCauses.{edge_by_test, edge_by_scopes, edge_by_signals, edge_by_release}
pub use Rattle.vq_capture_clocks_laws.proofs.EdgeCauses.{edge_by_thread, edge_by_telling, edge_by_cut}
pub use Rattle.vq_capture_clocks_laws.proofs.FoundRaces.{clocks_find, Rises, Falls, falls_back, rises_with, rises_filter, parts_rise, to_reverse, Clashes, clashes}
pub use Rattle.vq_capture_clocks_laws.proofs.LaneEdges.{in_map, in_filter, from_stages, to_stages, from_given, from_taken, gives_lanes, takes_lanes, OfQueue, OfThread, OfTold, SharesLane}
pub use Rattle.vq_capture_clocks_laws.proofs.LaneEdges.{from_queue, to_queue, from_thread, to_thread, from_told, from_last, to_last, gives_queue, takes_queue, queue_lane, thread_lane, after_lane}
pub use Rattle.vq_capture_clocks_laws.proofs.LaneEdges.{both_queues, edge_of_lane, lane_of_scopes, lane_of_signals, lane_of_thread, lane_of_telling}
pub use Rattle.vq_capture_clocks_laws.proofs.PointKinds.{IsPoint, IsPlain, the_access, none_some, is_access, no_stage_of, kinds, whole_in, is_whole, whole_access, cut_no_access, access_is_plain, kinds_at}
pub use Rattle.vq_capture_clocks_laws.proofs.PointKinds.{takes_stage, gives_stage, follows_none, no_operation, not_after, not_handed, none_release, access_cuts_none}
pub use Rattle.vq_capture_clocks_laws.proofs.ReleasingLines.{in_has, has_in, behind_first, of_filter, of_find, releasing, lasting_releases, Releasing, ReleasedKind, released_kind}
pub use Rattle.vq_capture_clocks_laws.proofs.RisingSteps.{front_below, in_front_of, rising_front, rising_back, those_above, same_step}
pub use Rattle.vq_capture_clocks_laws.proofs.SiteNumbers.{HasSites, lanes_by, lanes_stay, sites_there, sites_extend, Extends, extends_itself, extends_twice, same_of_number}
pub use Rattle.vq_capture_clocks_laws.proofs.StageNumbers.{same_stage, stage_low, in_every, one_lane, meets_at, at_meeting}
pub use Rattle.vq_capture_clocks_laws.proofs.StandingAccesses.{clash_over, no_release, none_after}
pub use Rattle.vq_capture_clocks_laws.proofs.Taking.{of_later, below_first, below_second, taken_from, taken_cell, taken_own, Released, released_from, released_keep, released_line, released_signal}
pub use Rattle.vq_capture_clocks_laws.proofs.Taking.{handed_from, handed_keeps, handed_one, given_from, given_keeps, given_one}
pub use Rattle.vq_capture_clocks_laws.proofs.TidyReads.{Keeps, IsKept, keep_words, keeps_nothing, lines_tidy, read_tidy}
