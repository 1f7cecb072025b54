-- What other crates may cite of this one. All other files of proofs are private to it.
pub use Rattle.vq_turn_laws.proofs.Asked.{take_chain}
pub use Rattle.vq_turn_laws.proofs.AllPlaces.{all_true}
pub use Rattle.vq_turn_laws.proofs.BlockedLaws.{blocked_is_not_so, blocked_play_is_not_so}
pub use Rattle.vq_turn_laws.proofs.CallLaws.{call_answer, call_apply, call_bind, call_compare, call_finish, call_look}
pub use Rattle.vq_turn_laws.proofs.CallLaws.{call_met, call_over, call_refer, call_release, call_signal, call_start}
pub use Rattle.vq_turn_laws.proofs.CallLaws.{call_submit, call_take, call_unref, collects, goes_on}
pub use Rattle.vq_turn_laws.proofs.Cuts.{apart_cut, done_of, next_at, next_cut, next_left, order_cut}
pub use Rattle.vq_turn_laws.proofs.Orderly.{plan_orderly, plan_parts}
pub use Rattle.vq_turn_laws.proofs.Reached.{Reached, reached}
pub use Rattle.vq_turn_laws.proofs.PlaceLaws.{each_among}
pub use Rattle.vq_turn_laws.proofs.RunOrder.{run_cut, run_in_turn}
pub use Rattle.vq_turn_laws.proofs.SceneLaws.{first_scene_true, plays_true, schedule_history}
pub use Rattle.vq_turn_laws.proofs.StandLaws.{is_plain}
pub use Rattle.vq_turn_laws.proofs.TrueProofs.{true_for_prop}
pub use Rattle.vq_turn_laws.proofs.TurnLaws.{does_true}
pub use Rattle.vq_turn_laws.proofs.WholeTurns.{GoesForward, does_forward, opening_true, others_true, turn_true}
pub use Rattle.vq_turn_laws.proofs.Apart.{host_lane, in_queue, lane_rises}
pub use Rattle.vq_turn_laws.proofs.CutFacts.{IsCut, cut_at}
pub use Rattle.vq_turn_laws.proofs.ProgramLaws.{among_left, among_map, among_onto, among_right, among_turned}
pub use Rattle.vq_turn_laws.proofs.ProgramLaws.{onto_append}
pub use Rattle.vq_turn_laws.proofs.Resolvers.{need_exists, ready_of}
pub use Rattle.vq_turn_laws.proofs.WaitParts.{all_of, any_within, filter_within, within_filter}
