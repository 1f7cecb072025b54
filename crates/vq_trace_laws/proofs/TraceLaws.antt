-- The texts that a replay and rounds write are read as lawful traces.
use Rattle.std.proofs.Common.{◌≡◌, ℕ, zero, suc, ◌<◌, ◌≤◌, ◌^◌, ◌+◌, ◌++◌, Bool, true, not, List, [], ◌∷◌, length, All}
use Rattle.std.proofs.Common.{refl, sym, subst, ap, arith, count_by}
use Rattle.std.specs.List.{flat_map, range_with_len}
use Rattle.std.proofs.lemmas.List.{length-map}
use Rattle.std.proofs.lemmas.List.Elements.{All-head, All-tail}
use Rattle.vq_model.specs.declared.script.Turn.{Turn}
use Rattle.vq_model.specs.Checks.{IsLawful as IsLawfulPlan}
use Rattle.vq_model.specs.LoweredPlans.{IsPlan}
use Rattle.vq_model.specs.Machine.{AreFinished, State}
use Rattle.vq_model.specs.Plan.{Plan}
use Rattle.vq_model.specs.ValidScripts.{IsActor}
use Rattle.vq_point_laws.specs.Points.{HistoryFrom, opening_points}
use Rattle.vq_history_laws.specs.Histories.{acts, points_after}
use Rattle.vq_history_laws.specs.Measure.{one}
use Rattle.vq_history_laws.proofs.Cited.{count_cons}
use Rattle.vq_turns.specs.Turns.{first_scene, played_from}
use Rattle.vq_plan_laws.proofs.Cited.{plan_well_formed}
use Rattle.vq_progress_laws.specs.Movers.{rounds_of}
use Rattle.vq_progress_laws.proofs.Cited.{few_turns}
use Rattle.vq_trace_laws.specs.ReadsBack.{HasSmallLines, ReadsBack}
use Rattle.vq_replay.specs.declared.played.Played.{Played}
use Rattle.vq_core.specs.Tables.{jobs_left}
use Rattle.vq_replay.specs.Traces.{actors_of, events_of, numbered_from, played_turns, end_text, finished_text, trace_text, turn_line}
use Rattle.vq_replay.specs.Rounds.{IsRoundsTrace, moved_turns}
use Rattle.vq_replay.specs.Traced.{IsTrace}
use Rattle.vq_trace_laws.proofs.PlayedTurns.{AreActors, turns_played, turns_rise, some_rise, some_played, rounds_act}
use Rattle.vq_trace_laws.proofs.TracesBack.{reads_back}
use Rattle.vq_trace_laws.proofs.Values.{plan_values}

-- the state that played turns lead to
abbrev state_of : Plan → List Played → State
state_of p played = (points_after p (events_of played)).machine

actors_act : (p : Plan) (turns : List Turn) → All (λ t. IsActor p.script t.actor) turns → AreActors p (actors_of turns)
actors_act p [] h = tt
actors_act p (t ∷ turns) h = (
  All-head (λ (u : Turn). IsActor p.script u.actor) t turns h,
  actors_act p turns (All-tail (λ (u : Turn). IsActor p.script u.actor) t turns h),
)

-- Where each number of a range passes a test, none is counted that doesn't.
none_left : (test : ℕ → Bool) (n a : ℕ) → ((k : ℕ) → a ≤ k → k < a + n → test k ≡ true) →
    count_by (λ k. not (test k)) (range_with_len a n) ≡ 0
none_left test zero a f = refl
none_left test (suc n) a f =
    let rest = none_left test n (a + 1) (λ k l m. f k (omega arith) (omega arith)) in
    let here : one (not (test a)) ≡ 0 = ap (λ (b : Bool). one (not b)) (f a (omega arith) (omega arith)) in
    let both = count_cons (λ (k : ℕ). not (test k)) a (range_with_len (a + 1) n) in
    omega arith

finished_end : (p : Plan) (s : State) → AreFinished p s.progress →
    end_text p s (jobs_left p s.progress.finished) ≡ finished_text p s
finished_end p s done =
    ap (end_text p s) (none_left s.progress.finished (length p.jobs) 0 (λ k l m. done k (omega arith)))

module _ (p : Plan) (is : IsPlan p) (lawful : IsLawfulPlan p) (small : HasSmallLines p) (first : ℕ) where
  -- The text of a schedule's turns is read as a lawful trace.
  pub schedule_back : (turns : List Turn) → All (λ t. IsActor p.script t.actor) turns → length turns < 2 ^ 64 →
      HistoryFrom p (opening_points p) (events_of (played_turns p turns)) →
      ReadsBack p first (trace_text p (played_turns p turns) (state_of p (played_turns p turns))) (played_turns p turns)
  schedule_back turns actors few history =
      let count = length-map turns (λ (t : Turn). t.actor) in
      reads_back p is lawful small (plan_values p is) first (played_turns p turns) history
      (turns_played p (plan_well_formed p is) (actors_of turns) (actors_act p turns actors)
      (first_scene (opening_points p)) 1 (omega arith))
      1 (turns_rise (actors_of turns) (played_from p (first_scene (opening_points p)) (actors_of turns)) 1)

  -- So is the text of rounds that finish the jobs.
  pub rounds_back : (rounds : ℕ) → rounds ≤ acts p →
      HistoryFrom p (opening_points p) (events_of (moved_turns p rounds)) →
      AreFinished p (state_of p (moved_turns p rounds)).progress →
      ReadsBack p first (flat_map (turn_line p) (moved_turns p rounds) ++ finished_text p (state_of p (moved_turns p rounds)))
      (moved_turns p rounds)
  rounds_back rounds few history done =
      let count = few_turns p is rounds few in
      let actors = rounds_of rounds p in
      let start = first_scene (opening_points p) in
      let all = numbered_from 1 actors (played_from p start actors) in
      subst (λ (text : List ℕ). ReadsBack p first (flat_map (turn_line p) (moved_turns p rounds) ++ text)
      (moved_turns p rounds))
      (finished_end p (state_of p (moved_turns p rounds)) done)
      (reads_back p is lawful small (plan_values p is) first (moved_turns p rounds) history
      (some_played p all (turns_played p (plan_well_formed p is) actors (rounds_act p rounds) start 1 (omega arith)))
      1 (some_rise 1 all (turns_rise actors (played_from p start actors) 1)))

-- The text that a replay writes is read as a lawful trace.
pub replay_reads : (p : Plan) → IsPlan p → IsLawfulPlan p → HasSmallLines p → (turns : List Turn) →
    All (λ t. IsActor p.script t.actor) turns → length turns < 2 ^ 64 → (text : List ℕ) → IsTrace p turns text →
    (first : ℕ) → ReadsBack p first text (played_turns p turns)
replay_reads p is lawful small turns actors few text trace first =
    subst (λ (t : List ℕ). ReadsBack p first t (played_turns p turns)) (sym trace.spelled)
    (schedule_back p is lawful small first turns actors few trace.history)

-- So is the text of rounds.
pub rounds_read : (p : Plan) → IsPlan p → IsLawfulPlan p → HasSmallLines p → (text : List ℕ) →
    (trace : IsRoundsTrace p text) → (first : ℕ) → ReadsBack p first text (moved_turns p trace.rounds)
rounds_read p is lawful small text trace first =
    subst (λ (t : List ℕ). ReadsBack p first t (moved_turns p trace.rounds)) (sym trace.spelled)
    (rounds_back p is lawful small first trace.rounds trace.few trace.history trace.finished)
