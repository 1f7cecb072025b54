-- The text of turns that were played is read as a lawful trace.
use Rattle.std.proofs.Common.{◌≡◌, ℕ, zero, suc, ◌<◌, ◌^◌, ◌+◌, Bool, true, false, List, [], ◌∷◌, ◌++◌, length, map, fold, Option, Some, Ok}
use Rattle.std.proofs.Common.{refl, sym, subst, ap, ◌∙◌, arith, codes, inl, inr, not}
use Rattle.std.specs.Fmt.{decimal}
use Rattle.std.specs.List.{list_all, flat_map, cons_option, range_with_len, join_with_byte}
use Rattle.std.specs.Option.{option_map, option_map_or}
use Rattle.std.proofs.lemmas.Bool.{and_from, cases_eq}
use Rattle.std.proofs.lemmas.List.{map-append}
use Rattle.std.proofs.lemmas.List.FromFn.{length-range_with_len}
use Rattle.std.proofs.lemmas.List.Folds.{list_all-append}
use Rattle.std.proofs.lemmas.List.Sums.{count_by-le-length}
use Rattle.std.proofs.lemmas.Option.{same_Some}
use Rattle.vq_model.specs.declared.plan.Answer.{Answer as Answered}
use Rattle.vq_model.specs.declared.plan.Event.{Event}
use Rattle.vq_model.specs.declared.plan.Event.TheVariants.{Submit, Take, Release, Bind, Refer, Look, Unref, Complete}
use Rattle.vq_model.specs.declared.plan.Event.TheVariants.{Free, Start, Apply, Signal, Finish, Answer}
use Rattle.vq_model.specs.declared.script.ActorName.{ActorName}
use Rattle.vq_model.specs.Canonical.{line_text}
use Rattle.vq_model.specs.Checks.{IsLawful as IsLawfulPlan}
use Rattle.vq_model.specs.LoweredPlans.{IsPlan}
use Rattle.vq_model.specs.Machine.{State, put}
use Rattle.vq_model.specs.Plan.{Plan}
use Rattle.vq_model.specs.Text.{lines_of}
use Rattle.vq_model.specs.ValidScripts.{IsActor}
use Rattle.vq_model.proofs.Puts.{put_here, put_there}
use Rattle.vq_point_laws.specs.Points.{PointState, HistoryFrom, opening_points, after_event}
use Rattle.vq_history_laws.specs.Histories.{points_after}
use Rattle.vq_turns.specs.declared.outcome.Outcome.{Outcome}
use Rattle.vq_turns.specs.declared.outcome.Outcome.TheVariants.{Moved, Blocked, Ended}
use Rattle.vq_plan_laws.proofs.Cited.{plan_lanes}
use Rattle.vq_turn_laws.proofs.Cited.{plan_orderly}
use Rattle.vq_canonical_laws.proofs.Cited.{are_kept_words, kept_words_back, kept_lines_back}
use Rattle.vq_given.specs.declared.given.GivenTrace.{GivenTrace}
use Rattle.vq_given.specs.declared.given.TraceEnd.{TraceEnd}
use Rattle.vq_given.specs.declared.given.TraceLine.TheVariants.{Turn, End, Faulty}
use Rattle.vq_given.specs.Words.{line_said, turn_said}
use Rattle.vq_given.specs.Reading.{TurnsRead, no_turns, rest_from, ended_at, go_on, read_from, read_trace}
use Rattle.vq_audit.specs.Verdicts.{made_events, lines_left, SaysLeft, IsLawful}
use Rattle.vq_trace_laws.specs.ReadsBack.{HasSmallLines, ReadsBack}
use Rattle.vq_trace_laws.proofs.SaidWords.{HasSmallValues, NamesWhatIs, IsSmallAnswer, CanBeTold}
use Rattle.vq_trace_laws.proofs.EndWords.{rest_parts}
use Rattle.vq_replay.specs.declared.played.Played.{Played}
use Rattle.vq_core.specs.Tables.{jobs_left}
use Rattle.vq_replay.specs.Traces.{event_of, events_of, end_text, trace_text, turn_line}
use Rattle.vq_trace_laws.proofs.EndsBack.{rest_spelled, rest_kept}
use Rattle.vq_trace_laws.proofs.EventFacts.{AllNamed, history_named}
use Rattle.vq_trace_laws.proofs.LinesBack.{HaveWords, parts_of, end_parts, trace_spelled, rest_have, rest_back, turns_read, RiseFrom, AreTold}
use Rattle.vq_trace_laws.proofs.LinesBack.{turns_kept, read_turns, read_made, read_events}
use Rattle.vq_trace_laws.proofs.Lookups.{small_back}
use Rattle.vq_trace_laws.proofs.Makers.{IsMadeBy}
use Rattle.vq_trace_laws.proofs.TurnsBack.{decimal_kept, kept_on}

-- Answers

-- the answers of a state are small
abbrev AreSmall : State → Type 0
AreSmall s = (j : ℕ) (a : Answered) → s.answer j ≡ Some a → IsSmallAnswer a

answered_small : (s : State) (i : ℕ) (a : Answered) → IsSmallAnswer a → AreSmall s → (j : ℕ) (b : Answered) →
    put s.answer i (Some a) j ≡ Some b → IsSmallAnswer b
answered_small s i a small all j b e =
    elim (cases_eq j i) [
      | inl same ↦
          let here : Some a ≡ Some b =
          sym (put_here s.answer i (Some a)) ∙ (ap (put s.answer i (Some a)) (sym same) ∙ e) in
          subst IsSmallAnswer (same_Some a b here) small
      | inr other ↦ all j b (sym (put_there s.answer i (Some a) j other) ∙ e)
    ]

module _ (p : Plan) where
  small_event : (w : PointState) (x : Event) → NamesWhatIs p x → AreSmall w.machine →
      AreSmall (after_event p w x).machine
  small_event w (Answer j a) n s = answered_small w.machine j a n.1 s
  small_event w (Submit j) n s = s
  small_event w (Take e q fresh) n s = s
  small_event w (Release j) n s = s
  small_event w (Bind e q) n s = s
  small_event w (Refer a q e) n s = s
  small_event w (Look a q e) n s = s
  small_event w (Unref a q e) n s = s
  small_event w (Complete e) n s = s
  small_event w (Free q) n s = s
  small_event w (Start j) n s = s
  small_event w (Apply j c) n s = s
  small_event w (Signal e) n s = s
  small_event w (Finish j) n s = s

  small_after : (w : PointState) (xs : List Event) → AllNamed p xs → AreSmall w.machine →
      AreSmall (fold (after_event p) w xs).machine
  small_after w [] n s = s
  small_after w (x ∷ xs) n s = small_after (after_event p w x) xs n.1 (small_event w x n.0 s)

-- Turns

-- a turn that its actor made
pub record IsPlayed (p : Plan) (x : Played) : Type 0 where
  pub number : x.number < 2 ^ 64
  pub actor : IsActor p.script x.actor
  pub made : IsMadeBy p x.actor x.outcome

abbrev pub ArePlayed : Plan → List Played → Type 0
ArePlayed p [] = Unit {0}
ArePlayed p (x ∷ xs) = IsPlayed p x × ArePlayed p xs

can_tell : (p : Plan) (n : ℕ) (a : ActorName) (o : Outcome) (es : List Event) → IsMadeBy p a o →
    AllNamed p (cons_option (event_of (record { number = n; actor = a; outcome = o })) es) →
    CanBeTold p a o × AllNamed p es
can_tell p n a (Moved x) es m named = ((named.0, m), named.1)
can_tell p n a (Blocked want) es m named = (tt, named)
can_tell p n a Ended es m named = (tt, named)

told : (p : Plan) (xs : List Played) → ArePlayed p xs → AllNamed p (events_of xs) → AreTold p xs
told p [] m named = tt
told p (x ∷ xs) m named =
    let both = can_tell p x.number x.actor x.outcome (events_of xs) m.0.made named in
    (record { number = m.0.number; actor = m.0.actor; outcome = both.0 }, told p xs m.1 both.1)

-- The end

abbrev pub end_told : ℕ → TraceEnd
end_told zero = record { finished = true; left = 0 }
end_told (suc left) = record { finished = false; left = suc left }

-- the lines behind the end line
abbrev pub behind_end : Plan → State → ℕ → List (List (List ℕ))
behind_end p s zero = rest_parts p s
behind_end p s (suc left) = []

-- the words of the end line
abbrev end_words : ℕ → List (List ℕ)
end_words zero = codes "finished" ∷ []
end_words (suc left) = codes "unfinished" ∷ decimal (suc left) ∷ []

end_whole : (p : Plan) (s : State) (left : ℕ) → end_parts p s left ≡ end_words left ∷ behind_end p s left
end_whole p s zero = refl
end_whole p s (suc left) = refl

end_back : (p : Plan) (left : ℕ) → left < 2 ^ 32 → line_said p (end_words left) ≡ End (end_told left)
end_back p zero l = refl
end_back p (suc left) l =
    ap (λ (o : Option ℕ). option_map_or (λ end. End end) (option_map (λ n. record { finished = false; left = n }) o)
    (option_map_or (λ turn. Turn turn) (turn_said p (codes "unfinished" ∷ decimal (suc left) ∷ [])) Faulty))
    (small_back (suc left) l)

end_kept : (left : ℕ) → left < 2 ^ 32 → are_kept_words (end_words left) ≡ true
end_kept zero l = refl
end_kept (suc left) l =
    kept_on (codes "unfinished") (decimal (suc left) ∷ []) refl
    (kept_on (decimal (suc left)) [] (decimal_kept (suc left) (omega arith)) refl)

module _ (p : Plan) (is : IsPlan p) (lawful : IsLawfulPlan p) (small : HasSmallLines p) (values : HasSmallValues p) where
  behind_kept : (s : State) → AreSmall s → (left : ℕ) → list_all are_kept_words (behind_end p s left) ≡ true
  behind_kept s a zero = rest_kept p small s a is
  behind_kept s a (suc left) = refl

  behind_have : (s : State) (left : ℕ) → HaveWords (behind_end p s left)
  behind_have s zero = rest_have p s
  behind_have s (suc left) = tt

  -- the lines behind the end are those that are asked for
  behind_true : (s : State) → AreSmall s → (left : ℕ) →
      map (join_with_byte 32) (behind_end p s left) ≡ lines_left p s left
  behind_true s a zero =
      sym (kept_lines_back (rest_parts p s) (rest_kept p small s a is)) ∙ ap lines_of (sym (rest_spelled p s))
  behind_true s a (suc left) = refl

  says_left : (left : ℕ) → SaysLeft (end_told left).finished (end_told left).left left
  says_left zero = refl
  says_left (suc left) = (refl, refl)

  few_left : (finished : ℕ → Bool) → jobs_left p finished < 2 ^ 32
  few_left finished =
      let few = (plan_lanes p is).few_jobs in
      let count = length-range_with_len 0 (length p.jobs) in
      let most = count_by-le-length (λ j. not (finished j)) (range_with_len 0 (length p.jobs)) in
      omega arith

  module _ (first : ℕ) (played : List Played) (history : HistoryFrom p (opening_points p) (events_of played))
      (turns : ArePlayed p played) (m : ℕ) (rise : RiseFrom m played) where
    abbrev at_end : State
    at_end = (points_after p (events_of played)).machine

    names : AllNamed p (events_of played)
    names = history_named p is (plan_orderly p is lawful) values (events_of played) history

    answers_small : AreSmall (points_after p (events_of played)).machine
    answers_small = small_after p (opening_points p) (events_of played) names (λ j a e. absurd (let c = e in cc))

    abbrev before : TurnsRead
    before = turns_read no_turns first played

    -- what is read of a trace that leaves so many jobs
    abbrev given_with : ℕ → GivenTrace
    given_with left =
        ended_at before (first + length played) (end_told left)
        (rest_from (first + length played + 1) (map (join_with_byte 32) (behind_end p at_end left)))

    all_kept : (left : ℕ) → left < 2 ^ 32 →
        list_all are_kept_words (map (parts_of p) played ++ end_words left ∷ behind_end p at_end left) ≡ true
    all_kept left l =
        list_all-append are_kept_words (map (parts_of p) played) (end_words left ∷ behind_end p at_end left)
        ∙ and_from (list_all are_kept_words (map (parts_of p) played))
        (list_all are_kept_words (end_words left ∷ behind_end p at_end left))
        (turns_kept p is (plan_orderly p is lawful).chains small values played (told p played turns names))
        (and_from (are_kept_words (end_words left)) (list_all are_kept_words (behind_end p at_end left)) (end_kept left l)
        (behind_kept at_end answers_small left))

    text_lines : (left : ℕ) → left < 2 ^ 32 →
        lines_of (flat_map (turn_line p) played ++ end_text p at_end left)
        ≡ map (join_with_byte 32) (map (parts_of p) played)
        ++ join_with_byte 32 (end_words left) ∷ map (join_with_byte 32) (behind_end p at_end left)
    text_lines left l =
        ap lines_of (trace_spelled p played at_end left
        ∙ ap (λ (ls : List (List (List ℕ))). flat_map line_text (map (parts_of p) played ++ ls)) (end_whole p at_end left))
        ∙ (kept_lines_back (map (parts_of p) played ++ end_words left ∷ behind_end p at_end left) (all_kept left l)
        ∙ map-append (join_with_byte 32) (map (parts_of p) played) (end_words left ∷ behind_end p at_end left))

    reads : (left : ℕ) → left < 2 ^ 32 →
        read_trace p first (flat_map (turn_line p) played ++ end_text p at_end left) ≡ Ok (given_with left)
    reads left l =
        ap (read_from p no_turns first) (text_lines left l)
        ∙ (read_turns p is (plan_orderly p is lawful).chains small values no_turns first m played
        (join_with_byte 32 (end_words left) ∷ map (join_with_byte 32) (behind_end p at_end left))
        (told p played turns names) tt rise
        ∙ ap (go_on before (first + length played) (map (join_with_byte 32) (behind_end p at_end left))
        (λ now. read_from p now (first + length played + 1) (map (join_with_byte 32) (behind_end p at_end left))))
        (ap (line_said p) (kept_words_back (end_words left) (end_kept left l)) ∙ end_back p left l))

    same_events : made_events before.events ≡ events_of played
    same_events = read_events no_turns first played

    is_lawful : (left : ℕ) → jobs_left p at_end.progress.finished ≡ left → IsLawful p (given_with left)
    is_lawful left is_left =
        record {
          may = subst (HistoryFrom p (opening_points p)) (sym same_events) history;
          end = subst (λ (es : List Event). SaysLeft (end_told left).finished (end_told left).left
              (jobs_left p (points_after p es).machine.progress.finished)) (sym same_events)
              (subst (SaysLeft (end_told left).finished (end_told left).left) (sym is_left) (says_left left));
          rest =
              rest_back (first + length played + 1) (behind_end p at_end left) (behind_have at_end left)
              (behind_kept at_end answers_small left)
              ∙ (behind_true at_end answers_small left
              ∙ (ap (lines_left p at_end) (sym is_left)
              ∙ ap (λ (es : List Event). lines_left p (points_after p es).machine
              (jobs_left p (points_after p es).machine.progress.finished)) (sym same_events)));
        }

    -- The text of turns that were played is read as a lawful trace.
    pub reads_back : ReadsBack p first (trace_text p played (points_after p (events_of played)).machine) played
    reads_back =
        record {
          given = given_with (jobs_left p at_end.progress.finished);
          read = reads (jobs_left p at_end.progress.finished) (few_left at_end.progress.finished);
          made = read_made no_turns first played;
          lawful = is_lawful (jobs_left p at_end.progress.finished) refl;
        }
