-- The text of a schedule whose turns are written as they are played.
use Rattle.std.proofs.Common.{◌≡◌, ◌+◌, ◌≤◌, ◌<◌, ◌++◌, ◌∷◌, [], ℕ, List, length, get_or, append-nil, refl, sym, subst, ap, ◌∙◌}
use Rattle.std.specs.List.{flat_map}
use Rattle.std.proofs.lemmas.Grind.{flat_map-append}
use Rattle.vq_model.specs.declared.script.ActorName.{ActorName}
use Rattle.vq_model.specs.declared.script.Turn.{Turn}
use Rattle.vq_model.specs.Plan.{Plan}
use Rattle.vq_model.specs.Machine.{AreFinished, Run}
use Rattle.vq_model.specs.OutputText.{answers_of, buffers_text}
use Rattle.vq_model.specs.Outputs.{IsOutput}
use Rattle.vq_model.specs.SlowRun.{bytes_after, final}
use Rattle.vq_point_laws.specs.HistoryLaws.{PointLaw, PendingLaw}
use Rattle.vq_point_laws.specs.Points.{HistoryFrom, opening_points, steps_of}
use Rattle.vq_turns.specs.declared.outcome.Outcome.{Outcome}
use Rattle.vq_turns.specs.declared.outcome.Outcome.TheVariants.{Blocked}
use Rattle.vq_turns.specs.declared.outcome.Want.{Want}
use Rattle.vq_turns.specs.Wants.{IsNotSo}
use Rattle.vq_core.specs.CoreState.{Course, world}
use Rattle.vq_core.specs.Tables.{jobs_left}
use Rattle.vq_core_run.specs.Casts.{Cast, Plays, first_places, places}
use Rattle.vq_core_run.proofs.Cited.{plan_kept}
use Rattle.vq_replay.specs.declared.played.Played.{Played}
use Rattle.vq_replay.specs.Schedules.{HasWritten}
use Rattle.vq_replay.specs.Traces.{end_text, events_of, played_turns, trace_text, turn_line}
use Rattle.vq_replay.specs.Traced.{IsTrace}
use Rattle.vq_replay.proofs.Schedules.{at_end, begins, core_at_end, goes_on}

-- Before the first turn.
pub writes_first : (p : Plan) (turns : List Turn) (x : Cast) (text : List ℕ) →
    x.course ≡ record { plan = p; history = [] } → places x ≡ first_places → text ≡ [] → HasWritten p turns 0 text x
writes_first p turns x text new first none =
    record { played = []; goes = begins p turns x new first; lines = none }

-- A turn leaves the plan as it is.
pub plan_stays : (x y : Cast) (a : ActorName) (o : Outcome) → Plays x y a o → y.course.plan ≡ x.course.plan
plan_stays x y a o h = ap (λ (c : Course). c.plan) h.course ∙ plan_kept x.course o

-- One turn more.
module _ (p : Plan) (turns : List Turn) (n : ℕ) (text : List ℕ) (x : Cast) (h : HasWritten p turns n text x) where
  pub writes_on : (y : Cast) (t d : Turn) (o : Outcome) (q : Plan) (more : List ℕ) → n < length turns →
      get_or turns n d ≡ t → Plays x y t.actor o →
      ((want : Want) → o ≡ Blocked want → IsNotSo (world x.course) want) → q ≡ y.course.plan →
      more ≡ text ++ turn_line q (record { number = n + 1; actor = t.actor; outcome = o }) →
      HasWritten p turns (n + 1) more y
  writes_on y t d o q more within is k isnt same e =
      let one : Played = record { number = n + 1; actor = t.actor; outcome = o } in
      let played = h.played ++ one ∷ [] in
      let goes = goes_on p turns n h.played x h.goes y t d o played within is k isnt refl in
      let last : flat_map (turn_line p) (one ∷ []) ≡ turn_line p one = append-nil (turn_line p one) in
      record {
        played = played;
        goes = goes;
        lines =
            e
            ∙ (ap (λ (r : Plan). text ++ turn_line r one) (same ∙ goes.plan)
            ∙ (ap (λ (xs : List ℕ). xs ++ turn_line p one) h.lines
            ∙ (ap (λ (xs : List ℕ). flat_map (turn_line p) h.played ++ xs) (sym last)
            ∙ sym (flat_map-append (turn_line p) h.played (one ∷ [])))));
      }

traced : (p : Plan) (turns : List Turn) (core : Course) (played : List Played) (text : List ℕ) →
    played ≡ played_turns p turns → core ≡ record { plan = p; history = events_of (played_turns p turns) } →
    text ≡ trace_text core.plan played (world core).machine →
    HistoryFrom core.plan (opening_points core.plan) core.history → Run core.plan (steps_of core.history) →
    PointLaw core.plan core.history → PendingLaw core.plan core.history →
    (AreFinished core.plan (world core).machine.progress →
    bytes_after core.plan (world core).machine.progress.applied ≡ final core.plan) →
    (AreFinished core.plan (world core).machine.progress → IsOutput core.plan (answers_of core.plan (world core).machine
    ++ buffers_text core.plan.script.buffers (bytes_after core.plan (world core).machine.progress.applied))) →
    IsTrace p turns text
traced p turns core played text all is spelled history run points pending bytes output =
    let there : Course = record { plan = p; history = events_of (played_turns p turns) } in
    record {
      spelled =
          spelled
          ∙ (ap (λ (c : Course). trace_text c.plan played (world c).machine) is
          ∙ ap (λ (ps : List Played). trace_text p ps (world there).machine) all);
      history = subst (λ (c : Course). HistoryFrom c.plan (opening_points c.plan) c.history) is history;
      run = subst (λ (c : Course). Run c.plan (steps_of c.history)) is run;
      point_law = subst (λ (c : Course). PointLaw c.plan c.history) is points;
      pending_law = subst (λ (c : Course). PendingLaw c.plan c.history) is pending;
      bytes =
          subst (λ (c : Course). AreFinished c.plan (world c).machine.progress →
          bytes_after c.plan (world c).machine.progress.applied ≡ final c.plan) is bytes;
      output =
          subst (λ (c : Course). AreFinished c.plan (world c).machine.progress →
          IsOutput c.plan (answers_of c.plan (world c).machine
          ++ buffers_text c.plan.script.buffers (bytes_after c.plan (world c).machine.progress.applied))) is output;
    }

-- All turns, and then what they leave.
pub all_traced : (p : Plan) (turns : List Turn) (n : ℕ) (lines : List ℕ) (x : Cast) → HasWritten p turns n lines x →
    length turns ≤ n → (core : Course) → core ≡ x.course → (text : List ℕ) →
    text ≡ lines ++ end_text core.plan (world core).machine (jobs_left core.plan (world core).machine.progress.finished) →
    HistoryFrom core.plan (opening_points core.plan) core.history → Run core.plan (steps_of core.history) →
    PointLaw core.plan core.history → PendingLaw core.plan core.history →
    (AreFinished core.plan (world core).machine.progress →
    bytes_after core.plan (world core).machine.progress.applied ≡ final core.plan) →
    (AreFinished core.plan (world core).machine.progress → IsOutput core.plan (answers_of core.plan (world core).machine
    ++ buffers_text core.plan.script.buffers (bytes_after core.plan (world core).machine.progress.applied))) →
    IsTrace p turns text
all_traced p turns n lines x h past core same text spelled history run points pending bytes output =
    let of_plan : core.plan ≡ p = ap (λ (c : Course). c.plan) same ∙ h.goes.plan in
    let end : List ℕ =
    end_text core.plan (world core).machine (jobs_left core.plan (world core).machine.progress.finished) in
    traced p turns core h.played text (at_end p turns n h.played x h.goes past)
    (same ∙ core_at_end p turns n h.played x h.goes past)
    (spelled
    ∙ (ap (λ (xs : List ℕ). xs ++ end) h.lines
    ∙ ap (λ (r : Plan). flat_map (turn_line r) h.played ++ end) (sym of_plan)))
    history run points pending bytes output
