-- The text of rounds that were played.
use Rattle.std.proofs.Common.{◌≡◌, ℕ, List, [], ◌++◌, sym, subst, ap, ◌∙◌, append-nil}
use Rattle.std.specs.List.{flat_map}
use Rattle.std.proofs.lemmas.Grind.{flat_map-append}
use Rattle.vq_model.specs.Plan.{Plan}
use Rattle.vq_model.specs.Machine.{AreFinished, Run}
use Rattle.vq_model.specs.OutputText.{answers_of, buffers_text}
use Rattle.vq_model.specs.Outputs.{IsOutput}
use Rattle.vq_model.specs.SlowRun.{bytes_after, final}
use Rattle.vq_point_laws.specs.HistoryLaws.{PointLaw, PendingLaw}
use Rattle.vq_point_laws.specs.Points.{HistoryFrom, opening_points, steps_of}
use Rattle.vq_core.specs.CoreState.{Course, world}
use Rattle.vq_replay.specs.declared.played.Played.{Played}
use Rattle.vq_replay.specs.Passages.{AreWritten}
use Rattle.vq_replay.specs.Rounds.{HaveFinished, IsRoundsTrace, moved_turns, state_after_rounds}
use Rattle.vq_replay.specs.Traces.{events_of, finished_text, turn_line}

-- The lines of all turns stand in a text, once those of the turns that were kept do too.
pub all_written : (p : Plan) (turns : List Played) (text more : List ℕ) (kept : List Played) →
    AreWritten p turns text kept → more ≡ text ++ flat_map (turn_line p) kept → more ≡ flat_map (turn_line p) turns
all_written p turns text more kept h e =
    e
    ∙ (ap (λ (xs : List ℕ). xs ++ flat_map (turn_line p) kept) h.lines
    ∙ (sym (flat_map-append (turn_line p) h.written kept) ∙ ap (flat_map (turn_line p)) h.both))

-- .. and nothing is kept then.
pub written_on : (p : Plan) (turns : List Played) (text more : List ℕ) (kept : List Played) →
    AreWritten p turns text kept → more ≡ text ++ flat_map (turn_line p) kept → AreWritten p turns more []
written_on p turns text more kept h e =
    record { written = turns; both = append-nil turns; lines = all_written p turns text more kept h e }

-- A round more is kept.
pub written_more : (p : Plan) (turns later : List Played) (text : List ℕ) (kept more : List Played) →
    AreWritten p turns text kept → ((before : List Played) → before ++ kept ≡ turns → before ++ more ≡ later) →
    AreWritten p later text more
written_more p turns later text kept more h f =
    record { written = h.written; both = f h.written h.both; lines = h.lines }

pub rounds_traced : (p : Plan) (core : Course) (played : List Played) (text : List ℕ) → HaveFinished p played core →
    text ≡ flat_map (turn_line core.plan) played ++ finished_text core.plan (world core).machine →
    HistoryFrom core.plan (opening_points core.plan) core.history → Run core.plan (steps_of core.history) →
    PointLaw core.plan core.history → PendingLaw core.plan core.history →
    (AreFinished core.plan (world core).machine.progress →
    bytes_after core.plan (world core).machine.progress.applied ≡ final core.plan) →
    (AreFinished core.plan (world core).machine.progress → IsOutput core.plan (answers_of core.plan (world core).machine
    ++ buffers_text core.plan.script.buffers (bytes_after core.plan (world core).machine.progress.applied))) →
    IsRoundsTrace p text
rounds_traced p core played text h spelled history run points pending bytes output =
    let turns = moved_turns p h.rounds in
    let is = h.course in
    let there : Course = record { plan = p; history = events_of turns } in
    let done : AreFinished p (state_after_rounds p h.rounds).progress =
    subst (λ (c : Course). AreFinished p (world c).machine.progress) is h.finished in
    record {
      rounds = h.rounds;
      few = h.few;
      finish = h.finish;
      spelled =
          spelled
          ∙ (ap (λ (c : Course). flat_map (turn_line c.plan) played ++ finished_text c.plan (world c).machine) is
          ∙ ap (λ (ps : List Played). flat_map (turn_line p) ps ++ finished_text p (world there).machine) h.moved);
      finished = done;
      history = subst (λ (c : Course). HistoryFrom c.plan (opening_points c.plan) c.history) is history;
      run = subst (λ (c : Course). Run c.plan (steps_of c.history)) is run;
      point_law = subst (λ (c : Course). PointLaw c.plan c.history) is points;
      pending_law = subst (λ (c : Course). PendingLaw c.plan c.history) is pending;
      bytes =
          subst (λ (c : Course). AreFinished c.plan (world c).machine.progress →
          bytes_after c.plan (world c).machine.progress.applied ≡ final c.plan) is bytes done;
      output =
          subst (λ (c : Course). AreFinished c.plan (world c).machine.progress →
          IsOutput c.plan (answers_of c.plan (world c).machine
          ++ buffers_text c.plan.script.buffers (bytes_after c.plan (world c).machine.progress.applied))) is output done;
    }
