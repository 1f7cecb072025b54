use Rattle.std.proofs.Common.{◌≡◌, ◌+◌, ◌++◌, ◌∙◌, ℕ, List, ap, refl, subst, sym}
use Rattle.std.specs.List.{flat_map}
use Rattle.vq_model.specs.Memory.{Memory}
use Rattle.vq_model.specs.OutputText.{answers_of, buffers_text}
use Rattle.vq_model.specs.Outputs.{IsOutput}
use Rattle.vq_model.specs.Plan.{Plan}
use Rattle.vq_core.specs.CoreState.{Course, world}
use Rattle.vq_replay.specs.declared.played.Played.{Played}
use Rattle.vq_replay.specs.SpelledWords.{Spells}
use Rattle.vq_replay.specs.Passages.{AreWritten}
use Rattle.vq_replay.specs.Rounds.{HaveFinished, moved_turns}
use Rattle.vq_replay.specs.Traces.{finished_text, turn_line}
use Rattle.vq_replay.proofs.RoundsPlayed.{all_finished, kept_on, not_past, told_end, told_left}
use Rattle.vq_replay.proofs.RoundsTraced.{all_written, rounds_traced, written_more}
use Rattle.vq_replay.proofs.fair.rounds_text.Goals as goal

pub add-requires : goal.add-requires
add-requires c =
    let of_plan : c.plan-plan.result.now ≡ c.args.ordered =
    c.plan-plan.ensures.value
    ∙ (c.ordered.ensures.value ∙ (ap (λ (d : Course). d.plan) c.core-core.ensures ∙ c.loop-count.invariant.0)) in
    subst (λ (q : Plan). Spells q c.in_ok-words.words) (c.plan-lawful.ensures.value ∙ sym of_plan)
    (c.in_ok-words.ensures {u = tt})

pub write_many-requires : goal.write_many-requires
write_many-requires c =
    let of_plan : c.plan-plan.result.now ≡ c.args.ordered =
    c.plan-plan.ensures.value
    ∙ (c.ordered.ensures.value ∙ (ap (λ (d : Course). d.plan) c.core-core.ensures ∙ c.loop-count.invariant.0)) in
    subst (λ (q : Plan). Spells q c.in_ok-words.words) (c.plan-lawful.ensures.value ∙ sym of_plan)
    (c.in_ok-words.ensures {u = tt})

pub returns-then-finished : goal.returns-then-finished
returns-then-finished c =
    let p = c.args.ordered in
    let x = c.loop-count.fair in
    let so = c.loop-count.invariant in
    let core = c.core-core.result.now in
    let turns = moved_turns p c.loop-count._count in
    let lawful = c.plan-lawful.ensures in
    let history = c.history-history.ensures in
    let buffers = c.buffers-buffers.ensures in
    let of_core : core.plan ≡ p = ap (λ (d : Course). d.plan) c.core-core.ensures ∙ so.0 in
    let of_plan : c.plan-plan.result.now ≡ p = c.plan-plan.ensures.value ∙ (c.ordered.ensures.value ∙ of_core) in
    let done = told_end x.troupe core c.core-core.ensures c.finished.result c.finished.ensures c.if-finished.true in
    let have : HaveFinished p turns core =
    subst (HaveFinished p turns) (sym c.core-core.ensures)
    (all_finished p x.rounds c.loop-count._count x.turns x.troupe x.rests x.round.items so.1.1.0 so.0 so.1.0
    lawful.read lawful.lawful done turns refl) in
    let lines : c.add.new.self ≡ flat_map (turn_line p) turns =
    all_written p turns c.loop-count.text c.add.new.self c.loop-count.played.items so.1.1.1
    (c.in_ok-add.ensures {u = tt}
    ∙ (ap (λ (q : Plan). c.loop-count.text ++ flat_map (turn_line q) c.as_slice.result.now) of_plan
    ∙ ap (λ (ps : List Played). c.loop-count.text ++ flat_map (turn_line p) ps) c.as_slice.ensures.value)) in
    let spelled = c.in_ok-push_finished.ensures {u = tt}
    ∙ (ap (λ (xs : List ℕ). xs ++ finished_text core.plan (world core).machine) (c.in_ok-text-2.ensures {u = tt} ∙ lines)
    ∙ ap (λ (q : Plan). flat_map (turn_line q) turns ++ finished_text core.plan (world core).machine) (sym of_core)) in
    rounds_traced p core turns c.push_finished.new.out.items have spelled
    history.course history.run history.points history.pending
    (λ done. sym buffers.bytes ∙ buffers.ends done)
    (λ done. subst (λ (m : Memory). IsOutput core.plan (answers_of core.plan (world core).machine
    ++ buffers_text core.plan.script.buffers m)) buffers.bytes (buffers.output done))

pub play_round-requires-clause-left : goal.play_round-requires-clause-left
play_round-requires-clause-left c =
    told_left c.loop-count.fair.troupe c.core-core.result.now c.core-core.ensures c.finished.result c.finished.ensures
    c.if-finished.false

pub loop-count-preserved : goal.loop-count-preserved
loop-count-preserved c =
    let p = c.args.ordered in
    let x = c.loop-count.fair in
    let n = c.loop-count._count in
    let so = c.loop-count.invariant in
    let more = c.in_ok-play_round.ensures {u = tt} in
    let of_plan : c.plan-plan.result.now ≡ p =
    c.plan-plan.ensures.value
    ∙ (c.ordered.ensures.value ∙ (ap (λ (d : Course). d.plan) c.core-core.ensures ∙ so.0)) in
    let written : AreWritten p (moved_turns p n) c.write_many.new.text c.write_many.new.played.items =
    subst (λ (q : Plan). AreWritten q (moved_turns p n) c.write_many.new.text c.write_many.new.played.items) of_plan
    (c.in_ok-write_many.ensures {u = tt} (moved_turns p n)
    (subst (λ (q : Plan). AreWritten q (moved_turns p n) c.loop-count.text c.loop-count.played.items)
    (sym of_plan) so.1.1.1)) in (
      more.plan ∙ so.0,
      (
        more.rounds ∙ ap (λ (m : ℕ). m + 1) so.1.0,
        (
          more.under_way,
          written_more p (moved_turns p n) (moved_turns p (n + 1)) c.write_many.new.text c.write_many.new.played.items
              c.play_round.new.played.items written
              (kept_on p x.troupe.course.plan x.rounds n so.0 so.1.0 c.write_many.new.played.items c.play_round.new.played.items
              more.played),
        ),
      ),
    )

pub unreachable-requires : goal.unreachable-requires
unreachable-requires c =
    let x = c.loop-count.fair in
    let so = c.loop-count.invariant in
    let lawful = c.plan-lawful.ensures in
    not_past c.args.ordered x.rounds c.loop-count._count x.turns x.troupe x.rests x.round.items so.1.1.0 so.0 so.1.0
    lawful.read lawful.lawful c.loop-count-test.false
