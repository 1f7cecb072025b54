use Rattle.std.proofs.Common.{◌≡◌, ◌∙◌, ◌++◌, List, ap, get_or, refl, subst, sym, ℕ}
use Rattle.vq_model.specs.Memory.{Memory}
use Rattle.vq_model.specs.OutputText.{answers_of, buffers_text}
use Rattle.vq_model.specs.Outputs.{IsOutput}
use Rattle.vq_model.specs.Plan.{Plan}
use Rattle.vq_core.specs.CoreState.{Course, world}
use Rattle.vq_core.specs.Tables.{jobs_left}
use Rattle.vq_replay.specs.SpelledWords.{Spells}
use Rattle.vq_replay.specs.Traces.{end_text}
use Rattle.vq_replay.proofs.Schedules.{actor_there}
use Rattle.vq_replay.proofs.TurnsTraced.{all_traced, plan_stays, writes_first, writes_on}
use Rattle.vq_replay.proofs.text.replay_text.Goals as goal

pub loop-turn-init : goal.loop-turn-init
loop-turn-init c =
    let told = c.in_ok-troupe.ensures {u = tt} in
    writes_first c.args.ordered c.args.turns.now c.in_ok-troupe.troupe c.in_ok-text.text told.course told.first
    (c.in_ok-text.ensures {u = tt})

pub play-outcome-requires : goal.play-outcome-requires
play-outcome-requires c =
    actor_there c.args.ordered c.loop-turn.troupe.course.plan c.loop-turn.invariant.goes.plan c.args.turns.now
    c.requires.actors c.loop-turn.turn _ c.loop-turn-test.true

pub add_turn-requires : goal.add_turn-requires
add_turn-requires c =
    let y = c.play-outcome.new.self in
    let of_plan : c.plan.result.now ≡ c.args.ordered =
    c.plan.ensures.value
    ∙ (c.ordered.ensures.value
    ∙ (ap (λ (d : Course). d.plan) c.core.ensures
    ∙ (plan_stays c.loop-turn.troupe y (get_or c.args.turns.now c.loop-turn.turn _).actor c.play-outcome.result
    c.play-outcome.ensures.turn ∙ c.loop-turn.invariant.goes.plan))) in
    subst (λ (q : Plan). Spells q c.in_ok-words.words) (c.plan-lawful.ensures.value ∙ sym of_plan)
    (c.in_ok-words.ensures {u = tt})

pub loop-turn-preserved : goal.loop-turn-preserved
loop-turn-preserved c =
    let y = c.play-outcome.new.self in
    writes_on c.args.ordered c.args.turns.now c.loop-turn.turn c.loop-turn.text c.loop-turn.troupe
    c.loop-turn.invariant y (get_or c.args.turns.now c.loop-turn.turn _) _ c.play-outcome.result c.plan.result.now
    c.add_turn.new.self c.loop-turn-test.true refl c.play-outcome.ensures.turn c.play-outcome.ensures.blocked
    (c.plan.ensures.value ∙ (c.ordered.ensures.value ∙ ap (λ (d : Course). d.plan) c.core.ensures))
    (c.in_ok-add_turn.ensures {u = tt})

pub returns : goal.returns
returns c =
    let core = c.core-core.result.now in
    let history = c.history-history.ensures in
    let buffers = c.buffers-buffers.ensures in
    all_traced c.args.ordered c.args.turns.now c.loop-turn.turn c.loop-turn.text c.loop-turn.troupe
    c.loop-turn.invariant c.loop-turn-test.false core c.core-core.ensures c.push_end.new.out.items
    (c.in_ok-push_end.ensures {u = tt}
    ∙ ap (λ (xs : List ℕ). xs ++ end_text core.plan (world core).machine
    (jobs_left core.plan (world core).machine.progress.finished)) (c.in_ok-text-2.ensures {u = tt})) history.course history.run history.points history.pending
    (λ done. sym buffers.bytes ∙ buffers.ends done)
    (λ done. subst (λ (m : Memory). IsOutput core.plan (answers_of core.plan (world core).machine
    ++ buffers_text core.plan.script.buffers m)) buffers.bytes (buffers.output done))
