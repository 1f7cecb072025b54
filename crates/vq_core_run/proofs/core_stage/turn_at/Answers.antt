use Rattle.std.proofs.Common.{◌∙◌, Some, ap, subst, arith}
use Rattle.vq_point_laws.specs.Points.{PointState}
use Rattle.vq_turns.specs.declared.outcome.Outcome.{Outcome}
use Rattle.vq_turns.specs.Turns.{world_after}
use Rattle.vq_turns.specs.Wants.{IsNotSo}
use Rattle.vq_actor.specs.Meanings.{Meaning}
use Rattle.vq_core.specs.CoreState.{world}
use Rattle.vq_core_run.proofs.CoreAnswers.{some_same}
use Rattle.vq_core_run.proofs.core_stage.turn_at.Goals as goal

pub returns-clause-shown : goal.returns-clause-shown
returns-clause-shown c want blocked =
    let k = c.turn.ensures.turn in
    let w = world c.args.core.now in
    let told = k.named w (ap (λ (m : Meaning). m.state) c.new-access.ensures.meaning) in
    let here = told.1 ∙ ap (λ (o : Outcome). Some (world_after c.new-access.result.core.now.plan w o)) blocked in
    subst (λ (v : PointState). IsNotSo v want) (some_same _ w here)
    (k.shown want blocked (0, 0) (omega arith, omega arith))
