use Rattle.std.proofs.Common.{◌++◌, ap, append-nil, refl, subst, ◌∙◌}
use Rattle.vq_access.specs.Grounding.{plan_at}
use Rattle.vq_board_run.specs.Answered.{answer_by, lines_of}
use Rattle.vq_model.specs.Plan.{Plan}
use Rattle.vq_board_run.specs.Rooming.{IsRoomTurn}
use Rattle.vq_turns.specs.declared.outcome.Outcome.{Outcome}
use Rattle.vq_shared_run.proofs.turns.led.Goals as goal

pub returns-in-Ended-clause-turn : goal.returns-in-Ended-clause-turn
returns-in-Ended-clause-turn c =
    let lead = c.args.lead in
    let h = c.host_turn-room.ensures in
    let s = c.host_turn-room.result.0 in
    let o = c.host_turn-room.result.1 in
    let p = plan_at c.new-grounds.result in (
      c.in-Ended.is,
      h.kept
          ∙ (ap (λ (x : Outcome). lead.answers.items ++ lines_of p (answer_by x)) c.in-Ended.is
          ∙ append-nil lead.answers.items),
      refl,
      (
        s,
        c.into_pass.ensures.pass,
        record {
          turn = subst (λ (q : Plan). IsRoomTurn q lead.room s o) c.new-grounds.ensures.plan h.turn;
          owner = h.owner;
          told = h.told;
          shown = h.shown;
        },
      ),
    )
