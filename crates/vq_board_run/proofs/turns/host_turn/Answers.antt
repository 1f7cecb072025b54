use Rattle.std.proofs.Common.{◌≡◌, ◌<◌, ◌≤◌, ◌∙◌, length, sym, arith, subst}
use Rattle.vq_model.specs.Outputs.{asking}
use Rattle.vq_model.specs.Plan.{Plan}
use Rattle.vq_access.specs.Grounding.{plan_at, board_at}
use Rattle.vq_board.specs.Named.{plan_of}
use Rattle.vq_board_run.specs.Rooming.{view_of}
use Rattle.vq_board_run.proofs.Leading.{lead_answered, lead_other, has_room}
use Rattle.vq_board_run.proofs.turns.host_turn.Goals as goal
use Rattle.vq_board_run.proofs.turns.host_turn.Goals.{in-Some, in_default}

pub keep-requires : goal.keep-requires
keep-requires g c =
    let grounds = c.args.grounds.now in
    let turn = c.take_turn-room in
    let lines = c.args.answers.now in
    let told = (view_of turn.result.0).told in
    let few : length told ≤ length (asking (plan_of (board_at grounds))) =
    subst (λ (p : Plan). length told ≤ length (asking p)) (sym grounds.planned) turn.ensures.few in
    let room : length lines.items < length (asking (plan_at grounds)) =
    subst (λ (p : Plan). length lines.items < length (asking p)) grounds.planned
    (has_room (board_at grounds) c.args.room turn.result.0 turn.result.1 lines.items c.requires.lead
    turn.ensures.board turn.ensures.owner turn.ensures.told few c.in-Some.job c.in-Some.answer
    (sym c.answer_of.ensures ∙ c.in-Some.is)) in
    let reserved = c.requires.reserved in
    let count = lines.ok.0 in
    omega (arith, room, reserved, count)

pub returns-clause-lead : goal.returns-clause-lead
returns-clause-lead g c =
    let grounds = c.args.grounds.now in
    let turn = c.take_turn-room in
    let lines = c.args.answers.now in
    let after = c.match-answer_of.answers in
    let told = (view_of turn.result.0).told in
    let few : length told ≤ length (asking (plan_of (board_at grounds))) =
    subst (λ (p : Plan). length told ≤ length (asking p)) (sym grounds.planned) turn.ensures.few in
    elim c.match-answer_of.branch [
      | in-Some w ↦ lead_answered (board_at grounds) c.args.room turn.result.0 turn.result.1 lines.items c.requires.lead
          turn.ensures.board turn.ensures.owner turn.ensures.told few w.plan.result.now w.in-Some.job w.in-Some.answer
          after.items (w.plan.ensures.value ∙ (w.ordered.ensures ∙ sym grounds.planned))
          (sym c.answer_of.ensures ∙ w.in-Some.is)
          (let same : after.items ≡ w.keep.new.answers.items = λ i. (w.answers-is i).items in
          same ∙ w.keep.ensures.items)
      | in_default w ↦ lead_other (board_at grounds) c.args.room turn.result.0 turn.result.1 lines.items
          c.requires.lead turn.ensures.board turn.ensures.owner turn.ensures.told few after.items
          (sym c.answer_of.ensures ∙ w.in_default.is) (λ i. (w.answers-is i).items)
    ]
