use Rattle.std.proofs.Common.{ap, ◌∙◌}
use Rattle.vq_model.specs.declared.script.Script.{Script}
use Rattle.vq_spec.proofs.TextRooms.{room_is}
use Rattle.vq_spec.proofs.text_room.TextRoom.new.Goals as goal

pub returns : goal.returns
returns c =
    room_is c.args.plan.now c.as_slice.result.now c.asking-answers.result c.buffers_room-buffers.result
    c.in_ok-text.text.cap (c.as_slice.ensures ∙ ap (λ (s : Script). s.buffers) c.script.ensures.script)
    c.asking-answers.ensures.exact c.buffers_room-buffers.ensures
    (c.in_ok-text.ensures.exact ∙ c.saturating_add.ensures) c.in_ok-text.text.small
