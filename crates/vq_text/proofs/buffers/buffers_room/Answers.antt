use Rattle.std.proofs.Common.{◌≡◌, ◌∙◌, ◌+◌, ◌-◌, ◌^◌, ap, subst, sym, min, sum_by, ℕ, List, length, take}
use Rattle.std.proofs.lemmas.List.{take_all}
use Rattle.vq_model.specs.declared.script.Buffer.{Buffer}
use Rattle.vq_model.specs.OutputText.{buffer_text}
use Rattle.vq_text.proofs.TextSizes.{room_more, size_of, whole_size}
use Rattle.vq_text.proofs.buffers.buffers_room.Goals as goal

pub loop-buffer-preserved : goal.loop-buffer-preserved
loop-buffer-preserved c =
    room_more c.args.buffers.now c.loop-buffer.buffer-index c.buffer-item.result c.loop-buffer.room
    c.buffer_room.result c.saturating_add-room.result c.loop-buffer-test.true c.loop-buffer.invariant
    (subst (λ (b : Buffer). (bytes : List ℕ) → length bytes ≡ b.size → c.buffer_room.result ≡ length (buffer_text b bytes))
    c.buffer-item.is c.buffer_room.ensures) c.saturating_add-room.ensures

pub returns : goal.returns
returns c = λ m sizes.
    let whole = whole_size c.args.buffers.now m sizes in
    let all : take c.loop-buffer.buffer-index c.args.buffers.now ≡ c.args.buffers.now =
    take_all c.loop-buffer.buffer-index c.args.buffers.now c.loop-buffer-test.false in
    c.loop-buffer.invariant ∙ ap (λ (n : ℕ). min n (2 ^ 64 - 1))
    (ap (λ (bs : List Buffer). 4 + sum_by size_of bs) all ∙ sym whole)
