use Rattle.std.proofs.Common.{◌≡◌, ◌∙◌, ap, length, refl, vec_capacity, arith}
use Rattle.vq_model.specs.FittingCommands.{HasSizes}
use Rattle.vq_model.specs.Memory.{zeros_of}
use Rattle.vq_model.specs.ValidScripts.{sizes_of}
use Rattle.vq_text.proofs.Cited.{same_size}
use Rattle.vq_spec.proofs.SlowRuns.{zeros_sized}
use Rattle.vq_spec.specs.TextRooms.{text_room}
use Rattle.vq_spec.proofs.text_room.TextRoom.fill.Goals as goal

pub put_buffers-requires-clause-room : goal.put_buffers-requires-clause-room
put_buffers-requires-clause-room c =
    let p = c.args.plan.now in
    let sizes = sizes_of p.script in
    let sized : HasSizes sizes (zeros_of sizes) = zeros_sized sizes (zeros_of sizes) refl in
    let same = same_size p.script.buffers c.args.buffers.now (zeros_of sizes) c.requires.buffers sized in
    let empty : length c.self.inside.text.items ≡ 0 = ap length c.self.invariant in
    let len = c.self.inside.text.ok.0 in
    let view : vec_capacity c.self.inside.text ≡ text_room p = c.self.view_is ∙ c.requires.room in
    let few = c.requires.answers in
    omega arith
