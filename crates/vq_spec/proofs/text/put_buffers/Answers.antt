use Rattle.std.proofs.Common.{◌≡◌, ◌≤◌, ◌<◌, ◌+◌, ◌∙◌, List, [], ap, get_or, length, vec_capacity, arith}
use Rattle.std.proofs.lemmas.List.{length-map}
use Rattle.vq_model.specs.declared.script.Buffer.{Buffer}
use Rattle.vq_model.specs.declared.script.Script.{Script}
use Rattle.vq_model.specs.OutputText.{buffer_text, buffers_text}
use Rattle.vq_text.proofs.Cited.{next_fits}
use Rattle.vq_spec.proofs.text.put_buffers.Goals as goal

pub put_buffer-requires : goal.put_buffer-requires
put_buffer-requires c =
    let bs = c.args.plan.now.script.buffers in
    let m = c.args.buffers.now in
    let k = c.loop-b.b in
    let b = c.index-declared-b.result in
    let declared : c.as_slice-declared.result.now ≡ bs =
    c.as_slice-declared.ensures ∙ ap (λ (s : Script). s.buffers) c.script.ensures.script in
    let item : b ≡ get_or bs k b =
    c.index-declared-b.is ∙ ap (λ (xs : List Buffer). get_or xs k b) declared in
    let count : length m ≡ length bs =
    c.requires.sizes.count ∙ length-map bs (λ (x : Buffer). x.size) in
    let jobs = c.count-b-end.ensures.count in
    let test = c.loop-b-test.true in
    let within : k < length bs = omega arith in
    let old = c.args.out.now.ok.0 in
    let now = c.loop-b.out.ok.0 in
    let given = c.requires.room in
    let room : length c.args.out.now.items + length (buffers_text bs m) ≤ vec_capacity c.args.out.now = omega arith in
    let fits : length c.loop-b.out.items + length (buffer_text (get_or bs k b) (get_or m k []))
    ≤ vec_capacity c.args.out.now =
    next_fits bs m k c.args.out.now.items c.loop-b.out.items (vec_capacity c.args.out.now) c.loop-b.invariant.0 room
    b within count in
    let same : length (buffer_text b c.bytes.result.now) ≡ length (buffer_text (get_or bs k b) (get_or m k [])) =
    (λ i. length (buffer_text (item i) (c.bytes.ensures i))) in
    let kept = c.loop-b.invariant.1 in
    omega arith
