use Rattle.std.proofs.Common.{◌∙◌, ◌++◌, List, ℕ, ap}
use Rattle.std.proofs.lemmas.Result.{on_ok_weaker}
use Rattle.vq_model.specs.Plan.{Plan}
use Rattle.vq_model.specs.OutputText.{answers_of, buffers_text}
use Rattle.vq_core.specs.CoreState.{world}
use Rattle.vq_replay.proofs.TraceEnds.{finished}
use Rattle.vq_replay.proofs.text.push_finished.Goals as goal

pub returns : goal.returns
returns c =
    let d = c.args.core.now in
    let s = (world d).machine in
    let word = (c.in_ok-extend_from_slice.ensures {u = tt}).items in
    let given = c.in_ok-push_answers.ensures {u = tt} in
    let plan = c.plan.ensures.value ∙ c.ordered.ensures.value in
    let text : List ℕ = buffers_text c.plan.result.now.script.buffers c.buffers.result.now in
    on_ok_weaker c.push_buffers.result (λ last.
    finished d.plan s c.args.out.now.items c.push_buffers.new.out.items text
    (last ∙ (ap (λ (xs : List ℕ). xs ++ text) given
    ∙ ap (λ (xs : List ℕ). (xs ++ answers_of d.plan s) ++ text) word))
    (ap (λ (p : Plan). buffers_text p.script.buffers c.buffers.result.now) plan
    ∙ ap (buffers_text d.plan.script.buffers) c.buffers.ensures.bytes)) c.push_buffers.ensures
