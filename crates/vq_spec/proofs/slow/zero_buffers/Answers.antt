use Rattle.std.proofs.Common.{ap, length, arith, ◌∙◌}
use Rattle.std.proofs.lemmas.List.{length-map}
use Rattle.std.proofs.lemmas.Result.{IfOk-weaker}
use Rattle.vq_model.specs.Memory.{zeros_of}
use Rattle.vq_model.specs.ValidScripts.{sizes_of}
use Rattle.vq_spec.proofs.SlowRuns.{few_buffers, zeros_sized}
use Rattle.vq_spec.proofs.slow.zero_buffers.Goals as goal

pub new-requires : goal.new-requires
new-requires c =
    omega (
      arith,
      few_buffers c.args.script.now c.requires,
      c.as_slice.ensures.len,
      ap length
          c.as_slice.ensures.value,
      ap length (c.in_ok-sizes.ensures {u = tt}),
      length-map
          c.args.script.now.buffers (λ b. b.size),
    )

pub returns-clause-sizes : goal.returns-clause-sizes
returns-clause-sizes c =
    let same = c.as_slice.ensures.value ∙ c.in_ok-sizes.ensures {u = tt} in
    IfOk-weaker c.new.result _ _
    (λ m h. zeros_sized (sizes_of c.args.script.now) m (h ∙ ap zeros_of same)) c.new.ensures
