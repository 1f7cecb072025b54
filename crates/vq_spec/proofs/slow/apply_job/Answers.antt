use Rattle.std.proofs.Common.{◌<◌, ◌∙◌, ap, sym, subst, length, arith, get_or, List, ℕ}
use Rattle.std.specs.List.{slice_get}
use Rattle.vq_model.specs.Plan.{commands_of}
use Rattle.vq_model.specs.FittingCommands.{Fits}
use Rattle.vq_spec.proofs.SlowRuns.{command_exists, seen_fits, after_command}
use Rattle.vq_spec.proofs.slow.apply_job.Goals as goal

pub command-requires : goal.command-requires
command-requires c =
    let p = c.args.plan.now in
    let k = c.loop-c.c-index in
    let own = c.commands_of-c-items.ensures in
    let inside : k < length (commands_of p c.args.j) = omega
    (arith, c.loop-c-test.true, ap length own) in
    let exists = command_exists p c.requires.plan c.args.j k
    inside in
    omega (arith, ap (λ cs. get_or cs k 0) own)

pub apply-requires : goal.apply-requires
apply-requires c =
    let p = c.args.plan.now in
    let k = c.loop-c.c-index in
    let own = c.commands_of-c-items.ensures in
    let inside : k < length (commands_of p c.args.j) = omega
    (arith, c.loop-c-test.true, ap length own) in
    let seen = ap (λ cs. slice_get p.commands (get_or cs k 0)) (sym own) ∙ c.command.ensures in
    subst (λ (sizes : List ℕ). Fits sizes c.command.result.now.command)
    (sym c.loop-c.invariant.sizes)
    (seen_fits p c.requires.plan c.args.j k inside
    c.command.result.now seen)

pub loop-c-preserved : goal.loop-c-preserved
loop-c-preserved c =
    let p = c.args.plan.now in
    let k = c.loop-c.c-index in
    let own = c.commands_of-c-items.ensures in
    let inside : k < length (commands_of p c.args.j) = omega
    (arith, c.loop-c-test.true, ap length own) in
    let seen = ap (λ cs. slice_get p.commands (get_or cs k 0)) (sym own) ∙ c.command.ensures in
    record {
      bytes = after_command p c.args.j k inside c.command.result.now
          seen c.args.buffers.now c.loop-c.buffers c.apply.new.self c.loop-c.invariant.bytes
          c.apply.ensures.bytes;
      sizes = c.apply.ensures.sizes ∙ c.loop-c.invariant.sizes;
    }
