use Rattle.std.proofs.Common.{◌≡◌, ◌∙◌, ap, sym, length, arith, rules, get_or}
use Rattle.std.specs.List.{slice_get}
use Rattle.std.proofs.lemmas.Option.{slice_get-get_or}
use Rattle.vq_actor.proofs.ProgramsMade.{command_added, commands_end}
use Rattle.vq_actor.proofs.programs.batches.push_commands.Goals as goal

pub loop-place-preserved : goal.loop-place-preserved
loop-place-preserved c =
    let x = c.job.result.now in
    let k = c.loop-place.place in
    let cs = c.commands_of-commands.result.now in
    let e = c.as_slice-needs.ensures in
    let f = c.in_ok-push_waits.ensures {u = tt} in
    command_added c.args.plan.now c.args.j x c.job.ensures k (get_or cs k 0) c.args.tasks.now.items
    c.loop-place.tasks.items c.push_waits.new.tasks.items c.push.new.self.items
    (ap (λ ds. slice_get ds k) (sym c.commands_of-commands.ensures)
    ∙ slice_get-get_or cs k 0 c.loop-place-test.true)
    c.loop-place.invariant (search rules) (search rules)

pub returns : goal.returns
returns c =
    let x = c.job.result.now in
    let at_end : c.loop-place.place ≡ length c.commands_of-commands.result.now =
    omega (arith, c.loop-place.auto.place-end, c.loop-place-test.false) in
    commands_end c.args.plan.now c.args.j x c.job.ensures c.loop-place.place c.args.tasks.now.items
    c.loop-place.tasks.items (at_end ∙ ap length c.commands_of-commands.ensures) c.loop-place.invariant
