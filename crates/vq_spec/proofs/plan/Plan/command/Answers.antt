use Rattle.std.proofs.Common.{◌-◌, ◌∙◌, ap, length, arith, refl, get_or}
use Rattle.std.proofs.lemmas.Option.{slice_get_read}
use Rattle.vq_model.specs.declared.script.Job.TheVariants.{Host, Batch}
use Rattle.vq_ground.proofs.Gets.{get_within}
use Rattle.vq_spec.proofs.Lowered.{read_job}
use Rattle.vq_spec.proofs.CommandOwners.{some_there, there, first_is, command_is, no_step}
use Rattle.vq_spec.proofs.plan.Plan.command.Goals as goal

pub first-requires : goal.first-requires
first-requires c =
    some_there c.args.self.now c.args.c c.owner-job.result c.owner-job.ensures c.job.result.now c.job.ensures

pub overflow_sub-place : goal.overflow_sub-place
overflow_sub-place c =
    let s = c.self.inside.script in
    let at = there s c.args.self.now c.self.view_is c.args.c c.owner-job.result c.owner-job.ensures
    c.job.result.now c.job.ensures c.first.result c.first.ensures in
    let from = at.from in
    omega (
      arith,
      first_is s c.args.self.now c.self.view_is c.args.c c.owner-job.result c.owner-job.ensures
          c.job.result.now c.job.ensures c.first.result c.first.ensures,
    )

pub bounds-jobs-job : goal.bounds-jobs-job
bounds-jobs-job c =
    let s = c.self.inside.script in
    let at = there s c.args.self.now c.self.view_is c.args.c c.owner-job.result c.owner-job.ensures
    c.job.result.now c.job.ensures c.first.result c.first.ensures in
    omega (arith, get_within s.jobs c.owner-job.result (Batch at.batch) at.is, ap length c.as_slice-jobs.ensures)

pub bounds-as_slice-place : goal.bounds-as_slice-place
bounds-as_slice-place c =
    let s = c.self.inside.script in
    let j = c.owner-job.result in
    let at = there s c.args.self.now c.self.view_is c.args.c j c.owner-job.ensures c.job.result.now c.job.ensures
    c.first.result c.first.ensures in
    let found = read_job s.jobs c.as_slice-jobs.result.now j c.index-jobs-job.result (Batch c.in-Batch.batch)
    c.as_slice-jobs.ensures (get_within s.jobs j (Batch at.batch) at.is) c.index-jobs-job.is c.in-Batch.is in
    let is = command_is s c.args.self.now c.self.view_is c.args.c j c.owner-job.ensures c.job.result.now c.job.ensures
    c.first.result c.first.ensures c.in-Batch.batch found in
    omega (arith, is.1, ap length c.as_slice.ensures)

pub unreachable-requires : goal.unreachable-requires
unreachable-requires c =
    let s = c.self.inside.script in
    let j = c.owner-job.result in
    let at = there s c.args.self.now c.self.view_is c.args.c j c.owner-job.ensures c.job.result.now c.job.ensures
    c.first.result c.first.ensures in
    let found = read_job s.jobs c.as_slice-jobs.result.now j c.index-jobs-job.result (Host c.in-Host.field-0)
    c.as_slice-jobs.ensures (get_within s.jobs j (Batch at.batch) at.is) c.index-jobs-job.is c.in-Host.is in
    no_step s c.args.self.now c.self.view_is c.args.c j c.owner-job.ensures c.job.result.now c.job.ensures
    c.first.result c.first.ensures c.in-Host.field-0 found

pub returns : goal.returns
returns c =
    let s = c.self.inside.script in
    let j = c.owner-job.result in
    let at = there s c.args.self.now c.self.view_is c.args.c j c.owner-job.ensures c.job.result.now c.job.ensures
    c.first.result c.first.ensures in
    let found = read_job s.jobs c.as_slice-jobs.result.now j c.index-jobs-job.result (Batch c.in-Batch.batch)
    c.as_slice-jobs.ensures (get_within s.jobs j (Batch at.batch) at.is) c.index-jobs-job.is c.in-Batch.is in
    let is = command_is s c.args.self.now c.self.view_is c.args.c j c.owner-job.ensures c.job.result.now c.job.ensures
    c.first.result c.first.ensures c.in-Batch.batch found in
    let commands = c.in-Batch.batch.commands in
    let place = c.args.c - c.first.result in
    let read = c.index-as_slice-place.is
    ∙ ap (λ xs. get_or xs place c.index-as_slice-place.result) c.as_slice.ensures in
    is.0 ∙ slice_get_read commands (length commands) place c.index-as_slice-place.result refl is.1 read
