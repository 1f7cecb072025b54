use Rattle.vq_trace.proofs.Lookups.{applied, command_found}
use Rattle.vq_trace.proofs.index.Index.apply.Goals as goal

pub owner-job-requires : goal.owner-job-requires
owner-job-requires c =
    command_found c.args.plan.now c.in_ok-numeral.field-0 c.in_ok-command.command c.in_ok-command.ensures

pub returns : goal.returns
returns c =
    applied c.args.plan.now c.requires.plan c.args.word.now c.in_ok-numeral.field-0 c.in_ok-command.command
    c.owner-job.result c.owner-job.ensures c.in_ok-numeral.ensures c.in_ok-command.ensures
