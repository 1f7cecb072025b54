use Rattle.std.proofs.Common.{refl, ap}
use Rattle.std.specs.Option.{option_map}
use Rattle.vq_model.proofs.Plans.{command_exists}
use Rattle.vq_order.proofs.AccessLaws.{fits_command}
use Rattle.vq_plan_laws.proofs.Cited.{plan_well_formed}
use Rattle.vq_order.proofs.races.accesses.access_of.Goals as goal

pub command-requires : goal.command-requires
command-requires c =
    command_exists c.args.plan.now (plan_well_formed c.args.plan.now c.requires.plan) c.args.job c.args.c c.requires.own

pub written_span-requires-clause-fits : goal.written_span-requires-clause-fits
written_span-requires-clause-fits c =
    fits_command c.args.plan.now (plan_well_formed c.args.plan.now c.requires.plan) c.args.c c.args.job c.command.result.now.command c.requires.own (ap (option_map (λ x. x.command)) c.command.ensures)

pub read_span-requires-clause-fits : goal.read_span-requires-clause-fits
read_span-requires-clause-fits c =
    fits_command c.args.plan.now (plan_well_formed c.args.plan.now c.requires.plan) c.args.c c.args.job c.command.result.now.command c.requires.own (ap (option_map (λ x. x.command)) c.command.ensures)

pub returns : goal.returns
returns c =
    record {
      number = refl;
      of_job = c.requires.own;
      command = c.command.result.now.command;
      found = ap (option_map (λ x. x.command)) c.command.ensures;
      writes = c.written_span.ensures;
      reads = c.read_span.ensures;
    }
