use Rattle.std.proofs.Common.{◌^◌, ◌∙◌, length}
use Rattle.vq_model.specs.Plan.{line_of_command}
use Rattle.vq_plan_laws.proofs.Cited.{plan_lines}
use Rattle.vq_trace.proofs.FirstPlaces.{table_few, table_finds, table_rises}
use Rattle.vq_trace.proofs.index.Index.command_at.Goals as goal

pub place_of-requires-clause-rising : goal.place_of-requires-clause-rising
place_of-requires-clause-rising c =
    let p = c.args.plan.now in
    table_rises (line_of_command p) (length p.commands) c.as_slice.result.now (c.as_slice.ensures.value ∙ c.requires.command_lines)
    ((plan_lines p c.requires.plan).commands)

pub place_of-requires-clause-few : goal.place_of-requires-clause-few
place_of-requires-clause-few c =
    let p = c.args.plan.now in
    table_few (line_of_command p) (length p.commands) c.as_slice.result.now (c.as_slice.ensures.value ∙ c.requires.command_lines) (2 ^ 32)
    c.requires.few_commands

pub returns : goal.returns
returns c =
    let p = c.args.plan.now in
    c.place_of.ensures
    ∙ table_finds (line_of_command p) (length p.commands) c.as_slice.result.now (c.as_slice.ensures.value ∙ c.requires.command_lines)
    c.args.line
