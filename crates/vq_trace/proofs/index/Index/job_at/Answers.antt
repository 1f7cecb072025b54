use Rattle.std.proofs.Common.{◌^◌, ◌∙◌, length}
use Rattle.vq_order_laws.proofs.Cited.{job_lines_rise}
use Rattle.vq_model.specs.Plan.{line_of_job}
use Rattle.vq_plan_laws.proofs.Cited.{plan_lanes}
use Rattle.vq_trace.proofs.FirstPlaces.{table_few, table_finds, table_rises}
use Rattle.vq_trace.proofs.index.Index.job_at.Goals as goal

pub place_of-requires-clause-rising : goal.place_of-requires-clause-rising
place_of-requires-clause-rising c =
    let p = c.args.plan.now in
    table_rises (line_of_job p) (length p.jobs) c.as_slice.result.now (c.as_slice.ensures.value ∙ c.requires.job_lines)
    (job_lines_rise p c.requires.plan)

pub place_of-requires-clause-few : goal.place_of-requires-clause-few
place_of-requires-clause-few c =
    let p = c.args.plan.now in
    table_few (line_of_job p) (length p.jobs) c.as_slice.result.now (c.as_slice.ensures.value ∙ c.requires.job_lines) (2 ^ 32)
    (plan_lanes p c.requires.plan).few_jobs

pub returns : goal.returns
returns c =
    let p = c.args.plan.now in
    c.place_of.ensures
    ∙ table_finds (line_of_job p) (length p.jobs) c.as_slice.result.now (c.as_slice.ensures.value ∙ c.requires.job_lines)
    c.args.line
