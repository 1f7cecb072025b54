use Rattle.std.proofs.Common.{◌∙◌}
use Rattle.vq_plan_laws.proofs.Cited.{plan_lanes}
use Rattle.vq_clocks.proofs.BothClocks.{edge_added, job_added, through_made}
use Rattle.vq_clocks.proofs.RowLaws.{first_early}
use Rattle.vq_clocks.proofs.SlowFacts.{must_earlier}
use Rattle.vq_clocks.proofs.clocks.table.add_first.Goals as goal

pub ops_end-bound-requires : goal.ops_end-bound-requires
ops_end-bound-requires c =
    (plan_lanes c.args.run.now c.requires.makes.complete.plan).first_exists c.args.first c.args.j c.requires.must

pub add-requires : goal.add-requires
add-requires c =
    let p = c.args.run.now in
    let makes = c.requires.makes in
    let made = through_made p c.args.rows.now c.args.j makes c.args.first (first_early p makes.complete c.args.j makes.exists c.args.first c.requires.must) in
    record {
      complete = makes.complete;
      exists = (plan_lanes p makes.complete.plan).first_exists c.args.first c.args.j c.requires.must;
      made = made.0;
      from = made.1;
      width = c.requires.width;
      added = tt;
    }

pub returns : goal.returns
returns c =
    let p = c.args.run.now in
    let rows = c.args.rows.now in
    let makes = c.requires.makes in
    let first = c.args.first in
    let exists = (plan_lanes p makes.complete.plan).first_exists first c.args.j c.requires.must in
    let early = must_earlier p makes.complete.reachable first c.args.j makes.exists c.requires.must in
    record {
      before = edge_added p rows c.args.j makes first c.ops_end-bound.result c.args.row.now c.add.new.row exists early c.add.ensures.joins;
      sure = job_added p rows c.args.j makes first c.ops_end-bound.result c.args.row.now c.add.new.row exists early c.add.ensures.joins c.ops_end-bound.ensures;
      width = c.add.ensures.joins.width ∙ c.requires.width;
    }
