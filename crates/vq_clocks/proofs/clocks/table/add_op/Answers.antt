use Rattle.std.proofs.Common.{◌+◌, refl, ◌∙◌, sym, arith}
use Rattle.std.proofs.lemmas.Bool.{ltb-true}
use Rattle.vq_plan_laws.proofs.Cited.{plan_lanes}
use Rattle.vq_clocks.specs.VectorClocks.{before_half, in_row, position, sure_half}
use Rattle.vq_clocks.proofs.BothClocks.{edge_added, edge_of, op_added, op_job, through_made}
use Rattle.vq_clocks.proofs.ClockLaws.{clock_skip, sure_op_skip}
use Rattle.vq_clocks.proofs.clocks.table.add_op.Goals as goal

pub comes_earlier-requires-clause-first : goal.comes_earlier-requires-clause-first
comes_earlier-requires-clause-first c =
    let own = op_job c.args.run.now c.plan.result.now c.args.op c.op-job.result c.plan.ensures.value c.op-job.ensures in
    (plan_lanes c.args.run.now c.plan.ensures.complete.plan).job_exists c.args.op c.op-job.result.job own

pub overflow_add-op : goal.overflow_add-op
overflow_add-op c =
    let few = (plan_lanes c.args.run.now c.plan.ensures.complete.plan).few_ops in
    omega arith

pub add-requires : goal.add-requires
add-requires c =
    let p = c.args.run.now in
    let i = c.op-job.result.job in
    let own = op_job p c.plan.result.now c.args.op c.op-job.result c.plan.ensures.value c.op-job.ensures in
    let l = ltb-true (position p i) (position p c.args.j) (sym c.comes_earlier.ensures ∙ c.if-comes_earlier.true) in
    let made = through_made p c.args.rows.now c.args.j c.requires.makes i l in
    record {
      complete = c.plan.ensures.complete;
      exists = (plan_lanes p c.plan.ensures.complete.plan).job_exists c.args.op i own;
      made = made.0;
      from = made.1;
      width = c.requires.width;
      added = c.requires.added;
    }

pub returns-then-comes_earlier : goal.returns-then-comes_earlier
returns-then-comes_earlier c =
    let p = c.args.run.now in
    let i = c.op-job.result.job in
    let own = op_job p c.plan.result.now c.args.op c.op-job.result c.plan.ensures.value c.op-job.ensures in
    let op = c.args.op in
    let j = c.args.j in
    let rows = c.args.rows.now in
    let makes = c.requires.makes in
    let early = sym c.comes_earlier.ensures ∙ c.if-comes_earlier.true in
    let exists = (plan_lanes p c.plan.ensures.complete.plan).job_exists op i own in
    let old = c.args.row.now in
    let new = c.add.new.row in
    record {
      before = edge_of p j op i (before_half p old) (before_half p new) own (edge_added p rows j makes i (op + 1) old new exists early c.add.ensures.joins);
      sure = op_added p rows j makes i (op + 1) old new exists early c.add.ensures.joins op refl own;
      width = c.add.ensures.joins.width ∙ c.requires.width;
      added = c.add.ensures.added;
    }

pub returns-else-comes_earlier : goal.returns-else-comes_earlier
returns-else-comes_earlier c =
    let p = c.args.run.now in
    let i = c.op-job.result.job in
    let own = op_job p c.plan.result.now c.args.op c.op-job.result c.plan.ensures.value c.op-job.ensures in
    let op = c.args.op in
    let j = c.args.j in
    let complete = c.requires.makes.complete in
    let late = sym c.comes_earlier.ensures ∙ c.if-comes_earlier.false in
    let row = c.args.row.now in
    record {
      before = edge_of p j op i (before_half p row) (before_half p row) own (λ edges k. clock_skip p j i edges (in_row (before_half p row)) late k);
      sure = λ firsts ops k. sure_op_skip p (plan_lanes p complete.plan) complete.reachable j op i firsts ops (in_row (sure_half p row)) own late k;
      width = c.requires.width;
      added = c.requires.added;
    }
