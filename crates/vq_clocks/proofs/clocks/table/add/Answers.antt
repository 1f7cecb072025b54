use Rattle.std.proofs.Common.{◌+◌, ◌<◌, ℕ, [], get_or, ◌∙◌, subst, arith}
use Rattle.vq_model.specs.Lanes.{lane_at}
use Rattle.vq_clocks.specs.VectorClocks.{lanes, position, Joins, Raises}
use Rattle.vq_clocks.proofs.BothClocks.{joined_above, joined_own, joins_first, joins_second}
use Rattle.vq_clocks.proofs.clocks.table.add.Goals as goal

pub raise-requires : goal.raise-requires
raise-requires c =
    let l = c.lane.ensures.exists in
    let w = c.join_job.ensures.width in
    let v = c.requires.width in
    let n = c.lanes.ensures.value in
    omega arith

pub returns-clause-joins : goal.returns-clause-joins
returns-clause-joins c =
    let p = c.args.run.now in
    let job = c.args.job in
    let bound = c.args.bound in
    let old = c.args.row.now in
    let from = get_or c.args.rows.now (position p job) [] in
    let middle = c.join_job.new.row in
    let new = c.raise.new.self in
    let exists = subst (λ l. l < lanes p) c.lane.ensures.value c.lane.ensures.exists in
    let joined : Joins old from (lane_at p job) (job + 1) middle = c.join_job.ensures in
    let raised : Raises middle (lanes p + lane_at p job) bound new =
    subst (λ (x : ℕ × ℕ). Raises middle (x.0 + x.1) bound new) (λ k. (c.lanes.ensures.value k, c.lane.ensures.value k)) c.raise.ensures in
    record {
      before = joins_first (lanes p) (lane_at p job) (job + 1) bound old from middle new c.requires.width c.requires.from exists joined raised;
      sure = joins_second (lanes p) (lane_at p job) (job + 1) bound old from middle new c.requires.width c.requires.from exists joined raised;
      width = raised.width ∙ joined.width;
    }

pub returns-clause-added : goal.returns-clause-added
returns-clause-added c =
    let p = c.args.run.now in
    let job = c.args.job in
    let bound = c.args.bound in
    let old = c.args.row.now in
    let from = get_or c.args.rows.now (position p job) [] in
    let middle = c.join_job.new.row in
    let new = c.raise.new.self in
    let joined : Joins old from (lane_at p job) (job + 1) middle = c.join_job.ensures in
    let raised : Raises middle (lanes p + lane_at p job) bound new =
    subst (λ (x : ℕ × ℕ). Raises middle (x.0 + x.1) bound new) (λ k. (c.lanes.ensures.value k, c.lane.ensures.value k)) c.raise.ensures in
    let own = joined_own (lanes p) (lane_at p job) (job + 1) bound old from middle new joined raised in
    record {
      above = joined_above (lanes p) (lane_at p job) (job + 1) bound old from middle new joined raised;
      own = omega arith;
    }
