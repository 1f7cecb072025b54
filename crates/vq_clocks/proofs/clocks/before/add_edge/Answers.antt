use Rattle.std.proofs.Common.{◌≡◌, ◌+◌, ℕ, List, [], get_or, length, take, ap, ◌∙◌, sym, subst, arith}
use Rattle.std.proofs.lemmas.List.{length-take-le}
use Rattle.vq_plan_laws.proofs.Cited.{plan_lanes}
use Rattle.vq_model.specs.Lanes.{lane_at}
use Rattle.vq_clocks.specs.VectorClocks.{before_halves, in_row, position, row_of, Joins}
use Rattle.vq_clocks.proofs.BothClocks.{edge_row}
use Rattle.vq_clocks.proofs.ClockLaws.{clock_step, clock_skip}
use Rattle.vq_clocks.proofs.clocks.before.add_edge.Goals as goal

pub row-clocks-requires : goal.row-clocks-requires
row-clocks-requires c =
    let l = (edge_row c.args.run.now c.args.rows.now c.args.j c.args.edge c.requires.makes (sym c.comes_earlier.ensures ∙ c.if-comes_earlier.true)).stands in
    omega arith

pub slice_bounds-join-end : goal.slice_bounds-join-end
slice_bounds-join-end c =
    let w = (edge_row c.args.run.now c.args.rows.now c.args.j c.args.edge c.requires.makes (sym c.comes_earlier.ensures ∙ c.if-comes_earlier.true)).wide in
    let e = ap length (c.row-clocks.ensures ∙ ap (λ n. get_or c.args.rows.now n []) c.position.ensures) in
    let n = c.lanes.ensures.value in
    sym (length-take-le c.lanes.result c.row-clocks.result.now (omega arith))

pub join-requires : goal.join-requires
join-requires c =
    let w = (edge_row c.args.run.now c.args.rows.now c.args.j c.args.edge c.requires.makes (sym c.comes_earlier.ensures ∙ c.if-comes_earlier.true)).wide in
    let e = ap length (c.row-clocks.ensures ∙ ap (λ n. get_or c.args.rows.now n []) c.position.ensures) in
    let n = c.lanes.ensures.value in
    let l = c.lane.ensures.exists in
    let own = c.requires.width in
    record { same = length-take-le c.lanes.result c.row-clocks.result.now (omega arith) ∙ (n ∙ sym own); exists = omega arith }

pub returns-then-comes_earlier : goal.returns-then-comes_earlier
returns-then-comes_earlier c =
    let p = c.args.run.now in
    let e = c.args.edge in
    let rows = c.args.rows.now in
    let halves = before_halves p rows in
    let early = sym c.comes_earlier.ensures ∙ c.if-comes_earlier.true in
    let through = edge_row p rows c.args.j e c.requires.makes early in
    let from : take c.lanes.result c.row-clocks.result.now ≡ get_or halves (position p e) [] =
    ap (λ (x : ℕ × List ℕ). take x.0 x.1) (λ k. (c.lanes.ensures.value k, (c.row-clocks.ensures ∙ ap (λ n. get_or rows n []) c.position.ensures) k)) ∙ sym through.half in
    let joined : Joins c.args.row.now (get_or halves (position p e) []) (lane_at p e) (e + 1) c.join.new.self =
    subst (λ (x : List ℕ × ℕ). Joins c.args.row.now x.0 x.1 (e + 1) c.join.new.self) (λ k. (from k, c.lane.ensures.value k)) c.join.ensures in
    record {
      adds = λ edges k. clock_step p (plan_lanes p c.requires.makes.complete.plan) c.requires.makes.complete.reachable c.args.j e edges (in_row c.args.row.now) (row_of p halves e) (in_row c.join.new.self) c.requires.exists early (c.requires.makes.earlier.each e through.made) k joined.raised;
      width = joined.width ∙ c.requires.width;
    }

pub returns-else-comes_earlier : goal.returns-else-comes_earlier
returns-else-comes_earlier c =
    record {
      adds = λ edges k. clock_skip c.args.run.now c.args.j c.args.edge edges (in_row c.args.row.now) (sym c.comes_earlier.ensures ∙ c.if-comes_earlier.false) k;
      width = c.requires.width;
    }

pub overflow_add-edge : goal.overflow_add-edge
overflow_add-edge c =
    let few = (plan_lanes c.args.run.now c.requires.makes.complete.plan).few_jobs in
    omega arith
