use Rattle.std.proofs.Common.{◌≡◌, ◌↔◌, ◌<◌, ◌+◌, IsTrue, ℕ, [], get_or, Some, length, ltb, sym, ap, ◌∙◌, subst, arith}
use Rattle.std.specs.Option.{option_map}
use Rattle.vq_plan_laws.proofs.Cited.{plan_lanes}
use Rattle.vq_model.specs.Sure.{IsSure}
use Rattle.vq_model.specs.Lanes.{lane_at}
use Rattle.vq_model.specs.Plan.{Plan, job_of}
use Rattle.vq_clocks.specs.VectorClocks.{both, lanes, row_at, row_of}
use Rattle.vq_clocks.proofs.BothClocks.{both_exist, sure_read}
use Rattle.vq_clocks.proofs.clocked.Clocked.is_sure.Goals as goal

pub lane-requires : goal.lane-requires
lane-requires c =
    let q = c.self.inside.run in
    let o : job_of q c.args.op ≡ Some c.op-job.result.job = ap (λ (x : Plan). job_of x c.args.op) (sym c.plan.ensures.value) ∙ ap (option_map (λ x. x.job)) c.op-job.ensures in
    (plan_lanes q c.self.invariant.complete.plan).job_exists c.args.op c.op-job.result.job o

pub at-requires : goal.at-requires
at-requires c =
    let q = c.self.inside.run in
    let k = c.self.invariant in
    let l : c.args.j < length q.jobs = subst (λ (x : Plan). c.args.j < length x.jobs) (sym c.self.view_is) c.requires.second in
    let r = both_exist q k.complete c.self.inside.clocks c.args.j l k.clocks in
    let b = r.0 in
    let w = subst (λ (n : ℕ). length (get_or c.self.inside.clocks n []) ≡ both q) (sym c.position.ensures) r.1 in
    let e = c.lane.ensures.exists in
    let n = c.lanes.ensures.value in
    record { row = omega arith; lane = omega arith }

pub returns : goal.returns
returns c =
    let q = c.self.inside.run in
    let k = c.self.invariant in
    let rows = c.self.inside.clocks in
    let i = c.op-job.result.job in
    let l : c.args.j < length q.jobs = subst (λ (x : Plan). c.args.j < length x.jobs) (sym c.self.view_is) c.requires.second in
    let o : job_of q c.args.op ≡ Some i = ap (λ (x : Plan). job_of x c.args.op) (sym c.plan.ensures.value) ∙ ap (option_map (λ x. x.job)) c.op-job.ensures in
    let at : c.at.result ≡ row_of q rows c.args.j (lanes q + lane_at q i) =
    c.at.ensures ∙ ap (λ (x : ℕ × ℕ × ℕ). row_at rows x.0 (x.1 + x.2)) (λ n. (c.position.ensures n, c.lanes.ensures.value n, c.lane.ensures.value n)) in
    subst (λ (x : Plan). IsTrue (ltb c.args.op c.at.result) ↔ IsSure x c.args.op c.args.j) c.self.view_is
    (subst (λ (n : ℕ). IsTrue (ltb c.args.op n) ↔ IsSure q c.args.op c.args.j) (sym at) (sure_read q k.complete rows c.args.j l k.clocks c.args.op i o))
