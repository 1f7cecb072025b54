use Rattle.std.proofs.Common.{◌≡◌, ◌↔◌, ◌<◌, IsTrue, ℕ, [], get_or, length, ltb, sym, ap, ◌∙◌, subst, arith}
use Rattle.vq_model.specs.HappensBefore.{HappensBefore}
use Rattle.vq_model.specs.Lanes.{lane_at}
use Rattle.vq_model.specs.Plan.{Plan}
use Rattle.vq_clocks.specs.VectorClocks.{both, lanes, row_at, row_of}
use Rattle.vq_clocks.proofs.BothClocks.{before_read, both_exist}
use Rattle.vq_clocks.proofs.clocked.Clocked.before.Goals as goal

pub at-requires : goal.at-requires
at-requires c =
    let q = c.self.inside.run in
    let k = c.self.invariant in
    let l : c.args.j < length q.jobs = subst (λ (x : Plan). c.args.j < length x.jobs) (sym c.self.view_is) c.requires.second in
    let r = both_exist q k.complete c.self.inside.clocks c.args.j l k.clocks in
    let b = r.0 in
    let w = subst (λ (n : ℕ). length (get_or c.self.inside.clocks n []) ≡ both q) (sym c.position.ensures) r.1 in
    let e = c.lane.ensures.exists in
    record { row = omega arith; lane = omega arith }

pub returns : goal.returns
returns c =
    let q = c.self.inside.run in
    let k = c.self.invariant in
    let rows = c.self.inside.clocks in
    let l : c.args.j < length q.jobs = subst (λ (x : Plan). c.args.j < length x.jobs) (sym c.self.view_is) c.requires.second in
    let at : c.at.result ≡ row_of q rows c.args.j (lane_at q c.args.i) = c.at.ensures ∙ ap (λ (x : ℕ × ℕ). row_at rows x.0 x.1) (λ i. (c.position.ensures i, c.lane.ensures.value i)) in
    subst (λ (x : Plan). IsTrue (ltb c.args.i c.at.result) ↔ HappensBefore x c.args.i c.args.j) c.self.view_is
    (subst (λ (n : ℕ). IsTrue (ltb c.args.i n) ↔ HappensBefore q c.args.i c.args.j) (sym at) (before_read q k.complete rows c.args.j l k.clocks c.args.i (subst (λ n. n < lanes q) c.lane.ensures.value c.lane.ensures.exists)))
