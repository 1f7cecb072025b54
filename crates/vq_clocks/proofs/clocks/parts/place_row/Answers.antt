use Rattle.std.proofs.Common.{◌≡◌, List, ℕ, true, ap, ◌∙◌, subst}
use Rattle.vq_plan_laws.proofs.Cited.{plan_lanes}
use Rattle.vq_model.specs.Edges.{At, edges_at}
use Rattle.vq_model.specs.Lanes.{lane_at}
use Rattle.vq_model.specs.Plan.{Plan}
use Rattle.vq_ground.specs.Lists.{has}
use Rattle.vq_clocks.specs.VectorClocks.{Covers, itself, PassesOne, in_row}
use Rattle.vq_clocks.proofs.ClockLaws.{clock_end}
use Rattle.vq_clocks.proofs.RowLaws.{edge_exists}
use Rattle.vq_clocks.proofs.clocks.parts.place_row.Goals as goal

pub row_through-requires-clause-exist : goal.row_through-requires-clause-exist
row_through-requires-clause-exist c e h =
    let p = c.args.run.now in
    let are : c.as_slice.result.now ≡ edges_at p c.args.j (At c.args.place) = c.as_slice.ensures.value ∙ (c.in_ok-edges.ensures ∙ ap (λ (q : Plan). edges_at q c.args.j (At c.args.place)) c.plan.ensures.value) in
    edge_exists p (plan_lanes p c.requires.complete.plan) e c.args.j (At c.args.place) (subst (λ (es : List ℕ). has es e ≡ true) are h)

pub returns-clause-value : goal.returns-clause-value
returns-clause-value c =
    let p = c.args.run.now in
    let are : c.as_slice.result.now ≡ edges_at p c.args.j (At c.args.place) = c.as_slice.ensures.value ∙ (c.in_ok-edges.ensures ∙ ap (λ (q : Plan). edges_at q c.args.j (At c.args.place)) c.plan.ensures.value) in
    let row = c.row_through.new.row in
    clock_end p c.args.j (At c.args.place) (in_row row) (subst (λ (es : List ℕ). Covers (lane_at p) itself (in_row row) (PassesOne p c.args.j es)) are c.row_through.ensures.value)
