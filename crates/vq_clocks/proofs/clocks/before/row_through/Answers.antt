use Rattle.std.proofs.Common.{◌≡◌, ◌+◌, ◌∷◌, ◌++◌, [], ℕ, List, length, take, get_or, sym, ap, ◌∙◌, subst, add-one}
use Rattle.std.proofs.Math.Seq.{take-suc}
use Rattle.std.proofs.lemmas.Bool.{false≢true}
use Rattle.std.proofs.lemmas.List.{take_all, length-replicate}
use Rattle.vq_ground.proofs.Gets.{has_at}
use Rattle.vq_model.specs.Lanes.{lane_at}
use Rattle.vq_clocks.specs.VectorClocks.{Covers, itself, lanes, PassesOne, in_row}
use Rattle.vq_clocks.proofs.RowLaws.{zeros_cover}
use Rattle.vq_clocks.proofs.clocks.before.row_through.Goals as goal

pub loop-edge-init : goal.loop-edge-init
loop-edge-init c =
    let p = c.args.run.now in
    let zeros = c.requires.zeros in (
      subst (λ (r : List ℕ). Covers (lane_at p) itself (in_row r) (PassesOne p c.args.j [])) (sym zeros) (zeros_cover (lane_at p) itself (PassesOne p c.args.j []) (λ x q. false≢true q.listed) (lanes p)),
      ap length zeros ∙ length-replicate (lanes p) 0,
    )

pub loop-edge-preserved : goal.loop-edge-preserved
loop-edge-preserved c =
    let p = c.args.run.now in
    let i = c.loop-edge.edge-index in
    let edges = c.args.edges.now in
    let more : take (i + 1) edges ≡ take i edges ++ get_or edges i 0 ∷ [] = rw add-one (take-suc edges i 0 c.loop-edge-test.true) in (
      subst (λ (es : List ℕ). Covers (lane_at p) itself (in_row c.add_edge.new.row) (PassesOne p c.args.j es)) (sym more) (c.add_edge.ensures.adds (take i edges) c.loop-edge.invariant.0),
      c.add_edge.ensures.width,
    )

pub add_edge-requires-clause-exists : goal.add_edge-requires-clause-exists
add_edge-requires-clause-exists c =
    let edges = c.args.edges.now in
    c.requires.exist (get_or edges c.loop-edge.edge-index 0) (has_at edges c.loop-edge.edge-index c.loop-edge-test.true)

pub returns-clause-value : goal.returns-clause-value
returns-clause-value c =
    let p = c.args.run.now in
    let row = c.loop-edge.row in
    let all : take c.loop-edge.edge-index c.args.edges.now ≡ c.args.edges.now = take_all c.loop-edge.edge-index c.args.edges.now c.loop-edge-test.false in
    subst (λ (es : List ℕ). Covers (lane_at p) itself (in_row row) (PassesOne p c.args.j es)) all c.loop-edge.invariant.0
