use Rattle.std.proofs.Common.{◌≡◌, ◌+◌, ℕ, List, [], ◌∷◌, ◌++◌, take, get_or, true, sym, ap, ◌∙◌, subst, add-one}
use Rattle.std.proofs.Math.Seq.{take-suc}
use Rattle.std.proofs.lemmas.List.{append-nil, take_all}
use Rattle.std.specs.List.{filter_map}
use Rattle.vq_ground.proofs.Gets.{has_at}
use Rattle.vq_plan_laws.proofs.Cited.{plan_lanes}
use Rattle.vq_model.specs.Edges.{AtEnd, must_finish, awaited_at}
use Rattle.vq_model.specs.Plan.{Plan, job_of}
use Rattle.vq_ground.specs.Lists.{has}
use Rattle.vq_model.specs.Lanes.{lane_at}
use Rattle.vq_clocks.specs.VectorClocks.{before_half, in_row, itself, sure_half, Covers, IsSureBy, PassesOne, SureByJob}
use Rattle.vq_clocks.proofs.BothClocks.{before_zeros, sure_zeros, zeros_wide}
use Rattle.vq_clocks.proofs.ClockLaws.{clock_end, sure_end}
use Rattle.vq_clocks.proofs.RowLaws.{sure_middle}
use Rattle.vq_clocks.proofs.clocks.table.make_row.Goals as goal

pub loop-first-init : goal.loop-first-init
loop-first-init c =
    let p = c.args.run.now in
    let old = c.args.row.now in
    record {
      before = before_zeros p old c.clear.new.self c.clear.ensures c.args.j;
      sure = sure_zeros p old c.clear.new.self c.clear.ensures;
      width = zeros_wide old c.clear.new.self c.clear.ensures ∙ c.requires.width;
    }

pub loop-first-preserved : goal.loop-first-preserved
loop-first-preserved c =
    let p = c.args.run.now in
    let i = c.loop-first.first-index in
    let items = c.must_finish-first-items.result.now in
    let row = c.add_first.new.row in
    let more : take (i + 1) items ≡ take i items ++ get_or items i 0 ∷ [] = rw add-one (take-suc items i 0 c.loop-first-test.true) in
    record {
      before = subst (λ (es : List ℕ). Covers (lane_at p) itself (in_row (before_half p row)) (PassesOne p c.args.j es)) (sym more) (c.add_first.ensures.before (take i items) c.loop-first.invariant.before);
      sure = subst (λ (es : List ℕ). Covers (lane_at p) (job_of p) (in_row (sure_half p row)) (SureByJob p es)) (sym more) (c.add_first.ensures.sure (take i items) c.loop-first.invariant.sure);
      width = c.add_first.ensures.width;
    }

pub add_first-requires-clause-must : goal.add_first-requires-clause-must
add_first-requires-clause-must c =
    let items = c.must_finish-first-items.result.now in
    let e = get_or items c.loop-first.first-index 0 in
    subst (λ (es : List ℕ). has es e ≡ true) (c.must_finish-first-items.ensures ∙ ap (λ (q : Plan). must_finish q c.args.j) c.plan.ensures.value) (has_at items c.loop-first.first-index c.loop-first-test.true)

pub loop-op-init : goal.loop-op-init
loop-op-init c =
    let p = c.args.run.now in
    let j = c.args.j in
    let row = c.loop-first.row in
    let items = c.must_finish-first-items.result.now in
    let firsts = must_finish p j in
    let all : take c.loop-first.first-index items ≡ firsts = take_all c.loop-first.first-index items c.loop-first-test.false ∙ (c.must_finish-first-items.ensures ∙ ap (λ (q : Plan). must_finish q c.args.j) c.plan.ensures.value) in
    record {
      before = subst (λ (es : List ℕ). Covers (lane_at p) itself (in_row (before_half p row)) (PassesOne p j es)) (all ∙ sym (append-nil firsts)) c.loop-first.invariant.before;
      sure = sure_middle p j firsts (sure_half p row) (subst (λ (es : List ℕ). Covers (lane_at p) (job_of p) (in_row (sure_half p row)) (SureByJob p es)) all c.loop-first.invariant.sure);
      width = c.loop-first.invariant.width;
      added = tt;
    }

pub loop-op-preserved : goal.loop-op-preserved
loop-op-preserved c =
    let p = c.args.run.now in
    let firsts = must_finish p c.args.j in
    let i = c.loop-op.op-index in
    let items = c.awaited-op-items.result.now in
    let row = c.add_op-last.new.row in
    let more : take (i + 1) items ≡ take i items ++ get_or items i 0 ∷ [] = rw add-one (take-suc items i 0 c.loop-op-test.true) in
    record {
      before = subst (λ (es : List ℕ). Covers (lane_at p) itself (in_row (before_half p row)) (PassesOne p c.args.j (firsts ++ filter_map (job_of p) es))) (sym more) (c.add_op-last.ensures.before firsts (take i items) c.loop-op.invariant.before);
      sure = subst (λ (es : List ℕ). Covers (lane_at p) (job_of p) (in_row (sure_half p row)) (IsSureBy p c.args.j firsts es)) (sym more) (c.add_op-last.ensures.sure firsts (take i items) c.loop-op.invariant.sure);
      width = c.add_op-last.ensures.width;
      added = c.add_op-last.ensures.added;
    }

pub add_op-last-requires-clause-exists : goal.add_op-last-requires-clause-exists
add_op-last-requires-clause-exists c =
    let items = c.awaited-op-items.result.now in
    let e = get_or items c.loop-op.op-index 0 in
    (plan_lanes c.args.run.now c.requires.makes.complete.plan).awaited_exists c.args.j e (subst (λ (es : List ℕ). has es e ≡ true) (c.awaited-op-items.ensures ∙ ap (λ (q : Plan). awaited_at q c.args.j AtEnd) c.plan-2.ensures.value) (has_at items c.loop-op.op-index c.loop-op-test.true))

pub returns : goal.returns
returns c =
    let p = c.args.run.now in
    let j = c.args.j in
    let firsts = must_finish p j in
    let items = c.awaited-op-items.result.now in
    let row = c.loop-op.row in
    let all : take c.loop-op.op-index items ≡ awaited_at p j AtEnd = take_all c.loop-op.op-index items c.loop-op-test.false ∙ (c.awaited-op-items.ensures ∙ ap (λ (q : Plan). awaited_at q c.args.j AtEnd) c.plan-2.ensures.value) in
    record {
      before = clock_end p j AtEnd (in_row (before_half p row)) (subst (λ (es : List ℕ). Covers (lane_at p) itself (in_row (before_half p row)) (PassesOne p j (firsts ++ filter_map (job_of p) es))) all c.loop-op.invariant.before);
      sure = sure_end p (plan_lanes p c.requires.makes.complete.plan) c.requires.makes.complete.reachable j AtEnd (in_row (sure_half p row)) c.requires.makes.exists (subst (λ (es : List ℕ). Covers (lane_at p) (job_of p) (in_row (sure_half p row)) (IsSureBy p j firsts es)) all c.loop-op.invariant.sure);
      width = c.loop-op.invariant.width;
    }
