use Rattle.std.proofs.Common.{◌≡◌, ◌+◌, ◌++◌, ◌∷◌, [], ℕ, List, true, take, get_or, subst, sym, ◌∙◌, add-one}
use Rattle.std.proofs.Math.Seq.{take-suc}
use Rattle.std.proofs.lemmas.List.{take_all}
use Rattle.vq_model.proofs.Plans.{op_exists}
use Rattle.vq_ground.proofs.Gets.{has_at}
use Rattle.vq_model.specs.Plan.{signals_of}
use Rattle.vq_ground.specs.Lists.{has}
use Rattle.vq_plan_laws.proofs.Cited.{plan_well_formed}
use Rattle.vq_spec.specs.SlowProgress.{PayloadsWith}
use Rattle.vq_spec.proofs.SlowSteps.{payloads_start, payloads_end}
use Rattle.vq_spec.proofs.payloads.signal_all.Goals as goal

pub loop-op-init : goal.loop-op-init
loop-op-init c =
    record {
      count = c.requires.count;
      made = λ done k. payloads_start c.args.plan.now (plan_well_formed c.args.plan.now c.requires.plan) done c.args.payloads.now k;
    }

pub signal-requires-clause-exists : goal.signal-requires-clause-exists
signal-requires-clause-exists c =
    let p = c.args.plan.now in
    let items = c.signals_of-op-items.result.now in
    let s : signals_of p c.args.j ≡ items =
    sym c.signals_of-op-items.ensures in
    let e = get_or items c.loop-op.op-index 0 in
    op_exists p e c.args.j ((plan_well_formed p c.requires.plan).of_job e c.args.j
    (subst (λ (xs : List ℕ). has xs e ≡ true) (sym s) (has_at items c.loop-op.op-index c.loop-op-test.true)))

pub loop-op-preserved : goal.loop-op-preserved
loop-op-preserved c =
    let p = c.args.plan.now in
    let i = c.loop-op.op-index in
    let items = c.signals_of-op-items.result.now in
    let more : take (i + 1) items ≡ take i items ++ get_or items i 0 ∷ [] =
    rw add-one (take-suc items i 0 c.loop-op-test.true) in
    record {
      count = c.signal.ensures.count;
      made = λ done k. subst (λ (xs : List ℕ). PayloadsWith p done xs c.signal.new.payloads) (sym more) (c.signal.ensures.made done (take i items) (c.loop-op.invariant.made done k));
    }

pub returns : goal.returns
returns c =
    let p = c.args.plan.now in
    let items = c.signals_of-op-items.result.now in
    let s : signals_of p c.args.j ≡ items =
    sym c.signals_of-op-items.ensures in
    let all : take c.loop-op.op-index items ≡ items = take_all c.loop-op.op-index items c.loop-op-test.false in
    λ done k. payloads_end p (plan_well_formed p c.requires.plan) done c.args.j c.loop-op.payloads
    (subst (λ (xs : List ℕ). PayloadsWith p done xs c.loop-op.payloads) (all ∙ sym s) (c.loop-op.invariant.made done k))
