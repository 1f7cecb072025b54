use Rattle.std.proofs.Common.{◌≡◌, ◌++◌, ◌∷◌, [], Some, max, get_or, subst, ap, arith}
use Rattle.std.proofs.Math.ListN.{set}
use Rattle.std.specs.Option.{option_map, option_map_or}
use Rattle.vq_model.specs.Plan.{chain_of, value}
use Rattle.vq_plan_laws.proofs.Cited.{plan_semaphores, plan_well_formed}
use Rattle.vq_spec.specs.SlowProgress.{PayloadsWith}
use Rattle.vq_spec.proofs.SlowSteps.{payloads_step, payloads_same}
use Rattle.vq_spec.proofs.payloads.signal.Goals as goal

pub bounds-payloads-op : goal.bounds-payloads-op
bounds-payloads-op c =
    let o : chain_of c.args.plan.now c.args.op ≡ Some c.op-op.result.chain =
    ap (option_map (λ x. x.chain)) c.op-op.ensures in
    let l = (plan_semaphores c.args.plan.now c.requires.plan).op_chain c.args.op c.op-op.result.chain o in
    omega (arith, c.requires.count)

pub bounds-payloads-op-then-payloads-op : goal.bounds-payloads-op-then-payloads-op
bounds-payloads-op-then-payloads-op c =
    let o : chain_of c.args.plan.now c.args.op ≡ Some c.op-op.result.chain =
    ap (option_map (λ x. x.chain)) c.op-op.ensures in
    let l = (plan_semaphores c.args.plan.now c.requires.plan).op_chain c.args.op c.op-op.result.chain o in
    omega (arith, c.requires.count)

pub returns-then-payloads-op-clause-made : goal.returns-then-payloads-op-clause-made
returns-then-payloads-op-clause-made c =
    let p = c.args.plan.now in
    let s = c.op-op.result.chain in
    let o : chain_of p c.args.op ≡ Some s = ap (option_map (λ x. x.chain)) c.op-op.ensures in
    let v : value p c.args.op ≡ c.op-op.result.value =
    ap (λ q. option_map_or (λ x. x.value) q 0) c.op-op.ensures in
    let less = c.if-payloads-op.true in
    let m : max (get_or c.args.payloads.now s 0) (value p c.args.op) ≡ c.op-op.result.value =
    omega arith in
    λ done signals k. subst (λ n. PayloadsWith p done (signals ++ c.args.op ∷ []) (set c.args.payloads.now s n)) m
    (payloads_step p (plan_well_formed p c.requires.plan) done signals c.args.op s c.args.payloads.now o ((plan_semaphores p c.requires.plan).op_chain c.args.op s o) k)

pub returns-else-payloads-op-clause-made : goal.returns-else-payloads-op-clause-made
returns-else-payloads-op-clause-made c =
    let p = c.args.plan.now in
    let s = c.op-op.result.chain in
    let o : chain_of p c.args.op ≡ Some s = ap (option_map (λ x. x.chain)) c.op-op.ensures in
    let v : value p c.args.op ≡ c.op-op.result.value =
    ap (λ q. option_map_or (λ x. x.value) q 0) c.op-op.ensures in
    let less = c.if-payloads-op.false in
    λ done signals k. payloads_same p (plan_well_formed p c.requires.plan) done signals c.args.op s c.args.payloads.now o (omega arith) k
