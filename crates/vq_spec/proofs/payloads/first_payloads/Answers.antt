use Rattle.std.proofs.Common.{◌≡◌, ◌<◌, ◌+◌, ℕ, [], sym, subst, arith, length, get_or}
use Rattle.vq_model.specs.SlowRun.{payload_after}
use Rattle.vq_plan_laws.proofs.Cited.{plan_semaphores}
use Rattle.vq_spec.proofs.SlowSteps.{payload_push}
use Rattle.vq_spec.proofs.payloads.first_payloads.Goals as goal

pub loop-chain-preserved : goal.loop-chain-preserved
loop-chain-preserved c =
    let step = payload_push c.args.plan.now c.loop-chain.payloads.items c.loop-chain.chain
    c.initial.result c.loop-chain.invariant.0 c.loop-chain.invariant.1 c.initial.ensures in
    let items = (c.in_ok-push.ensures {u = tt}).items in
    (subst (λ xs. length xs ≡ c.loop-chain.chain + 1) (sym items) step.0, subst (λ xs. (k : ℕ) → k < c.loop-chain.chain + 1 → get_or xs k 0 ≡ payload_after c.args.plan.now [] k) (sym items) step.1)

pub returns : goal.returns
returns c =
    let s = plan_semaphores c.args.plan.now c.requires in
    let n = c.loop-chain.invariant.0 in
    record {
      count = omega (arith, c.chains-chain-end.ensures, c.loop-chain.auto.chain-end);
      each = λ t l. c.loop-chain.invariant.1 t (omega (arith, c.chains-chain-end.ensures, c.loop-chain.auto.chain-end));
    }
