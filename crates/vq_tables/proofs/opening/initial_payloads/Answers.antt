use Rattle.std.proofs.Common.{◌≡◌, length, arith}
use Rattle.vq_plan_laws.proofs.Cited.{plan_semaphores}
use Rattle.vq_tables.proofs.OpeningLaws.{payloads_open}
use Rattle.vq_tables.proofs.opening.initial_payloads.Goals as goal

pub returns : goal.returns
returns c =
    let p = c.args.plan.now in
    let n = c.loop-chain.invariant.0 in
    let size : length c.loop-chain.payloads.items ≡ length p.chains = omega (
      arith,
      c.chains-chain-end.ensures,
      c.loop-chain.auto.chain-end,
    ) in
    payloads_open p (plan_semaphores p c.requires) c.loop-chain.payloads.items size (λ t l. c.loop-chain.invariant.1
    t (omega arith))
