use Rattle.std.proofs.Common.{length, arith}
use native.Mathlib.Decide.{dec_le}
use Rattle.vq_board_stage.proofs.Chains.{single_past}
use Rattle.vq_board_stage.proofs.host_jobs.are_single.Goals as goal

pub returns : goal.returns
returns c = λ _ t.
    elim (dec_le (length c.args.plan.now.chains) t) [ yes past ↦ single_past c.args.plan.now t past | no within ↦ c.loop-t.invariant t (omega arith) ]
