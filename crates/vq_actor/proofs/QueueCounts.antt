-- How many queues a plan has.
use Rattle.std.proofs.Common.{◌≡◌, ℕ, ◌≤◌, length, Fits, w32}
use Rattle.std.proofs.Common.{arith}
use Rattle.vq_model.specs.Limits.{limits_of}
use Rattle.vq_model.specs.Plan.{Plan}
use Rattle.vq_model.specs.LoweredPlans.{IsPlan}
use Rattle.vq_reading_laws.proofs.Cited.{queues_fit, read_valid}

-- the queues of a plan are few
few_queues : (p : Plan) → IsPlan p → length p.script.queues ≤ (limits_of p.script.version).queues
few_queues p i = (read_valid p.script i.of_script).limits.queues

pub count_fits : (p : Plan) → IsPlan p → (n : ℕ) → n ≡ length p.script.queues → Fits w32 n
count_fits p i n is =
    let few = few_queues p i in
    let fit = queues_fit p.script.version in
    omega arith
