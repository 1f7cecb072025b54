-- A point has few references: passes are few, and each holds few.
use Rattle.std.proofs.Common.{ℕ, ◌≤◌, ◌<◌, ◌+◌, ◌*◌, ◌^◌, length, ap, arith}
use Rattle.std.specs.List.{range_with_len}
use Rattle.std.proofs.lemmas.List.{length-map}
use Rattle.std.proofs.lemmas.List.FromFn.{length-range_with_len}
use Rattle.std.proofs.lemmas.List.Sums.{length-filter, count_by-le-length}
use Rattle.atomic_table.specs.Table.{State}
use Rattle.vq_model.specs.LoweredPlans.{IsPlan}
use Rattle.vq_model.specs.Plan.{Plan}
use Rattle.vq_model.specs.Signals.{chain_ops}
use Rattle.vq_point_laws.specs.PointWord.{parts}
use Rattle.vq_model.specs.Limits.{limits_of}
use Rattle.vq_reading_laws.proofs.Cited.{read_valid, most_queues}
use Rattle.vq_board_laws.specs.declared.view.View.{View}
use Rattle.vq_board_laws.specs.declared.view.LoggedBuffers.{LoggedBuffers}
use Rattle.vq_board_laws.specs.Roles.{is_threaded, role_count}
use Rattle.vq_board_laws.specs.References.{refs_to}
use Rattle.vq_board_laws.specs.Rule.{Kept}
use Rattle.vq_board_laws.specs.Words.{words_of}
use Rattle.vq_board_laws.proofs.ReferenceLists.{count_le, sum_bounded}

-- the host, the queues, threaded or not, and the chains
pub few_roles : (p : Plan) → IsPlan p → role_count p
    ≤ 1 + 2 * (limits_of p.script.version).queues + (limits_of p.script.version).semaphores
few_roles p plan =
    let limits = (read_valid p.script plan.of_script).limits in
    let queues = limits.queues in
    let semaphores = limits.semaphores in
    let lowered = ap (λ (q : Plan). length q.chains) plan.lowered in
    let mapped = length-map (range_with_len 0 (length p.script.semaphores)) (chain_ops p.script) in
    let chains = length-range_with_len 0 (length p.script.semaphores) in
    let all = length-range_with_len 0 (length p.script.queues) in
    let kept = length-filter (is_threaded p) (range_with_len 0 (length p.script.queues)) in
    let fewer = count_by-le-length (is_threaded p) (range_with_len 0 (length p.script.queues)) in
    omega arith

pub few_references : (p : Plan) (s : State LoggedBuffers View) → Kept p s → (q : ℕ) → (parts ((words_of s.words).point q)).refs + 1 < 2 ^ 16
few_references p s k q =
    let roles = few_roles p k.plan in
    let queues = most_queues p.script.version in
    let within = k.rule.ownership.within in
    let counts = k.rule.references.counts q in
    let most = sum_bounded (refs_to q) 16 s.views (λ i u e. let few = k.rule.references.few i u e in let c = count_le q u.refs in omega arith) in
    omega arith
