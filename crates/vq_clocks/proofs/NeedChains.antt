-- The needs of a job are of chains that exist, and what resolves them exists.
use Rattle.std.proofs.Common.{◌≡◌, ℕ, ◌<◌, List, [], length, All, Some, get_or, nat_le, sym, ap, ◌∙◌, subst, arith}
use Rattle.std.specs.List.{slice_get}
use Rattle.std.specs.Option.{option_map_or}
use Rattle.vq_model.specs.declared.plan.Need.{Need}
use Rattle.vq_model.specs.declared.plan.PlanJob.{PlanJob}
use Rattle.vq_model.specs.Lanes.{KeepsSemaphores}
use Rattle.vq_model.specs.LoweredPlans.{IsPlan}
use Rattle.vq_model.specs.Plan.{Plan, chain, needs, resolver, value}
use Rattle.vq_model.proofs.Plans.{op_within}
use Rattle.vq_ground.proofs.Searches.{find_member}
use Rattle.vq_plan_laws.proofs.Cited.{plan_well_formed}

-- a job's needs are of chains that exist
pub need_chain : (p : Plan) → KeepsSemaphores p → (j : ℕ) (job : PlanJob) → slice_get p.jobs j ≡ Some job → (ns : List Need) → ns ≡ job.needs → (i : ℕ) (none : Need) → i < length ns → (get_or ns i none).chain < length p.chains
need_chain p k j job e ns same i none l =
    let are : needs p j ≡ ns = ap (λ o. option_map_or (λ x. x.needs) o []) e ∙ sym same in
    let a : All (λ n. n.chain < length p.script.semaphores) ns = subst (All (λ n. n.chain < length p.script.semaphores)) are (k.needs_chain j) in
    let b = a i none l in
    let c = k.chains in
    omega arith

-- what resolves a need exists
pub resolver_here : (p : Plan) → IsPlan p → (t v op : ℕ) → resolver p t v ≡ Some op →
    op < length p.ops
resolver_here p i t v op e =
    op_within p op t
    ((plan_well_formed p i).of_chain op t
    (find_member (λ x. nat_le v (value p x)) (chain p t) op e))
