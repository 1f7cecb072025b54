use Rattle.std.proofs.Common.{◌≡◌, [], ℕ, List, false, length, replicate, subst, sym, rules}
use Rattle.vq_spec.specs.SlowProgress.{IsProgress}
use Rattle.vq_spec.proofs.SlowSteps.{starts}
use Rattle.vq_spec.proofs.progress.SlowState.new.Goals as goal

pub first_payloads-requires : goal.first_payloads-requires
first_payloads-requires c = c.in_ok-heads.ensures.plan

pub returns-clause-come : goal.returns-clause-come
returns-clause-come c =
    let p = c.args.plan.now in
    let marks = c.in_ok-vec.field-0.items in
    let payloads = c.in_ok-payloads.payloads.items in
    let heads = c.in_ok-heads.heads.items in
    let e : c.in_ok-with_capacity.field-0.items ≡ [] = search rules in
    let m : marks ≡ replicate (length p.jobs) false = search rules in
    record {
      plan = c.in_ok-heads.ensures.plan;
      progress = subst (λ (xs : List ℕ). IsProgress p xs marks payloads heads) (sym e)
          (starts p marks payloads heads m (c.in_ok-payloads.ensures {u = tt}) c.in_ok-heads.ensures.heads);
    }
