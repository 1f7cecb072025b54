use Rattle.std.proofs.Common.{◌≡◌, ℕ, true, sym, subst}
use Rattle.vq_model.specs.Plan.{Plan, commands_of}
use Rattle.vq_ground.specs.Lists.{has}
use Rattle.vq_order.specs.Accessed.{IsAccess}
use Rattle.vq_plan_laws.proofs.Cited.{command_has_job}
use Rattle.vq_order.proofs.races.accesses.command_access.Goals as goal

pub owner-requires : goal.owner-requires
owner-requires c = command_has_job c.args.order.now c.plan.ensures.complete.plan c.args.c c.requires

pub access_of-requires-clause-own : goal.access_of-requires-clause-own
access_of-requires-clause-own c =
    let p = c.args.order.now in
    let o = command_has_job p c.plan.ensures.complete.plan c.args.c c.requires in
    subst (λ (q : Plan). has (commands_of q c.owner.result) c.args.c ≡ true) (sym c.plan.ensures.value)
    (subst (λ (j : ℕ). has (commands_of p j) c.args.c ≡ true) (sym (c.owner.ensures o.0 o.1)) o.1)

pub returns : goal.returns
returns c = subst (λ (q : Plan). IsAccess q c.args.c c.access_of.result) c.plan.ensures.value c.access_of.ensures
