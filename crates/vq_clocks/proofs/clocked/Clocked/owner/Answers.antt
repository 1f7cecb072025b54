use Rattle.std.proofs.Common.{◌≡◌, true, sym, subst}
use Rattle.vq_model.specs.LoweredPlans.{IsPlan}
use Rattle.vq_model.specs.Plan.{Plan, commands_of}
use Rattle.vq_ground.specs.Lists.{has}
use Rattle.vq_model.proofs.Plans.{command_exists}
use Rattle.vq_plan_laws.proofs.Cited.{plan_well_formed}
use Rattle.vq_clocks.specs.VectorClocks.{IsOfSomeJob}
use Rattle.vq_clocks.proofs.clocked.Clocked.owner.Goals as goal

pub owner-requires : goal.owner-requires
owner-requires c =
    let now = c.args.self.now in
    let seen = c.plan.result.now in
    let is : now ≡ seen = sym c.plan.ensures.value in
    let w = plan_well_formed seen (subst IsPlan is c.plan.ensures.complete.plan) in
    let r = subst (λ (q : Plan). IsOfSomeJob q c.args.c) is c.requires in
    command_exists seen w r.0 c.args.c r.1

pub returns : goal.returns
returns c j h =
    let now = c.args.self.now in
    let seen = c.plan.result.now in
    let is : now ≡ seen = sym c.plan.ensures.value in
    let w = plan_well_formed seen (subst IsPlan is c.plan.ensures.complete.plan) in
    w.one_job c.args.c c.owner.result j c.owner.ensures
    (subst (λ (q : Plan). has (commands_of q j) c.args.c ≡ true) is h)
