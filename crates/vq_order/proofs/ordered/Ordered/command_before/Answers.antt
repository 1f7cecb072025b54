use Rattle.std.proofs.Common.{◌≡◌, ◌<◌, ◌↔◌, ℕ, IsTrue, true, length, sym, subst}
use Rattle.vq_model.specs.HappensBefore.{HappensBeforeCommand}
use Rattle.vq_model.specs.Plan.{Plan, commands_of}
use Rattle.vq_ground.specs.Lists.{has}
use Rattle.vq_plan_laws.proofs.Cited.{owner_exists}
use Rattle.vq_order.specs.CommandPairs.{AreOfTwoJobs}
use Rattle.vq_order.proofs.ordered.Ordered.command_before.Goals as goal

pub owner-requires : goal.owner-requires
owner-requires c =
    let r = subst (λ (p : Plan). AreOfTwoJobs p c.args.a c.args.b) (sym c.self.view_is) c.requires in
    (r.first_job, r.first)

pub owner-requires-2 : goal.owner-requires-2
owner-requires-2 c =
    let r = subst (λ (p : Plan). AreOfTwoJobs p c.args.a c.args.b) (sym c.self.view_is) c.requires in
    (r.second_job, r.second)

pub before_command-requires-clause-first : goal.before_command-requires-clause-first
before_command-requires-clause-first c =
    let q = c.self.inside.order in
    let r = subst (λ (p : Plan). AreOfTwoJobs p c.args.a c.args.b) (sym c.self.view_is) c.requires in
    subst (λ (j : ℕ). j < length q.jobs) (sym (c.owner.ensures r.first_job r.first)) (owner_exists q r.first_job c.args.a r.first)

pub before_command-requires-clause-second : goal.before_command-requires-clause-second
before_command-requires-clause-second c =
    let q = c.self.inside.order in
    let r = subst (λ (p : Plan). AreOfTwoJobs p c.args.a c.args.b) (sym c.self.view_is) c.requires in
    subst (λ (j : ℕ). has (commands_of q j) c.args.b ≡ true) (sym (c.owner-2.ensures r.second_job r.second)) r.second

pub returns : goal.returns
returns c i j f s =
    let q = c.self.inside.order in
    let d = c.owner.ensures i (subst (λ (p : Plan). has (commands_of p i) c.args.a ≡ true) (sym c.self.view_is) f) in
    let e = c.owner-2.ensures j (subst (λ (p : Plan). has (commands_of p j) c.args.b ≡ true) (sym c.self.view_is) s) in
    subst (λ (p : Plan). IsTrue c.before_command.result ↔ HappensBeforeCommand p i j c.args.b) c.self.view_is
    (subst (λ (z : ℕ × ℕ). IsTrue c.before_command.result ↔ HappensBeforeCommand q z.0 z.1 c.args.b) (λ t. (d t, e t)) c.before_command.ensures)
