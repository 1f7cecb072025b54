use Rattle.std.proofs.Common.{inl, inr, refl, subst, sym, arith, true, ◌≡◌}
use Rattle.vq_board.specs.Named.{plan_of, view}
use Rattle.vq_access.specs.Timelines.{HasAskedOr}
use Rattle.vq_access.specs.Lasts.{recent_of}
use Rattle.vq_access.specs.Posts.{lenders_of}
use Rattle.vq_access.proofs.Looking.{learned}
use Rattle.vq_access.proofs.Posting.{collected_finds, here, learned_of, other_finds, seen_by}
use Rattle.vq_access.proofs.Replies.{collects_none, collects_step}
use Rattle.vq_access.proofs.Giving.{collection_quiet, is_collection}
use Rattle.vq_access.proofs.Making.{shows_behind}
use Rattle.vq_access.proofs.Untaking.{learned_steps, learned_told}
use Rattle.vq_model.specs.Plan.{Plan, chain}
use Rattle.vq_ground.specs.Lists.{has}
use Rattle.vq_access.proofs.post.Post.collect.Goals as goal

pub invariant_of-self-in_default-sees_collected : goal.invariant_of-self-in_default-sees_collected
invariant_of-self-in_default-sees_collected g c =
    let x = c.args.self.now in
    let y = c.sees_collected.new.pass in
    let k = c.sees_collected.ensures.learned in
    record {
      planned = x.planned;
      of_board = learned_of x y k;
      locks = x.locks;
      serves = x.serves;
      places = learned x c.plan-lawful.ensures.read c.plan-lawful.ensures.lawful (view y) (view y) refl k.1;
      fits = x.fits;
      few = x.few;
      finds = collected_finds x.ordered.now x.actor (here x) c.args.chain;
    }

pub invariant_of-self-2 : goal.invariant_of-self-2
invariant_of-self-2 g c =
    let x = c.args.self.now in
    let y = c.sees_collected.new.pass in
    let k = c.sees_collected.ensures.learned in
    record {
      planned = x.planned;
      of_board = learned_of x y k;
      locks = x.locks;
      serves = x.serves;
      places = learned x c.plan-lawful.ensures.read c.plan-lawful.ensures.lawful (view y) (view y) refl k.1;
      fits = x.fits;
      few = x.few;
      finds = other_finds x.ordered.now x.actor (here x);
    }

pub returns-in_default-clause-asked : goal.returns-in_default-clause-asked
returns-in_default-clause-asked g c x at =
    let p = plan_of c.args.self.now.board.now in
    inr (inl (subst (HasAskedOr (g.L.Lists.tries c.args.lists.now) p x) c.in_default.is (c.collected_on.ensures.asked x at), refl))

pub returns-in_default-sees_collected-clause-asked : goal.returns-in_default-sees_collected-clause-asked
returns-in_default-sees_collected-clause-asked g c x at =
    inr (inr (c.in-Some.collected, c.in-Some.ensures.asked x at, c.sees_collected.ensures.unshown c.in_default-sees_collected.is, refl))

pub returns-clause-asked : goal.returns-clause-asked
returns-clause-asked g c x at =
    inl (c.in-Some.collected, sym c.in-Some-sees_collected.ensures.event, c.in-Some.ensures.asked x at)

pub returns-in_default-clause-answer : goal.returns-in_default-clause-answer
returns-in_default-clause-answer g c =
    let x = c.args.self.now in
    collects_none (lenders_of x) x.ordered.now x.actor (here x) (recent_of x.last) (seen_by x) (seen_by x) x.refused.now
    c.args.chain (omega arith) refl

pub returns-in_default-sees_collected-clause-answer : goal.returns-in_default-sees_collected-clause-answer
returns-in_default-sees_collected-clause-answer g c =
    let x = c.args.self.now in
    let w = view c.sees_collected.new.pass in
    let k = c.sees_collected.ensures.learned.1 in
    collects_none (lenders_of x) x.ordered.now x.actor (here x) (recent_of x.last) (seen_by x) w x.refused.now
    c.args.chain (learned_steps (seen_by x) w k) (learned_told (seen_by x) w k)

pub returns-clause-answer : goal.returns-clause-answer
returns-clause-answer g c =
    let x = c.args.self.now in
    let w = view c.sees_collected.new.pass in
    let k = c.sees_collected.ensures.learned.1 in
    let event = c.in-Some-sees_collected.event in
    let made = c.in-Some-sees_collected.ensures.event in
    let there = is_collection x.ordered.now c.args.chain c.in-Some.collected event
    (λ e is. subst (λ (p : Plan). has (chain p c.args.chain) e ≡ true) x.planned (c.in-Some.ensures.completed e is)) made in
    collects_step (lenders_of x) x.ordered.now x.actor (here x) (here x) (recent_of x.last) (seen_by x) w w
    x.refused.now refl (learned_steps (seen_by x) w k) (learned_told (seen_by x) w k) event
    (collection_quiet c.in-Some.collected event made) (here x) refl
    (shows_behind (seen_by x) w x.refused.now x.refused.now event c.in-Some-sees_collected.ensures.shown) c.args.chain
    there refl
