use Rattle.std.proofs.Common.{◌≡◌, ◌<◌, ℕ, true, List, Ok, length, refl, sym, subst, ap, ◌∙◌, arith}
use Rattle.std.specs.List.{list_all}
use Rattle.vq_model.specs.declared.plan.Event.TheVariants.{Release as Releases}
use Rattle.vq_model.specs.Plan.{Plan, signals_of}
use Rattle.vq_ground.specs.Lists.{has}
use Rattle.vq_turns.specs.declared.task.Task.TheVariants.{Release}
use Rattle.vq_turns.specs.Turns.{forward}
use Rattle.vq_actor.specs.Answers.{Is}
use Rattle.vq_actor.specs.Meanings.{Other}
use Rattle.vq_board.specs.Named.{view}
use Rattle.vq_board_laws.specs.Steps.{releases}
use Rattle.vq_access_laws.specs.Tests.{knows_taken}
use Rattle.vq_access.specs.Lasts.{recent_of}
use Rattle.vq_access.specs.Posts.{lenders_of}
use Rattle.vq_access.proofs.Jobbing.{releases_may, releases_there, releases_truly, signals_there}
use Rattle.vq_access.proofs.Looking.{learned}
use Rattle.vq_access.proofs.Posting.{counts, fits_on, here, learned_of, other_finds, seen_by, true_at}
use Rattle.vq_access.proofs.TakenLooks.{all_taken}
use Rattle.vq_access.proofs.Untaking.{refused_release, learned_steps, learned_told}
use Rattle.vq_actor.specs.Trackers.{Tracked}
use Rattle.vq_access.proofs.Replies.{moves_step}
use Rattle.vq_access.proofs.Making.{shows_release}
use Rattle.vq_access.proofs.post.Post.release.Goals as goal

pub signals_of-signals-requires : goal.signals_of-signals-requires
signals_of-signals-requires g c =
    subst (λ (p : Plan). c.args.job < length p.jobs) (sym c.plan.ensures.value)
    (releases_there c.args.self.now c.plan.ensures.read c.plan.ensures.lawful c.args.job c.requires)

pub untaken-requires-clause-ops : goal.untaken-requires-clause-ops
untaken-requires-clause-ops g c e m =
    let same = c.signals_of-signals.ensures ∙ ap (λ (p : Plan). signals_of p c.args.job) c.plan.ensures.value in
    signals_there c.args.self.now c.plan.ensures.read c.plan.ensures.lawful c.args.job e
    (ap (λ (es : List ℕ). has es e) (sym same) ∙ m)

pub invariant_of-self : goal.invariant_of-self
invariant_of-self g c =
    let x = c.args.self.now in
    let learning = c.untaken.ensures.pass in
    record {
      planned = x.planned;
      of_board = learned_of x c.untaken.new.pass learning;
      locks = x.locks;
      serves = x.serves;
      places = learned x c.plan.ensures.read c.plan.ensures.lawful (view c.untaken.new.pass) (view c.untaken.new.pass)
          refl learning.1;
      fits = x.fits;
      few = x.few;
      finds = other_finds x.ordered.now x.actor (here x);
    }

pub returns-in-Some-clause-answer : goal.returns-in-Some-clause-answer
returns-in-Some-clause-answer g c =
    let x = c.args.self.now in
    refused_release (lenders_of x) x.ordered.now x.actor (here x) (recent_of x.last) Other (seen_by x)
    (view c.untaken.new.pass) x.refused.now c.signals_of-signals.result.now c.in-Some.want c.in-Some.ensures.untaken
    (forward (here x)) (λ w. Ok (Releases c.args.job)) (Is (Releases c.args.job))

pub release-requires-clause-may : goal.release-requires-clause-may
release-requires-clause-may g c =
    let x = c.args.self.now in
    let same = sym
    (c.signals_of-signals.ensures ∙ ap (λ (p : Plan). signals_of p c.args.job) c.plan.ensures.value) in
    releases_may x c.plan.ensures.read c.plan.ensures.lawful (view c.untaken.new.pass) c.untaken.ensures.pass.1
    c.args.job c.requires
    (subst (λ (es : List ℕ). list_all (knows_taken (view c.untaken.new.pass).known) es ≡ true) (sym same)
    (all_taken (view c.untaken.new.pass) c.signals_of-signals.result.now (c.untaken.ensures.taken c.in_default.is)))

pub forward-requires : goal.forward-requires
forward-requires g c = counts c.args.self.now (Release c.args.job) c.requires

pub invariant_of-self-2-clause-places : goal.invariant_of-self-2-clause-places
invariant_of-self-2-clause-places g c =
    let x = c.args.self.now in
    true_at x (view c.release.new.pass) (releases (view c.untaken.new.pass) c.args.job) c.forward.new.self
    (forward (here x)) c.release.ensures.pass.2 c.forward.ensures
    (releases_truly x c.plan.ensures.read c.plan.ensures.lawful (view c.untaken.new.pass) c.untaken.ensures.pass.1
    c.args.job c.requires)

pub invariant_of-self-2-clause-fits : goal.invariant_of-self-2-clause-fits
invariant_of-self-2-clause-fits g c =
    fits_on c.args.self.now (Release c.args.job) c.requires c.forward.new.self c.forward.ensures

pub returns-clause-answer : goal.returns-clause-answer
returns-clause-answer g c =
    let x = c.args.self.now in
    let u = view c.untaken.new.pass in
    let learned = c.untaken.ensures.pass.1 in
    let more = learned_steps (seen_by x) u learned in
    moves_step (lenders_of x) x.ordered.now x.actor (here x) c.forward.new.self.place (recent_of x.last) (seen_by x)
    (view c.release.new.pass) (releases u c.args.job) x.refused.now c.release.ensures.pass.2 (omega (arith, more))
    (learned_told (seen_by x) u learned) (Releases c.args.job) refl (forward (here x))
    (ap (λ (t : Tracked). t.place) c.forward.ensures)
    (shows_release (seen_by x) (view c.release.new.pass) x.refused.now x.refused.now u c.args.job more
    c.release.ensures.pass.2) (λ w. Ok (Releases c.args.job)) (Is (Releases c.args.job)) refl
