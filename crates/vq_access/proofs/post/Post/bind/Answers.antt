use Rattle.std.proofs.Common.{◌<◌, ◌≡◌, ◌∙◌, Some, Ok, Err, length, subst, sym, ap, refl, inl, inr, arith}
use Rattle.vq_board.specs.Named.{plan_of, view}
use Rattle.vq_model.specs.declared.plan.Event.TheVariants.{Bind as Binds}
use Rattle.vq_timeline.specs.declared.timeline.LockedTimeline.{LockedTimeline}
use Rattle.vq_timeline.specs.Answers.{IsBindRefused}
use Rattle.vq_timeline.specs.Named.{Asked, chain_at, state_of}
use Rattle.vq_timeline_laws.specs.Calls.{HasBound}
use Rattle.vq_access.specs.Asking.{HasTied, want_by}
use Rattle.vq_access.specs.Lasts.{recent_of}
use Rattle.vq_access.specs.Posts.{lenders_of}
use Rattle.vq_actor.specs.Answers.{IsBindOf, bound_or}
use Rattle.vq_actor.specs.Meanings.{Other}
use Rattle.vq_turns.specs.declared.outcome.Want.TheVariants.{Listed}
use Rattle.std.specs.List.{slice_get}
use Rattle.vq_model.specs.Plan.{Plan}
use Rattle.vq_turns.specs.declared.task.Task.TheVariants.{Bind}
use Rattle.vq_turns.specs.Turns.{forward}
use Rattle.vq_access.proofs.Existing.{bind_exists, found_chain}
use Rattle.vq_access.proofs.Listing.{asked_at, binds_truly, err_of, ok_of, refused_lists}
use Rattle.vq_access.proofs.Posting.{counts, fits_on, here, learned_of, of_board_plan, other_finds, seen_by, true_at}
use Rattle.vq_actor.specs.Trackers.{Tracked}
use Rattle.vq_access.proofs.Replies.{moves_step}
use Rattle.vq_access.proofs.Looking.{learned}
use Rattle.vq_access.proofs.Making.{shows_behind}
use Rattle.vq_access.proofs.Untaking.{learned_steps, learned_told}
use Rattle.vq_access.proofs.post.Post.bind.Goals as goal

pub op-found-requires : goal.op-found-requires
op-found-requires g c =
    let x = c.args.self.now in
    of_board_plan x (λ p. c.args.op < length p.ops)
    (bind_exists x.ordered.now c.plan-lawful.ensures.read c.plan-lawful.ensures.lawful x.actor x.seat.now.place.done c.args.op c.requires)

pub timeline_at-timeline-requires-clause-exists : goal.timeline_at-timeline-requires-clause-exists
timeline_at-timeline-requires-clause-exists g c =
    let x = c.args.self.now in
    of_board_plan x (λ p. c.op-found.result.chain < length p.chains)
    (found_chain x.ordered.now c.plan-lawful.ensures.read c.plan-lawful.ensures.lawful c.args.op c.op-found.result
    (subst (λ (p : Plan). slice_get p.ops c.args.op ≡ Some c.op-found.result) x.planned c.op-found.ensures))

pub forward-requires : goal.forward-requires
forward-requires g c = counts c.args.self.now (Bind c.args.op) c.requires

pub sees_bound-requires-clause-exists : goal.sees_bound-requires-clause-exists
sees_bound-requires-clause-exists g c =
    let x = c.args.self.now in
    of_board_plan x (λ p. c.args.op < length p.ops)
    (bind_exists x.ordered.now c.plan-lawful.ensures.read c.plan-lawful.ensures.lawful x.actor x.seat.now.place.done c.args.op c.requires)

pub invariant_of-self-then-not-sees_bound : goal.invariant_of-self-then-not-sees_bound
invariant_of-self-then-not-sees_bound g c =
    let x = c.args.self.now in
    let y = c.sees_bound.new.pass in
    let k = c.sees_bound.ensures.learned in
    record {
      planned = x.planned;
      of_board = learned_of x y k;
      locks = x.locks;
      serves = x.serves;
      places = learned x c.plan-lawful.ensures.read c.plan-lawful.ensures.lawful (view y) (view y) refl k.1;
      fits = x.fits;
      few = x.few;
      finds = other_finds x.ordered.now x.actor (here x);
    }

pub invariant_of-self-in-Ok : goal.invariant_of-self-in-Ok
invariant_of-self-in-Ok g c =
    let x = c.args.self.now in
    let y = c.sees_bound.new.pass in
    let k = c.sees_bound.ensures.learned in
    record {
      planned = x.planned;
      of_board = learned_of x y k;
      locks = x.locks;
      serves = x.serves;
      places = true_at x (view y) (view y) c.forward.new.self (forward (here x)) refl c.forward.ensures
          (binds_truly x c.plan-lawful.ensures.read c.plan-lawful.ensures.lawful (view y) k.1 c.args.op c.requires);
      fits = fits_on x (Bind c.args.op) c.requires c.forward.new.self c.forward.ensures;
      few = x.few;
      finds = other_finds x.ordered.now x.actor c.forward.new.self.place;
    }

pub returns-else-not-sees_bound-clause-asked : goal.returns-else-not-sees_bound-clause-asked
returns-else-not-sees_bound-clause-asked g c t x of at =
    let y = c.args.self.now in
    let b = plan_of y.board.now in
    let same = asked_at b b y.timelines.now c.args.op t c.op-found.result c.timeline_at-timeline.result.now x refl
    c.op-found.ensures of c.timeline_at-timeline.ensures.there at in
    inl (subst (λ (z : LockedTimeline). HasTied b z c.args.op (Ok (Binds c.args.op c.in-Ok.point))) same
    (inl (
      c.in-Ok.point,
      refl,
      ok_of c.in-Some.answer
          (λ q. Asked c.timeline_at-timeline.result.now (λ u v. HasBound b (state_of u) (state_of v) c.args.op q)) c.in-Ok.point
          c.in-Ok.is c.in-Some.ensures.bound,
    )))

pub returns-in-Err-clause-asked : goal.returns-in-Err-clause-asked
returns-in-Err-clause-asked g c t x of at =
    let y = c.args.self.now in
    let b = plan_of y.board.now in
    let same = asked_at b b y.timelines.now c.args.op t c.op-found.result c.timeline_at-timeline.result.now x refl
    c.op-found.ensures of c.timeline_at-timeline.ensures.there at in
    let chain : c.op-found.result.chain ≡ chain_at c.timeline_at-timeline.result.now =
    sym c.timeline_at-timeline.ensures.chain in
    let want = c.held_back-want.ensures.fault
    ∙ (λ k. want_by (sym y.planned k) (chain k) c.args.op c.in-Err.fault) in
    inl (subst (λ (z : LockedTimeline). HasTied b z c.args.op (Err c.held_back-want.result)) same
    (inr (
      c.in-Err.fault,
      ap Err want,
      err_of c.in-Some.answer
          (λ k. Asked c.timeline_at-timeline.result.now (λ u v. IsBindRefused b (state_of u) (state_of v) c.args.op k)) c.in-Err.fault
          c.in-Err.is c.in-Some.ensures.refused,
    )))

pub returns-in_default-clause-answer : goal.returns-in_default-clause-answer
returns-in_default-clause-answer g c =
    let x = c.args.self.now in
    refused_lists (lenders_of x) x.ordered.now x.actor (here x) (recent_of x.last) Other (seen_by x) (seen_by x)
    x.refused.now c.keep.new.self (Listed c.args.op) (omega arith) refl refl c.keep.ensures.kept c.keep.ensures.more (forward (here x))
    (λ w. bound_or x.ordered.now w c.args.op) (IsBindOf c.args.op)

pub returns-in_default-clause-asked : goal.returns-in_default-clause-asked
returns-in_default-clause-asked g c t x of at = inr (inl (c.bind.ensures.in_use c.in_default.is, refl))

pub returns-then-not-sees_bound-clause-asked : goal.returns-then-not-sees_bound-clause-asked
returns-then-not-sees_bound-clause-asked g c t x of at =
    let y = c.args.self.now in
    let b = plan_of y.board.now in
    let event = Binds c.args.op c.in-Ok.point in
    let same = asked_at b b y.timelines.now c.args.op t c.op-found.result c.timeline_at-timeline.result.now x refl
    c.op-found.ensures of c.timeline_at-timeline.ensures.there at in
    inr (inr (
      event,
      subst (λ (z : LockedTimeline). HasTied b z c.args.op (Ok event)) same
          (inl (
            c.in-Ok.point,
            refl,
            ok_of c.in-Some.answer
                (λ q. Asked c.timeline_at-timeline.result.now (λ u v. HasBound b (state_of u) (state_of v) c.args.op q))
                c.in-Ok.point c.in-Ok.is c.in-Some.ensures.bound,
          )),
      c.sees_bound.ensures.unshown c.if-not-sees_bound.true,
      refl,
    ))

pub returns-then-not-sees_bound-clause-answer : goal.returns-then-not-sees_bound-clause-answer
returns-then-not-sees_bound-clause-answer g c =
    let x = c.args.self.now in
    let w = view c.sees_bound.new.pass in
    let k = c.sees_bound.ensures.learned.1 in
    refused_lists (lenders_of x) x.ordered.now x.actor (here x) (recent_of x.last) Other (seen_by x) w x.refused.now
    c.keep-then-not-sees_bound.new.self (Listed c.args.op) (learned_steps (seen_by x) w k)
    (learned_told (seen_by x) w k) refl c.keep-then-not-sees_bound.ensures.kept
    c.keep-then-not-sees_bound.ensures.more (forward (here x)) (λ z. bound_or x.ordered.now z c.args.op)
    (IsBindOf c.args.op)

pub returns-else-not-sees_bound-clause-answer : goal.returns-else-not-sees_bound-clause-answer
returns-else-not-sees_bound-clause-answer g c =
    let x = c.args.self.now in
    let w = view c.sees_bound.new.pass in
    let k = c.sees_bound.ensures.learned.1 in
    let event = Binds c.args.op c.in-Ok.point in
    moves_step (lenders_of x) x.ordered.now x.actor (here x) c.forward.new.self.place (recent_of x.last) (seen_by x)
    w w x.refused.now refl (learned_steps (seen_by x) w k) (learned_told (seen_by x) w k) event refl (forward (here x))
    (ap (λ (t : Tracked). t.place) c.forward.ensures)
    (shows_behind (seen_by x) w x.refused.now x.refused.now event
    (c.sees_bound.ensures.shown c.if-not-sees_bound.false))
    (λ z. bound_or x.ordered.now z c.args.op) (IsBindOf c.args.op) refl
