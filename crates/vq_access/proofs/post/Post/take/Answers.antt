use Rattle.std.proofs.Common.{◌<◌, ◌≡◌, ℕ, Some, Ok, Err, length, sym, subst, ap, ◌∙◌, refl, inl, inr, arith, false}
use Rattle.std.specs.List.{slice_get}
use Rattle.std.proofs.lemmas.Option.{same_Some}
use Rattle.vq_timeline.specs.Answers.{taken_point}
use Rattle.vq_board.specs.Named.{plan_of, view}
use Rattle.vq_access_laws.specs.Causes.{IsMade}
use Rattle.vq_access.specs.Asking.{take_of}
use Rattle.vq_timeline.specs.declared.timeline.LockedTimeline.{LockedTimeline}
use Rattle.vq_access.specs.Asking.{HasGiven}
use Rattle.vq_model.specs.Plan.{chain_of}
use Rattle.vq_turns.specs.declared.outcome.Want.TheVariants.{Listed}
use Rattle.vq_turns.specs.declared.task.Task.TheVariants.{Take}
use Rattle.vq_turns.specs.Turns.{forward, taken}
use Rattle.vq_actor.specs.Collections.{emptied, IsTakeOf}
use Rattle.vq_actor.specs.Meanings.{Other}
use Rattle.vq_access.specs.Lasts.{recent_of}
use Rattle.vq_access.specs.Posts.{lenders_of}
use Rattle.vq_access.proofs.Existing.{take_chain_there, chain_there}
use Rattle.vq_access.proofs.Listing.{err_of, ok_of, refused_lists, takes_truly}
use Rattle.vq_timeline.specs.Named.{Asked, state_of}
use Rattle.vq_timeline_laws.specs.Calls.{HasTaken, IsTakeRefused}
use Rattle.vq_access.proofs.Posting.{counts, fits_on, here, learned_of, of_board_plan, other_finds, seen_by, true_at}
use Rattle.vq_actor.specs.Trackers.{Tracked}
use Rattle.vq_access.proofs.Replies.{moves_step}
use Rattle.vq_access.proofs.Giving.{take_quiet}
use Rattle.vq_access.proofs.Looking.{learned}
use Rattle.vq_access.proofs.Making.{shows_behind}
use Rattle.vq_access.proofs.Untaking.{learned_steps, learned_told}
use Rattle.vq_model.specs.declared.plan.Event.{Event}
use Rattle.vq_access_laws.specs.AccessMeanings.{is_answer}
use Rattle.vq_access.proofs.post.Post.take.Goals as goal

pub timeline_at-timeline-requires-clause-exists : goal.timeline_at-timeline-requires-clause-exists
timeline_at-timeline-requires-clause-exists g c =
    let x = c.args.self.now in
    let t = emptied (recent_of x.last) in
    let of = take_chain_there x.ordered.now c.plan-lawful.ensures.read c.plan-lawful.ensures.lawful x.actor x.seat.now.place.done c.args.op t c.requires.is_next in
    of_board_plan x (λ p. c.emptied_chain-chain.result < length p.chains)
    (subst (λ (n : ℕ). n < length x.ordered.now.chains) (sym c.emptied_chain-chain.ensures)
    (chain_there x.ordered.now c.plan-lawful.ensures.read c.plan-lawful.ensures.lawful c.args.op t of))

pub take_for-requires-clause-op : goal.take_for-requires-clause-op
take_for-requires-clause-op g c =
    let x = c.args.self.now in
    let t = emptied (recent_of x.last) in
    let of = take_chain_there x.ordered.now c.plan-lawful.ensures.read c.plan-lawful.ensures.lawful x.actor x.seat.now.place.done c.args.op t c.requires.is_next in
    of_board_plan x (λ p. chain_of p c.args.op ≡ Some t) of
    ∙ ap (λ (n : ℕ). Some n) (sym (c.timeline_at-timeline.ensures.chain ∙ c.emptied_chain-chain.ensures))

pub forward-requires : goal.forward-requires
forward-requires g c =
    let x = c.args.self.now in
    counts x (Take c.args.op (emptied (recent_of x.last))) c.requires.is_next

pub sees_given-requires-clause-exists : goal.sees_given-requires-clause-exists
sees_given-requires-clause-exists g c =
    ok_of c.in-Some.answer (λ t. taken_point t < length (plan_of c.args.self.now.board.now).ops) c.in-Ok.taken c.in-Ok.is
    c.in-Some.ensures.below

pub invariant_of-self-then-not-sees_given : goal.invariant_of-self-then-not-sees_given
invariant_of-self-then-not-sees_given g c =
    let x = c.args.self.now in
    let y = c.sees_given.new.pass in
    let k = c.sees_given.ensures.learned in
    record {
      planned = x.planned;
      of_board = learned_of x y k;
      locks = x.locks;
      serves = x.serves;
      places = learned x c.plan-lawful.ensures.read c.plan-lawful.ensures.lawful (view y) (view y) refl k.1;
      fits = x.fits;
      few = x.few;
      finds = other_finds x.ordered.now x.actor (here x);
    }

pub invariant_of-self-in-Ok : goal.invariant_of-self-in-Ok
invariant_of-self-in-Ok g c =
    let x = c.args.self.now in
    let y = c.sees_given.new.pass in
    let k = c.sees_given.ensures.learned in
    let t = emptied (recent_of x.last) in
    record {
      planned = x.planned;
      of_board = learned_of x y k;
      locks = x.locks;
      serves = x.serves;
      places = true_at x (view y) (view y) c.forward.new.self (forward (here x)) refl c.forward.ensures
          (takes_truly x c.plan-lawful.ensures.read c.plan-lawful.ensures.lawful (view y) k.1 c.args.op t c.requires.is_next);
      fits = fits_on x (Take c.args.op t) c.requires.is_next c.forward.new.self c.forward.ensures;
      few = x.few;
      finds = other_finds x.ordered.now x.actor c.forward.new.self.place;
    }

pub returns-in-Err-clause-answer : goal.returns-in-Err-clause-answer
returns-in-Err-clause-answer g c =
    let x = c.args.self.now in
    refused_lists (lenders_of x) x.ordered.now x.actor (here x) (recent_of x.last) Other (seen_by x) (seen_by x)
    x.refused.now c.keep-in-Err.new.self (Listed c.args.op) (omega arith) refl refl c.keep-in-Err.ensures.kept c.keep-in-Err.ensures.more (forward (here x))
    (λ w. Ok (taken w c.args.op (emptied (recent_of x.last)))) (IsTakeOf c.args.op)

pub returns-in_default-clause-answer : goal.returns-in_default-clause-answer
returns-in_default-clause-answer g c =
    let x = c.args.self.now in
    refused_lists (lenders_of x) x.ordered.now x.actor (here x) (recent_of x.last) Other (seen_by x) (seen_by x)
    x.refused.now c.keep.new.self (Listed c.args.op) (omega arith) refl refl c.keep.ensures.kept c.keep.ensures.more (forward (here x))
    (λ w. Ok (taken w c.args.op (emptied (recent_of x.last)))) (IsTakeOf c.args.op)

pub returns-else-not-sees_given-clause-asked : goal.returns-else-not-sees_given-clause-asked
returns-else-not-sees_given-clause-asked g c x at =
    let y = c.args.self.now in
    let l = c.timeline_at-timeline.result.now in
    let same = same_Some l x
    (sym c.timeline_at-timeline.ensures.there
    ∙ (ap (λ (n : ℕ). slice_get y.timelines.now n) c.emptied_chain-chain.ensures ∙ at)) in
    inl (subst (λ (z : LockedTimeline). HasGiven (plan_of y.board.now) z c.args.op (Ok c.taking.result)) same
    (inl (
      c.in-Ok.taken,
      ap Ok c.taking.ensures.named,
      ok_of c.in-Some.answer
          (λ t. Asked l (λ u v. HasTaken (plan_of y.board.now) (state_of u) (state_of v) c.args.op t)) c.in-Ok.taken c.in-Ok.is
          c.in-Some.ensures.taken,
    )))

pub returns-in-Err-clause-asked : goal.returns-in-Err-clause-asked
returns-in-Err-clause-asked g c x at =
    let y = c.args.self.now in
    let l = c.timeline_at-timeline.result.now in
    let same = same_Some l x
    (sym c.timeline_at-timeline.ensures.there
    ∙ (ap (λ (n : ℕ). slice_get y.timelines.now n) c.emptied_chain-chain.ensures ∙ at)) in
    inl (subst (λ (z : LockedTimeline). HasGiven (plan_of y.board.now) z c.args.op (Err (Listed c.args.op))) same
    (inr (
      c.in-Err.place,
      refl,
      err_of c.in-Some.answer
          (λ t. Asked l (λ u v. IsTakeRefused (plan_of y.board.now) (state_of u) (state_of v) c.args.op t)) c.in-Err.place c.in-Err.is
          c.in-Some.ensures.refused,
    )))

pub returns-in_default-clause-asked : goal.returns-in_default-clause-asked
returns-in_default-clause-asked g c x at = inr (inl (c.take_for.ensures.in_use c.in_default.is, refl))

pub returns-then-not-sees_given-clause-asked : goal.returns-then-not-sees_given-clause-asked
returns-then-not-sees_given-clause-asked g c x at =
    let y = c.args.self.now in
    let l = c.timeline_at-timeline.result.now in
    let event = take_of c.args.op c.in-Ok.taken in
    let same = same_Some l x
    (sym c.timeline_at-timeline.ensures.there
    ∙ (ap (λ (n : ℕ). slice_get y.timelines.now n) c.emptied_chain-chain.ensures ∙ at)) in
    inr (inr (
      event,
      subst (λ (z : LockedTimeline). HasGiven (plan_of y.board.now) z c.args.op (Ok event)) same
          (inl (
            c.in-Ok.taken,
            refl,
            ok_of c.in-Some.answer
                (λ t. Asked l (λ u v. HasTaken (plan_of y.board.now) (state_of u) (state_of v) c.args.op t)) c.in-Ok.taken
                c.in-Ok.is c.in-Some.ensures.taken,
          )),
      c.sees_given.ensures.unshown c.if-not-sees_given.true,
      refl,
    ))

pub returns-then-not-sees_given-clause-answer : goal.returns-then-not-sees_given-clause-answer
returns-then-not-sees_given-clause-answer g c =
    let x = c.args.self.now in
    let w = view c.sees_given.new.pass in
    let k = c.sees_given.ensures.learned.1 in
    refused_lists (lenders_of x) x.ordered.now x.actor (here x) (recent_of x.last) Other (seen_by x) w x.refused.now
    c.keep-then-not-sees_given.new.self (Listed c.args.op) (learned_steps (seen_by x) w k)
    (learned_told (seen_by x) w k) refl c.keep-then-not-sees_given.ensures.kept
    c.keep-then-not-sees_given.ensures.more (forward (here x))
    (λ z. Ok (taken z c.args.op (emptied (recent_of x.last)))) (IsTakeOf c.args.op)

pub returns-else-not-sees_given-clause-answer : goal.returns-else-not-sees_given-clause-answer
returns-else-not-sees_given-clause-answer g c =
    let x = c.args.self.now in
    let w = view c.sees_given.new.pass in
    let k = c.sees_given.ensures.learned.1 in
    let event = c.taking.result in
    let named = sym c.taking.ensures.named in
    let made = subst (λ (e : Event). IsMade w e (length (seen_by x).steps)) named
    (c.sees_given.ensures.shown c.if-not-sees_given.false) in
    moves_step (lenders_of x) x.ordered.now x.actor (here x) c.forward.new.self.place (recent_of x.last) (seen_by x)
    w w x.refused.now refl (learned_steps (seen_by x) w k) (learned_told (seen_by x) w k) event
    (subst (λ (e : Event). is_answer e ≡ false) named (take_quiet c.args.op c.in-Ok.taken)) (forward (here x))
    (ap (λ (t : Tracked). t.place) c.forward.ensures)
    (shows_behind (seen_by x) w x.refused.now x.refused.now event made)
    (λ z. Ok (taken z c.args.op (emptied (recent_of x.last)))) (IsTakeOf c.args.op) c.taking.ensures.event
