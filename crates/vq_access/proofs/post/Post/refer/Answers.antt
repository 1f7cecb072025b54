use Rattle.std.proofs.Common.{sym, subst, ap, ◌∙◌, refl, ◌<◌, ◌≡◌, ℕ, arith, Ok}
use Rattle.vq_turns.specs.declared.task.Task.TheVariants.{AwaitNeeds}
use Rattle.vq_turns.specs.Turns.{holding_also}
use Rattle.vq_turns.specs.Programs.{program}
use Rattle.vq_actor.specs.Waits.{need_found, referred}
use Rattle.vq_actor.proofs.Cited.{fits_need}
use Rattle.vq_board.specs.Named.{view}
use Rattle.vq_board_laws.specs.PointSteps.{sees, refers}
use Rattle.vq_access.specs.Lasts.{recent_of}
use Rattle.vq_access.proofs.Posting.{few_needs, here, other_finds, seen_by, true_at}
use Rattle.vq_access.proofs.Waits.{fits_here, lost_of, moved_of, moved_point, refers_may, refers_truly, lost_point}
use Rattle.vq_actor.specs.Trackers.{Tracked}
use Rattle.vq_access.specs.Posts.{lenders_of, meaning}
use Rattle.vq_access.proofs.Replies.{moves_step}
use Rattle.vq_actor.specs.Answers.{Is}
use Rattle.vq_access.proofs.Making.{shows_refer}
use Rattle.vq_model.specs.declared.plan.Event.TheVariants.{Refer as Refers}
use Rattle.vq_access.proofs.post.Post.refer.Goals as goal

pub refer-requires-clause-may : goal.refer-requires-clause-may
refer-requires-clause-may c =
    let x = c.args.self.now in
    let m = c.requires in
    refers_may x c.plan-lawful.ensures.read c.plan-lawful.ensures.lawful m.needs m.is_next (need_found (recent_of x.last))
    c.args.point c.args.op m.need m.at m.just_found m.without (few_needs x m.needs m.is_next)

pub invariant_of-self : goal.invariant_of-self
invariant_of-self c =
    let x = c.args.self.now in
    let is = c.in-MovedOn.ensures.pass.1 in
    record {
      planned = x.planned;
      of_board = moved_of x c.plan-lawful.ensures.read c.plan-lawful.ensures.lawful c.refer.new.pass c.args.point c.in-MovedOn.found is;
      locks = x.locks;
      serves = x.serves;
      places = moved_point x c.plan-lawful.ensures.read c.plan-lawful.ensures.lawful c.refer.new.pass c.args.point c.in-MovedOn.found is;
      fits = x.fits;
      few = x.few;
      finds = other_finds x.ordered.now x.actor (here x);
    }

pub invariant_of-self-in-Lost-1 : goal.invariant_of-self-in-Lost-1
invariant_of-self-in-Lost-1 c =
    let x = c.args.self.now in
    let is = c.in-Lost.ensures.pass.1 in
    record {
      planned = x.planned;
      of_board = lost_of x c.plan-lawful.ensures.read c.plan-lawful.ensures.lawful c.refer.new.pass c.args.point c.in-Lost.found is;
      locks = x.locks;
      serves = x.serves;
      places = lost_point x c.plan-lawful.ensures.read c.plan-lawful.ensures.lawful c.refer.new.pass c.args.point c.in-Lost.found is;
      fits = x.fits;
      few = x.few;
      finds = other_finds x.ordered.now x.actor (here x);
    }

pub refer-requires-2-clause-slot : goal.refer-requires-2-clause-slot
refer-requires-2-clause-slot c =
    let x = c.args.self.now in
    let m = c.requires in
    subst (λ (k : ℕ). k < x.seat.now.slots) (sym c.need_found-need.ensures)
    (fits_need (program x.ordered.now x.actor) x.seat.now (AwaitNeeds m.needs) m.is_next x.fits m.needs
    (need_found (recent_of x.last)) m.need refl m.at)

-- the place with the reference
placed : (c : goal.After-refer-2) → c.refer-2.new.self ≡ record c.args.self.now.seat.now {
  place = holding_also (here c.args.self.now) (need_found (recent_of c.args.self.now.last)) c.args.op c.args.point;
}
placed c =
    let x = c.args.self.now in
    c.refer-2.ensures ∙ ap (λ (k : ℕ). record x.seat.now { place = holding_also (here x) k c.args.op c.args.point })
    c.need_found-need.ensures

pub invariant_of-self-2-clause-places : goal.invariant_of-self-2-clause-places
invariant_of-self-2-clause-places c =
    let x = c.args.self.now in
    let m = c.requires in
    let held = c.in-Held.ensures.pass in
    true_at x (view c.refer.new.pass) (refers (sees (seen_by x) c.args.point held.0) c.args.point c.args.op held.0)
    c.refer-2.new.self (holding_also (here x) (need_found (recent_of x.last)) c.args.op c.args.point) held.2.2
    (placed c)
    (refers_truly x c.plan-lawful.ensures.read c.plan-lawful.ensures.lawful m.needs m.is_next (need_found (recent_of x.last)) c.args.point c.args.op held.0 m.need m.at
    m.just_found m.without)

pub invariant_of-self-2-clause-fits : goal.invariant_of-self-2-clause-fits
invariant_of-self-2-clause-fits c =
    let x = c.args.self.now in
    fits_here x (AwaitNeeds c.requires.needs) c.requires.is_next c.refer-2.new.self
    (holding_also (here x) (need_found (recent_of x.last)) c.args.op c.args.point) (placed c) refl refl

pub returns-clause-answer : goal.returns-clause-answer
returns-clause-answer c =
    let x = c.args.self.now in
    let held = c.in-Held.ensures.pass in
    moves_step (lenders_of x) x.ordered.now x.actor (here x) c.refer-2.new.self.place (recent_of x.last) (seen_by x)
    (view c.refer.new.pass) (refers (sees (seen_by x) c.args.point held.0) c.args.point c.args.op held.0) x.refused.now
    held.2.2 (omega arith) refl (Refers c.args.actor c.args.point c.args.op) refl
    (referred (meaning x) c.args.point c.args.op) (ap (λ (t : Tracked). t.place) (c.refer-2.ensures ∙ ap (λ (k : ℕ). record x.seat.now {
      place = holding_also (here x) k c.args.op c.args.point;
    }) c.need_found-need.ensures))
    (shows_refer (seen_by x) (view c.refer.new.pass) x.refused.now x.refused.now c.args.actor c.args.point c.args.op
    held.0 held.1 held.2.2) (λ w. Ok (Refers c.args.actor c.args.point c.args.op))
    (Is (Refers c.args.actor c.args.point c.args.op)) refl
