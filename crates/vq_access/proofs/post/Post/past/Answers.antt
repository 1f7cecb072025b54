use Rattle.std.proofs.Common.{◌≡◌, ◌<◌, ℕ, true, length, refl, subst, ap}
use Rattle.vq_model.specs.Plan.{Plan}
use Rattle.vq_turns.specs.declared.task.Task.TheVariants.{Compare}
use Rattle.vq_turns.specs.Programs.{program}
use Rattle.vq_turns.specs.Turns.{seeing}
use Rattle.vq_actor.specs.Meanings.{Other}
use Rattle.vq_actor.specs.Trackers.{Tracked}
use Rattle.vq_actor.proofs.Cited.{fits_see, fits_seen}
use Rattle.vq_board.specs.Named.{view}
use Rattle.vq_timeline.specs.Named.{chain_at}
use Rattle.vq_payload.specs.Tests.{saw_payload}
use Rattle.vq_access.specs.Lasts.{recent_of}
use Rattle.vq_access.specs.Posts.{lenders_of}
use Rattle.vq_access.proofs.Existing.{compared_exists}
use Rattle.vq_access.proofs.Listing.{compares_truly, looked_so, past_answered, saw_so}
use Rattle.vq_access.proofs.Posting.{here, of_board_plan, seen_by, true_at}
use Rattle.vq_access.proofs.post.Post.past.Goals as goal

pub timeline_at-requires-clause-exists : goal.timeline_at-requires-clause-exists
timeline_at-requires-clause-exists c =
    let x = c.args.self.now in
    of_board_plan x (λ p. c.args.chain < length p.chains)
    (compared_exists x.ordered.now c.plan-lawful.ensures.read c.plan-lawful.ensures.lawful x.actor x.seat.now.place.done c.args.chain c.args.wanted c.requires.is_next)

pub see-requires-clause-room : goal.see-requires-clause-room
see-requires-clause-room c =
    let x = c.args.self.now in
    fits_seen (program x.ordered.now x.actor) x.seat.now (Compare c.args.chain c.args.wanted) c.requires.is_next
    x.fits c.args.chain c.args.wanted refl

pub invariant_of-self-clause-places : goal.invariant_of-self-clause-places
invariant_of-self-clause-places c =
    let x = c.args.self.now in
    let w = view c.read-past.new.pass in
    let n = c.read-past.result in
    let saw =
    subst (λ (t : ℕ). saw_payload x.ordered.now w t n ≡ true) c.timeline_at.ensures.chain
    (subst (λ (p : Plan). saw_payload p w (chain_at c.timeline_at.result.now) n ≡ true) x.planned c.read-past.ensures.payload.tests) in
    true_at x w w c.see.new.self (seeing (here x) c.args.wanted n) refl c.see.ensures
    (compares_truly x c.plan-lawful.ensures.read c.plan-lawful.ensures.lawful w c.args.chain c.args.wanted n c.requires.is_next
    (looked_so (seen_by x) w c.read-past.ensures.learned.2) (saw_so x.ordered.now w c.args.chain c.args.wanted n saw))

pub invariant_of-self-clause-fits : goal.invariant_of-self-clause-fits
invariant_of-self-clause-fits c =
    let x = c.args.self.now in
    fits_see (program x.ordered.now x.actor) x.seat.now (Compare c.args.chain c.args.wanted) c.requires.is_next
    x.fits c.args.chain c.args.wanted c.read-past.result refl c.see.new.self c.see.ensures

pub returns : goal.returns
returns c =
    let x = c.args.self.now in
    past_answered (lenders_of x) x.ordered.now x.actor (here x) c.see.new.self.place (recent_of x.last) Other (seen_by x)
    (view c.read-past.new.pass) x.refused.now c.args.chain c.args.wanted c.read-past.result
    (looked_so (seen_by x) (view c.read-past.new.pass) c.read-past.ensures.learned.2)
    (ap (λ (y : Tracked). y.place) c.see.ensures)
