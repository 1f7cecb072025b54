use Rattle.std.proofs.Common.{ap, ◌∙◌, refl, arith}
use Rattle.std.proofs.lemmas.Bool.{not-true, not-false}
use Rattle.vq_turns.specs.declared.task.Task.TheVariants.{AwaitNeeds}
use Rattle.vq_actor.specs.Waits.{looked_at}
use Rattle.vq_actor.specs.Answers.{Is, signaled_or}
use Rattle.vq_actor.specs.Meanings.{Other}
use Rattle.vq_model.specs.declared.plan.Event.TheVariants.{Look}
use Rattle.vq_access.specs.Lasts.{recent_of}
use Rattle.vq_access.specs.Posts.{lenders_of}
use Rattle.vq_point_laws.specs.PointWord.{PointWord as PointParts}
use Rattle.vq_point.specs.Word.{bits_of}
use Rattle.vq_board.specs.Named.{view}
use Rattle.vq_board_laws.specs.PointSteps.{sees}
use Rattle.vq_access.proofs.Posting.{here, seen_by, true_at}
use Rattle.vq_access.proofs.Untaking.{refused_look}
use Rattle.vq_access.proofs.Waits.{carried, fits_here, looks_there, looks_listed, looked_at_point, meets_truly}
use Rattle.vq_actor.specs.Trackers.{Tracked}
use Rattle.vq_access.proofs.Replies.{moves_step}
use Rattle.vq_access.proofs.Making.{shows_look}
use Rattle.vq_access.proofs.post.Post.look.Goals as goal

pub look-requires-clause-exists : goal.look-requires-clause-exists
look-requires-clause-exists c =
    let m = c.requires in
    looks_there c.args.self.now c.plan-lawful.ensures.read c.plan-lawful.ensures.lawful m.needs m.is_next m.need
    c.args.point c.args.op m.held

pub invariant_of-self-clause-places : goal.invariant_of-self-clause-places
invariant_of-self-clause-places c =
    looked_at_point c.args.self.now c.plan-lawful.ensures.read c.plan-lawful.ensures.lawful (view c.look.new.pass)
    c.args.point (bits_of c.look.result) c.look.ensures.pass.2

pub returns-then-not-look-clause-answer : goal.returns-then-not-look-clause-answer
returns-then-not-look-clause-answer c =
    let x = c.args.self.now in
    let m = c.requires in
    let is = c.look.ensures.referred c.args.op (looks_listed x c.plan-lawful.ensures.read c.plan-lawful.ensures.lawful m.needs m.is_next m.need c.args.point c.args.op
    m.held) in
    refused_look (lenders_of x) x.ordered.now x.actor (here x) (recent_of x.last) Other (seen_by x)
    (view c.look.new.pass) x.refused.now c.args.point (bits_of c.look.result) c.args.op c.look.ensures.pass.2
    (carried c.look.result c.args.op c.look.ensures.parts is)
    (ap (λ (w : PointParts). w.signaled) c.look.ensures.parts ∙ not-true c.look.result.signaled c.if-not-look.true)
    (looked_at (here x)) (λ w. signaled_or w (Look c.args.actor c.args.point c.args.op) c.args.op)
    (Is (Look c.args.actor c.args.point c.args.op))

pub invariant_of-self-2-clause-places : goal.invariant_of-self-2-clause-places
invariant_of-self-2-clause-places c =
    let x = c.args.self.now in
    let m = c.requires in
    let is = c.look.ensures.referred c.args.op (looks_listed x c.plan-lawful.ensures.read c.plan-lawful.ensures.lawful m.needs m.is_next m.need c.args.point c.args.op
    m.held) in
    true_at x (view c.look.new.pass) (sees (seen_by x) c.args.point (bits_of c.look.result)) c.meet.new.self
    (looked_at (here x)) c.look.ensures.pass.2 c.meet.ensures
    (meets_truly x c.plan-lawful.ensures.read c.plan-lawful.ensures.lawful m.needs m.is_next m.need c.args.point c.args.op (bits_of c.look.result) m.held
    (carried c.look.result c.args.op c.look.ensures.parts is)
    (ap (λ (w : PointParts). w.signaled) c.look.ensures.parts ∙ not-false c.look.result.signaled c.if-not-look.false))

pub invariant_of-self-2-clause-fits : goal.invariant_of-self-2-clause-fits
invariant_of-self-2-clause-fits c =
    let x = c.args.self.now in
    fits_here x (AwaitNeeds c.requires.needs) c.requires.is_next c.meet.new.self (looked_at (here x)) c.meet.ensures refl
    refl

pub returns-clause-answer : goal.returns-clause-answer
returns-clause-answer c =
    let x = c.args.self.now in
    let m = c.requires in
    let is = c.look.ensures.referred c.args.op (looks_listed x c.plan-lawful.ensures.read c.plan-lawful.ensures.lawful m.needs m.is_next m.need c.args.point c.args.op
    m.held) in
    let bits = bits_of c.look.result in
    moves_step (lenders_of x) x.ordered.now x.actor (here x) c.meet.new.self.place (recent_of x.last) (seen_by x)
    (view c.look.new.pass) (sees (seen_by x) c.args.point bits) x.refused.now c.look.ensures.pass.2 (omega arith) refl
    (Look c.args.actor c.args.point c.args.op) refl (looked_at (here x)) (ap (λ (t : Tracked). t.place) c.meet.ensures)
    (shows_look (seen_by x) (view c.look.new.pass) x.refused.now x.refused.now c.args.actor c.args.point c.args.op
    bits (carried c.look.result c.args.op c.look.ensures.parts is)
    (ap (λ (w : PointParts). w.signaled) c.look.ensures.parts ∙ not-false c.look.result.signaled c.if-not-look.false)
    c.look.ensures.pass.2) (λ w. signaled_or w (Look c.args.actor c.args.point c.args.op) c.args.op)
    (Is (Look c.args.actor c.args.point c.args.op)) refl
