use Rattle.std.proofs.Common.{◌≡◌, ◌<◌, ℕ, Some, length, subst, sym, inl, inr, refl, arith}
use Rattle.std.specs.List.{slice_get}
use Rattle.vq_model.specs.Plan.{Plan}
use Rattle.vq_board.specs.Named.{plan_of}
use Rattle.vq_timeline.specs.declared.timeline.LockedTimeline.{LockedTimeline}
use Rattle.vq_access.specs.Asking.{HasNamed}
use Rattle.vq_access.proofs.Existing.{found_chain}
use Rattle.vq_access.proofs.Listing.{asked_at}
use Rattle.vq_access.proofs.Naming.{place_below, point_below}
use Rattle.vq_access.proofs.takings.point_of.Goals as goal

pub op-found-requires : goal.op-found-requires
op-found-requires g c =
    subst (λ (p : Plan). c.args.op < length p.ops) (sym c.requires.plan) c.requires.exists

pub timeline_at-timeline-requires-clause-exists : goal.timeline_at-timeline-requires-clause-exists
timeline_at-timeline-requires-clause-exists g c =
    subst (λ (p : Plan). c.op-found.result.chain < length p.chains) (sym c.requires.plan)
    (found_chain c.args.ordered.now c.plan-lawful.ensures.read c.plan-lawful.ensures.lawful c.args.op c.op-found.result
    (subst (λ (p : Plan). slice_get p.ops c.args.op ≡ Some c.op-found.result) c.requires.plan c.op-found.ensures))

pub returns-in-Some-clause-below : goal.returns-in-Some-clause-below
returns-in-Some-clause-below g c =
    subst (λ (n : ℕ). n < length c.args.ordered.now.ops) (sym c.point_in.ensures)
    (point_below c.in-Some.place (length c.args.ordered.now.ops) c.args.op c.requires.exists
    (λ q is. subst (λ (p : Plan). q < length p.ops) c.requires.plan (place_below c.args.board.now c.timeline_at-timeline.result.now c.args.op c.in-Some.place
    c.timeline_at-timeline.ensures.board c.in-Some.ensures.asked q is)))

pub returns-in-Some-clause-asked : goal.returns-in-Some-clause-asked
returns-in-Some-clause-asked g c t x of at =
    let p = c.args.ordered.now in
    let same = asked_at (plan_of c.args.board.now) p c.args.timelines.now c.args.op t c.op-found.result
    c.timeline_at-timeline.result.now x c.requires.plan c.op-found.ensures of c.timeline_at-timeline.ensures.there at in
    inl (subst (λ (z : Plan × LockedTimeline). HasNamed z.0 z.1 c.args.op c.point_in.result)
    (λ i. (c.requires.plan i, same i)) (c.in-Some.place, c.point_in.ensures, c.in-Some.ensures.asked))

pub returns-in-None-clause-below : goal.returns-in-None-clause-below
returns-in-None-clause-below g c = let some = c.requires.exists in omega arith

pub returns-in-None-clause-asked : goal.returns-in-None-clause-asked
returns-in-None-clause-asked g c t x of at = inr (c.place_of.ensures.in_use c.in-None.is, refl)
