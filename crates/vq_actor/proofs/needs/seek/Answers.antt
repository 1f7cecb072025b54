use Rattle.std.proofs.Common.{◌≡◌, ◌∙◌, sym, ap, arith}
use Rattle.std.specs.Option.{option_map}
use Rattle.std.proofs.lemmas.Option.{slice_get_within}
use Rattle.vq_model.specs.declared.plan.Need.{Need}
use Rattle.vq_model.specs.Plan.{Plan}
use Rattle.vq_turns.specs.Turns.{Place, held_for}
use Rattle.vq_actor.specs.Positions.{holding_of}
use Rattle.vq_actor.specs.Waits.{is_resolved}
use Rattle.vq_actor.proofs.Seeking.{same_need}
use Rattle.vq_actor.proofs.Slots.{none_held_for}
use Rattle.vq_actor.proofs.Rounds.{passes_over, passes, ends_round}
use Rattle.vq_actor.proofs.needs.seek.Goals as goal

pub loop-k-preserved-then-not-is_asked : goal.loop-k-preserved-then-not-is_asked
loop-k-preserved-then-not-is_asked g c =
    let a = g.A.Access.meaning c.args.access.now in
    let m = g.A.Access.meaning c.loop-k.access in
    let ns = c.args.needs.now in
    let k = c.loop-k.k in
    let n = c.at.result in
    let h = c.if-not-is_asked.ensures in
    let same_plan : c.plan.result.now ≡ m.plan = c.plan.ensures.value ∙ c.ordered.ensures in
    passes_over a m ns (g.A.Access.shows c.loop-k.access) k c.loop-k.last c.loop-k.invariant n
    c.at.ensures
    (ap (λ (x : Place). held_for k x.holding) (sym c.place.ensures)
    ∙ (c.held-held.ensures ∙ ap (option_map (holding_of k)) h.0))
    (ap (λ (p : Plan). is_resolved p n.chain n.value) (sym same_plan) ∙ h.1)

pub ask_need-requires-clause-resolved : goal.ask_need-requires-clause-resolved
ask_need-requires-clause-resolved g c n at empty =
    let m = g.A.Access.meaning c.loop-k.access in
    let ns = c.args.needs.now in
    let k = c.loop-k.k in
    let same_plan : c.plan.result.now ≡ m.plan = c.plan.ensures.value ∙ c.ordered.ensures in
    let none = none_held_for k c.held-held.result (sym c.held-held.ensures
    ∙ (ap (λ (x : Place). held_for k x.holding) c.place.ensures ∙ empty)) in
    let same = same_need ns k c.at.result n c.at.ensures at in
    ap (λ (p : Plan). is_resolved p n.chain n.value) (sym same_plan)
    ∙ (ap (λ (x : Need). is_resolved c.plan.result.now x.chain x.value) (sym same)
    ∙ c.if-not-is_asked.ensures none)

pub returns-in-Ok : goal.returns-in-Ok
returns-in-Ok g c =
    let ns = c.args.needs.now in
    let k = c.loop-k.k in
    let n = c.at.result in
    let at = c.at.ensures in
    ends_round (g.A.Access.meaning c.args.access.now) (g.A.Access.meaning c.loop-k.access) ns
    (g.A.Access.shows c.loop-k.access) k c.loop-k.last c.loop-k.invariant n at
    (g.A.Access.meaning c.ask_need.new.access) (g.A.Access.shows c.ask_need.new.access) c.in-Ok.doing
    c.requires.waiting (c.in-Ok.ensures n at)

pub loop-k-preserved : goal.loop-k-preserved
loop-k-preserved g c =
    let ns = c.args.needs.now in
    let k = c.loop-k.k in
    let n = c.at.result in
    let at = c.at.ensures in
    passes (g.A.Access.meaning c.args.access.now) (g.A.Access.meaning c.loop-k.access) ns
    (g.A.Access.shows c.loop-k.access) k c.loop-k.last c.loop-k.invariant n at
    (g.A.Access.meaning c.ask_need.new.access) (g.A.Access.shows c.ask_need.new.access) c.in-Err.want
    (c.in-Err.ensures n at)

pub unreachable-requires : goal.unreachable-requires
unreachable-requires g c =
    let r = c.requires.awaitable in
    let le = c.loop-k.invariant.asked c.in_default.is r.place r.need r.at r.resolved in
    let l = slice_get_within c.args.needs.now r.place r.need r.at in
    omega (arith, le, l, c.len-k-end.ensures, c.loop-k-test.false)
