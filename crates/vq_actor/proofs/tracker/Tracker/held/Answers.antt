use Rattle.std.proofs.Common.{◌∙◌, List, Option, None, get_or, refl, sym, ap}
use Rattle.vq_turns.specs.Turns.{held_for}
use Rattle.vq_actor.specs.declared.held.Held.{Held}
use Rattle.vq_actor.specs.Positions.{holding_from}
use Rattle.vq_actor.specs.Trackers.{Tracked}
use Rattle.vq_actor.proofs.Slots.{held_as, held_beyond, slot_at}
use Rattle.vq_actor.proofs.tracker.Tracker.held.Goals as goal

pub returns-then-need-held : goal.returns-then-need-held
returns-then-need-held c =
    let slots = c.as_slice-held.result.now in
    let k = c.args.need in
    ap (λ (t : Tracked). held_for k t.place.holding) (sym c.self.view_is)
    ∙ (ap (λ (xs : List (Option Held)). held_for k (holding_from 0 xs)) (sym c.as_slice-held.ensures.value)
    ∙ held_as slots k (get_or slots k None) (slot_at slots k (get_or slots k None) c.if-need-held.true refl))

pub returns-else-need-held : goal.returns-else-need-held
returns-else-need-held c =
    let slots = c.as_slice-held.result.now in
    let k = c.args.need in
    ap (λ (t : Tracked). held_for k t.place.holding) (sym c.self.view_is)
    ∙ (ap (λ (xs : List (Option Held)). held_for k (holding_from 0 xs)) (sym c.as_slice-held.ensures.value)
    ∙ held_beyond slots k c.if-need-held.false)
