use Rattle.std.proofs.Common.{◌≡◌, ◌<◌, ◌∙◌, ℕ, List, Some, None, set, length, ap, sym, subst}
use Rattle.std.specs.Vec.{vec_capacity}
use Rattle.std.proofs.lemmas.List.{length-set}
use Rattle.vq_turns.specs.declared.look.Holding.{Holding}
use Rattle.vq_turns.specs.Turns.{Place, held_for, holding_also}
use Rattle.vq_actor.specs.declared.held.Held.{Held}
use Rattle.vq_actor.specs.Positions.{holding_from}
use Rattle.vq_actor.specs.Trackers.{Tracked}
use Rattle.vq_actor.proofs.Slots.{put_is, slot_free, holds_put}
use Rattle.vq_actor.proofs.tracker.Tracker.refer.Goals as goal

pub invariant_of-self : goal.invariant_of-self
invariant_of-self c met =
    let x = c.self.inside in
    let k = c.args.need in
    let slots = x.held.items in
    let here : Place = record { done = x.done; holding = holding_from 0 slots; met = x.met; seen = x.seen.items } in
    let now : Tracked = record { place = here; slots = length slots; room = vec_capacity x.seen } in
    let back : c.args.self.now ≡ now = sym c.self.view_is in
    let free = subst (λ (t : Tracked). held_for k t.place.holding ≡ None) back c.requires.free in
    let within = subst (λ (t : Tracked). k < t.slots) back c.requires.slot in
    holds_put slots k (record { point = c.args.point; op = c.args.op }) (slot_free slots k within free)

pub returns : goal.returns
returns c =
    let x = c.self.inside in
    let k = c.args.need in
    let slots = x.held.items in
    let held : Held = record { point = c.args.point; op = c.args.op } in
    let here : Place = record { done = x.done; holding = holding_from 0 slots; met = x.met; seen = x.seen.items } in
    let now : Tracked = record { place = here; slots = length slots; room = vec_capacity x.seen } in
    let back : c.args.self.now ≡ now = sym c.self.view_is in
    let free = subst (λ (t : Tracked). held_for k t.place.holding ≡ None) back c.requires.free in
    let within = subst (λ (t : Tracked). k < t.slots) back c.requires.slot in
    let by_holding : List Holding → ℕ → Tracked = λ hs n. record {
      place = record { done = x.done; holding = hs; met = x.met; seen = x.seen.items };
      slots = n;
      room = vec_capacity x.seen;
    } in
    ap (λ hs. by_holding hs (length (set slots k (Some held)))) (put_is slots k held (slot_free slots k within free))
    ∙ (ap (by_holding (holding_also here k c.args.op c.args.point).holding) (length-set slots k (Some held))
    ∙ ap (λ (t : Tracked). record t { place = holding_also t.place k c.args.op c.args.point }) c.self.view_is)
