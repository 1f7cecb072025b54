use Rattle.std.proofs.Common.{◌≡◌, ◌∙◌, true, Some, None, sym, subst, ap, set}
use Rattle.vq_model.specs.Plan.{Plan}
use Rattle.vq_board.specs.Named.{view}
use Rattle.vq_board_run.specs.declared.content.RoomContent.TheInside.{Inside}
use Rattle.vq_board_run.specs.Rooming.{HasQueues, IsKept, IsRoomOf, Room, lent_by, served_queue}
use Rattle.vq_access.specs.Shown.{IsShownBy}
use Rattle.vq_access_laws.specs.TruePasses.{AreTrue}
use Rattle.vq_actor.specs.Actors.{IsTurn}
use Rattle.vq_turn_laws.specs.TruePlaces.{with_place}
use Rattle.vq_access.specs.Seatings.{Seating, places_of}
use Rattle.vq_access.specs.Served.{is_served}
use Rattle.vq_board_run.proofs.RoomLaws.{few_before, fits_before, own_moved, place_here, place_there, queue_moved, room_after, true_before, turn_alike}
use Rattle.vq_board_run.proofs.content.RoomContent.turn.Goals as goal

abbrev room_of : Inside → Room
room_of z = record { owner = z.owner; pass = z.pass; seats = z.seats; refused = z.refused }

pub turn_at-requires-clause-places : goal.turn_at-requires-clause-places
turn_at-requires-clause-places g c =
    let raw = c.self-inside.inside.0 in
    let s : Seating = record { own = raw.1.1.0.own; submits = raw.1.1.0.submits.items } in
    let same : _ ≡ c.args.self.now = ap room_of c.self-inside.view_is ∙ c.self.view_is in
    let room = subst (λ (z : Inside). IsKept z.owner z.pass z.seats) (sym c.self-inside.view_is)
    c.self.invariant in
    let p = c.args.grounds.now.ordered.now in
    let name = c.args.actor.now.name in
    let here = subst (IsRoomOf c.args.grounds.now.board.now) (sym same) c.requires.board in
    let e : (view raw.1.0).plan ≡ p = here.1 ∙ c.args.grounds.now.planned in
    let served = subst (λ (r : Room). is_served p r.owner name ≡ true) (sym same) c.requires.serves in
    let q = c.in-Some.queue in
    let some : served_queue raw.0 name ≡ Some q =
    ap (served_queue raw.0) (sym c.name.ensures) ∙ (sym c.served_queue.ensures ∙ c.in-Some.is) in
    let x = c.index_mut.result.now in
    let queues = subst (λ (z : Plan). HasQueues z raw.0 s) e room.queues in
    let k = queue_moved p raw.0 name s q x x served some queues c.index_mut.ensures.value in
    let t : Seating = record { own = raw.1.1.0.own; submits = set raw.1.1.0.submits.items q x } in
    subst (λ (z : Seating). AreTrue p raw.0 (view raw.1.0) (with_place (places_of raw.0 z) name x.place))
    (ap (λ (z : Inside). z.seats) c.self-inside.view_is ∙ sym c.of-seats.ensures)
    (true_before p raw.0 name s t x x k _ e (view raw.1.0) (view raw.1.0) room)

pub turn_at-requires-clause-fits : goal.turn_at-requires-clause-fits
turn_at-requires-clause-fits g c =
    let raw = c.self-inside.inside.0 in
    let s : Seating = record { own = raw.1.1.0.own; submits = raw.1.1.0.submits.items } in
    let same : _ ≡ c.args.self.now = ap room_of c.self-inside.view_is ∙ c.self.view_is in
    let room = subst (λ (z : Inside). IsKept z.owner z.pass z.seats) (sym c.self-inside.view_is)
    c.self.invariant in
    let p = c.args.grounds.now.ordered.now in
    let name = c.args.actor.now.name in
    let here = subst (IsRoomOf c.args.grounds.now.board.now) (sym same) c.requires.board in
    let e : (view raw.1.0).plan ≡ p = here.1 ∙ c.args.grounds.now.planned in
    let served = subst (λ (r : Room). is_served p r.owner name ≡ true) (sym same) c.requires.serves in
    let q = c.in-Some.queue in
    let some : served_queue raw.0 name ≡ Some q =
    ap (served_queue raw.0) (sym c.name.ensures) ∙ (sym c.served_queue.ensures ∙ c.in-Some.is) in
    let x = c.index_mut.result.now in
    let queues = subst (λ (z : Plan). HasQueues z raw.0 s) e room.queues in
    let k = queue_moved p raw.0 name s q x x served some queues c.index_mut.ensures.value in
    let t : Seating = record { own = raw.1.1.0.own; submits = set raw.1.1.0.submits.items q x } in
    fits_before p raw.0 name s t x x k _ e (view raw.1.0) (view raw.1.0) room served

pub turn_at-requires-clause-few : goal.turn_at-requires-clause-few
turn_at-requires-clause-few g c =
    let raw = c.self-inside.inside.0 in
    let s : Seating = record { own = raw.1.1.0.own; submits = raw.1.1.0.submits.items } in
    let same : _ ≡ c.args.self.now = ap room_of c.self-inside.view_is ∙ c.self.view_is in
    let room = subst (λ (z : Inside). IsKept z.owner z.pass z.seats) (sym c.self-inside.view_is)
    c.self.invariant in
    let p = c.args.grounds.now.ordered.now in
    let name = c.args.actor.now.name in
    let here = subst (IsRoomOf c.args.grounds.now.board.now) (sym same) c.requires.board in
    let e : (view raw.1.0).plan ≡ p = here.1 ∙ c.args.grounds.now.planned in
    let served = subst (λ (r : Room). is_served p r.owner name ≡ true) (sym same) c.requires.serves in
    let q = c.in-Some.queue in
    let some : served_queue raw.0 name ≡ Some q =
    ap (served_queue raw.0) (sym c.name.ensures) ∙ (sym c.served_queue.ensures ∙ c.in-Some.is) in
    let x = c.index_mut.result.now in
    let queues = subst (λ (z : Plan). HasQueues z raw.0 s) e room.queues in
    let k = queue_moved p raw.0 name s q x x served some queues c.index_mut.ensures.value in
    let t : Seating = record { own = raw.1.1.0.own; submits = set raw.1.1.0.submits.items q x } in
    few_before p raw.0 name s t x x k _ e (view raw.1.0) (view raw.1.0) room served

pub invariant_of-self : goal.invariant_of-self
invariant_of-self g c =
    let raw = c.self-inside.inside.0 in
    let s : Seating = record { own = raw.1.1.0.own; submits = raw.1.1.0.submits.items } in
    let same : _ ≡ c.args.self.now = ap room_of c.self-inside.view_is ∙ c.self.view_is in
    let room = subst (λ (z : Inside). IsKept z.owner z.pass z.seats) (sym c.self-inside.view_is)
    c.self.invariant in
    let p = c.args.grounds.now.ordered.now in
    let name = c.args.actor.now.name in
    let here = subst (IsRoomOf c.args.grounds.now.board.now) (sym same) c.requires.board in
    let e : (view raw.1.0).plan ≡ p = here.1 ∙ c.args.grounds.now.planned in
    let served = subst (λ (r : Room). is_served p r.owner name ≡ true) (sym same) c.requires.serves in
    let q = c.in-Some.queue in
    let some : served_queue raw.0 name ≡ Some q =
    ap (served_queue raw.0) (sym c.name.ensures) ∙ (sym c.served_queue.ensures ∙ c.in-Some.is) in
    let y = c.turn_at.new.seat in
    let x = c.index_mut.result.now in
    let queues = subst (λ (z : Plan). HasQueues z raw.0 s) e room.queues in
    let k = queue_moved p raw.0 name s q x y served some queues c.index_mut.ensures.value in
    let t : Seating = record { own = raw.1.1.0.own; submits = set raw.1.1.0.submits.items q y } in
    let m = c.turn_at.ensures in
    room_after p raw.0 name s t x y k _ e (view raw.1.0) (view c.turn_at.new.pass) room
    (view c.turn_at.new.pass).plan (m.board.1 ∙ c.args.grounds.now.planned)
    (subst (λ (z : Seating). AreTrue p raw.0 (view c.turn_at.new.pass) (with_place (places_of raw.0 z) name y.place))
    (sym (ap (λ (z : Inside). z.seats) c.self-inside.view_is ∙ sym c.of-seats.ensures)) m.places) m.fits

pub turn_at-requires-in-None-clause-few : goal.turn_at-requires-in-None-clause-few
turn_at-requires-in-None-clause-few g c =
    let raw = c.self-inside.inside.0 in
    let s : Seating = record { own = raw.1.1.0.own; submits = raw.1.1.0.submits.items } in
    let same : _ ≡ c.args.self.now = ap room_of c.self-inside.view_is ∙ c.self.view_is in
    let room = subst (λ (z : Inside). IsKept z.owner z.pass z.seats) (sym c.self-inside.view_is)
    c.self.invariant in
    let p = c.args.grounds.now.ordered.now in
    let name = c.args.actor.now.name in
    let here = subst (IsRoomOf c.args.grounds.now.board.now) (sym same) c.requires.board in
    let e : (view raw.1.0).plan ≡ p = here.1 ∙ c.args.grounds.now.planned in
    let served = subst (λ (r : Room). is_served p r.owner name ≡ true) (sym same) c.requires.serves in
    let none : served_queue raw.0 name ≡ None =
    ap (served_queue raw.0) (sym c.name.ensures) ∙ (sym c.served_queue.ensures ∙ c.in-None.is) in
    let k = own_moved p raw.0 name s s.own served none in
    few_before p raw.0 name s s s.own s.own k _ e (view raw.1.0) (view raw.1.0) room
    served

pub turn_at-requires-in-None-clause-places : goal.turn_at-requires-in-None-clause-places
turn_at-requires-in-None-clause-places g c =
    let raw = c.self-inside.inside.0 in
    let s : Seating = record { own = raw.1.1.0.own; submits = raw.1.1.0.submits.items } in
    let same : _ ≡ c.args.self.now = ap room_of c.self-inside.view_is ∙ c.self.view_is in
    let room = subst (λ (z : Inside). IsKept z.owner z.pass z.seats) (sym c.self-inside.view_is)
    c.self.invariant in
    let p = c.args.grounds.now.ordered.now in
    let name = c.args.actor.now.name in
    let here = subst (IsRoomOf c.args.grounds.now.board.now) (sym same) c.requires.board in
    let e : (view raw.1.0).plan ≡ p = here.1 ∙ c.args.grounds.now.planned in
    let served = subst (λ (r : Room). is_served p r.owner name ≡ true) (sym same) c.requires.serves in
    let none : served_queue raw.0 name ≡ None =
    ap (served_queue raw.0) (sym c.name.ensures) ∙ (sym c.served_queue.ensures ∙ c.in-None.is) in
    let k = own_moved p raw.0 name s s.own served none in
    subst (λ (z : Seating). AreTrue p raw.0 (view raw.1.0) (with_place (places_of raw.0 z) name s.own.place))
    (ap (λ (z : Inside). z.seats) c.self-inside.view_is ∙ sym c.of-seats.ensures)
    (true_before p raw.0 name s s s.own s.own k _ e (view raw.1.0) (view raw.1.0) room)

pub invariant_of-self-in-None : goal.invariant_of-self-in-None
invariant_of-self-in-None g c =
    let raw = c.self-inside.inside.0 in
    let s : Seating = record { own = raw.1.1.0.own; submits = raw.1.1.0.submits.items } in
    let same : _ ≡ c.args.self.now = ap room_of c.self-inside.view_is ∙ c.self.view_is in
    let room = subst (λ (z : Inside). IsKept z.owner z.pass z.seats) (sym c.self-inside.view_is)
    c.self.invariant in
    let p = c.args.grounds.now.ordered.now in
    let name = c.args.actor.now.name in
    let here = subst (IsRoomOf c.args.grounds.now.board.now) (sym same) c.requires.board in
    let e : (view raw.1.0).plan ≡ p = here.1 ∙ c.args.grounds.now.planned in
    let served = subst (λ (r : Room). is_served p r.owner name ≡ true) (sym same) c.requires.serves in
    let none : served_queue raw.0 name ≡ None =
    ap (served_queue raw.0) (sym c.name.ensures) ∙ (sym c.served_queue.ensures ∙ c.in-None.is) in
    let k = own_moved p raw.0 name s c.turn_at-in-None.new.seat served none in
    let t : Seating = record { own = c.turn_at-in-None.new.seat; submits = raw.1.1.0.submits.items } in
    let y = c.turn_at-in-None.new.seat in
    let m = c.turn_at-in-None.ensures in
    let w = view c.turn_at-in-None.new.pass in
    room_after p raw.0 name s t s.own y k _ e (view raw.1.0) w room
    w.plan (m.board.1 ∙ c.args.grounds.now.planned)
    (subst (λ (z : Seating). AreTrue p raw.0 w (with_place (places_of raw.0 z) name y.place))
    (sym (ap (λ (z : Inside). z.seats) c.self-inside.view_is ∙ sym c.of-seats.ensures)) m.places) m.fits

pub returns-in-Some-clause-turn : goal.returns-in-Some-clause-turn
returns-in-Some-clause-turn g c =
    let raw = c.self-inside.inside.0 in
    let s : Seating = record { own = raw.1.1.0.own; submits = raw.1.1.0.submits.items } in
    let same : _ ≡ c.args.self.now = ap room_of c.self-inside.view_is ∙ c.self.view_is in
    let room = subst (λ (z : Inside). IsKept z.owner z.pass z.seats) (sym c.self-inside.view_is)
    c.self.invariant in
    let p = c.args.grounds.now.ordered.now in
    let name = c.args.actor.now.name in
    let here = subst (IsRoomOf c.args.grounds.now.board.now) (sym same) c.requires.board in
    let e : (view raw.1.0).plan ≡ p = here.1 ∙ c.args.grounds.now.planned in
    let served = subst (λ (r : Room). is_served p r.owner name ≡ true) (sym same) c.requires.serves in
    let q = c.in-Some.queue in
    let some : served_queue raw.0 name ≡ Some q =
    ap (served_queue raw.0) (sym c.name.ensures) ∙ (sym c.served_queue.ensures ∙ c.in-Some.is) in
    let y = c.turn_at.new.seat in
    let x = c.index_mut.result.now in
    let queues = subst (λ (z : Plan). HasQueues z raw.0 s) e room.queues in
    let k = queue_moved p raw.0 name s q x y served some queues c.index_mut.ensures.value in
    let t : Seating = record { own = raw.1.1.0.own; submits = set raw.1.1.0.submits.items q y } in
    subst (λ (r : Room). IsTurn (lent_by p r name)
    (lent_by p (record {
      owner = raw.0;
      pass = c.turn_at.new.pass;
      seats = t;
      refused = c.turn_at.new.refused;
    }) name)
    (IsShownBy c.turn_at.new.pass c.turn_at.new.refused) c.turn_at.result) same
    (turn_alike p name x.place y.place (places_of raw.0 s name) (places_of raw.0 t name) (view raw.1.0)
    (view c.turn_at.new.pass) raw.1.1.1.0 c.turn_at.new.refused (IsShownBy c.turn_at.new.pass
    c.turn_at.new.refused) c.turn_at.result
    (place_here p raw.0 name s t x y k) (place_there p raw.0 name s t x y k) c.turn_at.ensures.turn)

pub returns-in-None-clause-turn : goal.returns-in-None-clause-turn
returns-in-None-clause-turn g c =
    let raw = c.self-inside.inside.0 in
    let s : Seating = record { own = raw.1.1.0.own; submits = raw.1.1.0.submits.items } in
    let same : _ ≡ c.args.self.now = ap room_of c.self-inside.view_is ∙ c.self.view_is in
    let room = subst (λ (z : Inside). IsKept z.owner z.pass z.seats) (sym c.self-inside.view_is)
    c.self.invariant in
    let p = c.args.grounds.now.ordered.now in
    let name = c.args.actor.now.name in
    let here = subst (IsRoomOf c.args.grounds.now.board.now) (sym same) c.requires.board in
    let e : (view raw.1.0).plan ≡ p = here.1 ∙ c.args.grounds.now.planned in
    let served = subst (λ (r : Room). is_served p r.owner name ≡ true) (sym same) c.requires.serves in
    let none : served_queue raw.0 name ≡ None =
    ap (served_queue raw.0) (sym c.name.ensures) ∙ (sym c.served_queue.ensures ∙ c.in-None.is) in
    let k = own_moved p raw.0 name s c.turn_at-in-None.new.seat served none in
    let t : Seating = record { own = c.turn_at-in-None.new.seat; submits = raw.1.1.0.submits.items } in
    let y = c.turn_at-in-None.new.seat in
    let x = s.own in
    subst (λ (r : Room). IsTurn (lent_by p r name)
    (lent_by p (record {
      owner = raw.0;
      pass = c.turn_at-in-None.new.pass;
      seats = t;
      refused = c.turn_at-in-None.new.refused;
    }) name)
    (IsShownBy c.turn_at-in-None.new.pass c.turn_at-in-None.new.refused) c.turn_at-in-None.result) same
    (turn_alike p name x.place y.place (places_of raw.0 s name) (places_of raw.0 t name) (view raw.1.0)
    (view c.turn_at-in-None.new.pass) raw.1.1.1.0 c.turn_at-in-None.new.refused
    (IsShownBy c.turn_at-in-None.new.pass c.turn_at-in-None.new.refused) c.turn_at-in-None.result
    (place_here p raw.0 name s t x y k) (place_there p raw.0 name s t x y k) c.turn_at-in-None.ensures.turn)
