-- The outcome of a turn, and the turns of a schedule. This project's own.
use Rattle.std.specs.Prelude.{ℕ, ◌+◌, ◌==◌, nat_lt, nat_le, Bool, true, false, not, ◌&&◌}
use Rattle.std.specs.Prelude.{if◌then◌else◌, List, [], ◌∷◌}
use Rattle.std.specs.Prelude.{◌++◌, map, filter, find, drop, Option, Some, None}
use Rattle.std.specs.List.{list_any, list_all, filter_map, enumerate_from}
use Rattle.std.specs.Option.{option_map_or}
use Rattle.vq_model.specs.declared.script.ActorName.{ActorName}
use Rattle.vq_model.specs.declared.script.ActorName.TheVariants.{Host as HostActor, Submit as SubmitActor}
use Rattle.vq_model.specs.declared.script.ActorName.TheVariants.{Ring as RingActor}
use Rattle.vq_model.specs.declared.plan.Need.{Need}
use Rattle.vq_model.specs.declared.plan.Question.{Question}
use Rattle.vq_model.specs.declared.plan.Question.TheVariants.{PollAll, PollAny, Fence, Value as AsksValue}
use Rattle.vq_model.specs.declared.plan.Answer.{Answer as TheAnswer}
use Rattle.vq_model.specs.declared.plan.Answer.TheVariants.{Reached, Timeout, NotReady, Value}
use Rattle.vq_model.specs.declared.plan.Event.{Event}
use Rattle.vq_model.specs.declared.plan.Event.TheVariants.{Submit as Submits, Take as Takes, Release as Releases}
use Rattle.vq_model.specs.declared.plan.Event.TheVariants.{Bind as Binds, Refer, Look, Unref, Complete, Free}
use Rattle.vq_model.specs.declared.plan.Event.TheVariants.{Start as Starts, Apply as Applies, Signal as Signals}
use Rattle.vq_model.specs.declared.plan.Event.TheVariants.{Finish as Finishes, Answer as AnswersAs}
use Rattle.vq_model.specs.Plan.{Plan, chain, chain_of, initial, value, resolver}
use Rattle.vq_model.specs.SlowRun.{greatest}
use Rattle.vq_point_laws.specs.Points.{PointState, after_event, is_pending, smaller_ops}
use Rattle.vq_turns.specs.declared.task.Task.{Task}
use Rattle.vq_turns.specs.declared.task.Task.TheVariants.{AwaitSubmitted, AwaitReleased, AwaitFinished, AwaitBound}
use Rattle.vq_turns.specs.declared.task.Task.TheVariants.{AwaitNeeds, Submit, Take, Release, Bind, Start, Apply, Signal}
use Rattle.vq_turns.specs.declared.task.Task.TheVariants.{Compare, Answer, Finish}
use Rattle.vq_turns.specs.declared.look.Found.{Found}
use Rattle.vq_turns.specs.declared.look.Found.TheVariants.{Past, Pending, NotYet}
use Rattle.vq_turns.specs.declared.look.Holding.{Holding}
use Rattle.vq_turns.specs.declared.look.Seen.{Seen}
use Rattle.vq_turns.specs.declared.outcome.Want.{Want}
use Rattle.vq_turns.specs.declared.outcome.Want.TheVariants.{Submitted, Released, Bound, Next, Signaled, Finished}
use Rattle.vq_turns.specs.declared.outcome.Outcome.{Outcome}
use Rattle.vq_turns.specs.declared.outcome.Outcome.TheVariants.{Moved, Blocked, Ended}
use Rattle.vq_turns.specs.Programs.{program, deferred_queues}

-- Places

-- An actor's place in its turn: how many tasks of its program are done; of a wait for needs, the references
-- that it holds in the order of the needs, and whether the waiting has ended; and what it compared for its
-- job's question, in order.
pub record Place : Type 0 where
  pub done : ℕ
  pub holding : List Holding
  pub met : Bool
  pub seen : List Seen

abbrev pub first_place : Place
first_place = record { done = 0; holding = []; met = false; seen = [] }

-- the place after one task more
abbrev pub forward : Place → Place
forward x = record x { done = x.done + 1 }

-- What an actor finds

abbrev pub has_reference_to : PointState → ℕ → Bool
has_reference_to w q = list_any (λ r. r.point == q) w.held

-- the point of an operation, where it waits to be freed
abbrev pub waiting_of : PointState → ℕ → Option ℕ → Option ℕ
waiting_of w e None = None
waiting_of w e (Some q) =
    if w.waiting q && option_map_or (λ f. f == e) (w.carried q) false then Some q else None

abbrev pub waiting_point : PointState → ℕ → Option ℕ
waiting_point w e = waiting_of w e (w.point_of e)

-- Collection on a chain: the least pending operation becomes past where it is signaled; else the first point
-- that waits and that nobody holds is freed.
abbrev pub to_complete : Plan → PointState → ℕ → Option ℕ
to_complete p w t =
    option_map_or (λ e. if w.machine.progress.made e then Some e else None) (find (is_pending w) (chain p t)) None

abbrev pub to_free : Plan → PointState → ℕ → Option ℕ
to_free p w t = find (λ q. not (has_reference_to w q)) (filter_map (waiting_point w) (chain p t))

abbrev pub collected : Plan → PointState → ℕ → Option Event
collected p w t =
    option_map_or (λ e. Some (Complete e)) (to_complete p w t)
    (option_map_or (λ q. Some (Free q)) (to_free p w t) None)

-- A point is used again where one is free, the one freed last first.
abbrev pub taken_of : PointState → ℕ → List ℕ → Event
taken_of w e [] = Takes e w.points true
taken_of w e (q ∷ qs) = Takes e q false

abbrev pub taken : PointState → ℕ → ℕ → Event
taken w e t = taken_of w e (w.free t)

-- the least operation before this one in its chain that isn't bound
abbrev pub unbound_before : Plan → PointState → ℕ → Option ℕ
unbound_before p w e =
    option_map_or (λ t. find (λ f. not (w.bound f)) (smaller_ops p t e)) (chain_of p e) None

abbrev pub point_of : PointState → ℕ → ℕ
point_of w e = option_map_or (λ q. q) (w.point_of e) 0

-- what a look for a value of a chain finds; none where nothing will reach the value
abbrev pub found_by : PointState → Option ℕ → Option Found
found_by w None = None
found_by w (Some e) =
    if w.past e then Some Past
    else if w.bound e then Some (Pending e (point_of w e)) else Some (NotYet e)

abbrev pub found : Plan → PointState → ℕ → ℕ → Option Found
found p w t v = if nat_le v (initial p t) then Some Past else found_by w (resolver p t v)

-- the value of the last operation of a chain that is past, or the initial value
abbrev pub past_value : Plan → PointState → ℕ → ℕ
past_value p w t = greatest (initial p t) (map (value p) (filter w.past (chain p t)))

-- What a job answers by what it compared

abbrev pub reaches : Seen → Bool
reaches x = nat_le x.wanted x.past

abbrev pub first_past : List Seen → ℕ
first_past [] = 0
first_past (x ∷ xs) = x.past

abbrev pub answer_by : Question → List Seen → TheAnswer
answer_by PollAll seen = if list_all reaches seen then Reached else Timeout
answer_by PollAny seen = if list_any reaches seen then Reached else Timeout
answer_by Fence seen = if list_all reaches seen then Reached else NotReady
answer_by (AsksValue t) seen = Value (first_past seen)
answer_by other seen = Reached

-- One task

-- what a task comes to: the turn goes on with the next task, or it has its outcome
pub data Did : Type 0 where
  GoesOn : Place → Did
  Ends : Outcome → Place → Did

abbrev pub waits : Bool → Want → Place → Did
waits b want x = if b then GoesOn (forward x) else Ends (Blocked want) x

abbrev pub moves : Event → Place → Did
moves event x = Ends (Moved event) (forward x)

-- a part of a turn before the others: collection on a chain
abbrev pub collects_first : Plan → PointState → ℕ → Place → Did → Did
collects_first p w t x others = option_map_or (λ event. Ends (Moved event) x) (collected p w t) others

-- the reference that is held for a need, by the need's index
abbrev pub held_for : ℕ → List Holding → Option Holding
held_for k xs = find (λ h. h.need == k) xs

-- a list with one reference more, in the order of the needs
abbrev pub with_holding : Holding → List Holding → List Holding
with_holding h [] = h ∷ []
with_holding h (x ∷ xs) = if nat_lt h.need x.need then h ∷ x ∷ xs else x ∷ with_holding h xs

-- Each need in order: without a reference it is looked for, and a pending one is referred to; with a
-- reference its signal is looked at. The first that is met ends the waiting, and the first event is the turn.
-- Else the last want blocks. After the waiting the references are given back, one a turn.
abbrev pub without_first : Place → List Holding → Place
without_first x [] = record (forward x) { holding = []; met = false }
without_first x (h ∷ hs) = record x { holding = h ∷ hs; met = true }

abbrev pub gives_back : ActorName → Place → List Holding → Did
gives_back a x [] = GoesOn (record (forward x) { met = false })
gives_back a x (h ∷ hs) = Ends (Moved (Unref a h.point h.op)) (without_first x hs)

-- the place with a reference for the need of an index
abbrev pub holding_also : Place → ℕ → ℕ → ℕ → Place
holding_also x k e q =
    record x { holding = with_holding (record { need = k; point = q; op = e }) x.holding }

abbrev pub by_found : ActorName → Place → ℕ → (Option Want → Did) → Option Want → Option Found → Did
by_found a x k next_need want None = next_need want
by_found a x k next_need want (Some Past) = gives_back a x x.holding
by_found a x k next_need want (Some (Pending e q)) = Ends (Moved (Refer a q e)) (holding_also x k e q)
by_found a x k next_need want (Some (NotYet e)) = next_need (Some (Bound e))

abbrev pub one_need : Plan → PointState → ActorName → Place → ℕ → Need → Option Holding →
    (Option Want → Did) → Option Want → Did
one_need p w a x k n (Some h) next_need want =
    if w.machine.progress.made h.op
    then Ends (Moved (Look a h.point h.op)) (record x { met = true })
    else next_need (Some (Signaled h.op))
one_need p w a x k n None next_need want = by_found a x k next_need want (found p w n.chain n.value)

abbrev pub awaits_needs : Plan → PointState → ActorName → Place → List (ℕ × Need) → Option Want → Did
awaits_needs p w a x [] want = option_map_or (λ v. Ends (Blocked v) x) want (Ends Ended x)
awaits_needs p w a x ((k, n) ∷ ns) want =
    one_need p w a x k n (held_for k x.holding) (awaits_needs p w a x ns) want

-- the place after a comparison with a chain's past value
abbrev pub seeing : Place → ℕ → ℕ → Place
seeing x wanted past = record (forward x) { seen = x.seen ++ record { wanted = wanted; past = past } ∷ [] }

abbrev pub does : Plan → PointState → ActorName → Place → Task → Did
does p w a x (AwaitSubmitted j) = waits (w.submitted j) (Submitted j) x
does p w a x (AwaitReleased j) = waits (w.released j) (Released j) x
does p w a x (AwaitFinished j) = waits (w.machine.progress.finished j) (Finished j) x
does p w a x (AwaitBound e) = waits (w.bound e) (Bound e) x
does p w a x (AwaitNeeds needs) =
    if x.met then gives_back a x x.holding else awaits_needs p w a x (enumerate_from 0 needs) None
does p w a x (Submit j) = moves (Submits j) x
does p w a x (Take e t) = collects_first p w t x (moves (taken w e t) x)
does p w a x (Release j) = moves (Releases j) x
does p w a x (Bind e) =
    option_map_or (λ f. Ends (Blocked (Next f)) x) (unbound_before p w e) (moves (Binds e (point_of w e)) x)
does p w a x (Start j) = moves (Starts j) x
does p w a x (Apply j c) = moves (Applies j c) x
does p w a x (Signal e) = if w.bound e then moves (Signals e) x else Ends (Blocked (Bound e)) x
does p w a x (Compare t v) = collects_first p w t x (GoesOn (seeing x v (past_value p w t)))
does p w a x (Answer j asks) =
    Ends (Moved (AnswersAs j (answer_by asks x.seen))) (record (forward x) { seen = [] })
does p w a x (Finish j) = moves (Finishes j) x

-- Turns

-- what a turn comes to, and the place after it
pub record Turned : Type 0 where
  pub outcome : Outcome
  pub place : Place

abbrev pub and_then : Did → (Place → Turned) → Turned
and_then (GoesOn x) others = others x
and_then (Ends outcome x) others = record { outcome = outcome; place = x }

-- a turn over the tasks that are left
abbrev pub turn_from : Plan → PointState → ActorName → Place → List Task → Turned
turn_from p w a x [] = record { outcome = Ended; place = x }
turn_from p w a x (t ∷ ts) = and_then (does p w a x t) (λ y. turn_from p w a y ts)

abbrev pub turn_of : Plan → PointState → ActorName → Place → Turned
turn_of p w a x = turn_from p w a x (drop x.done (program p a))

-- Turns of the host

-- The host also serves the submit actors of deferred queues: it has their places, by queue.
pub record HostPlace : Type 0 where
  pub own : Place
  pub served : ℕ → Place

pub record HostTurned : Type 0 where
  pub outcome : Outcome
  pub place : HostPlace

abbrev pub put_place : (ℕ → Place) → ℕ → Place → ℕ → Place
put_place f q x k = if k == q then x else f k

abbrev pub serving : HostPlace → ℕ → Place → HostPlace
serving x q served = record x { served = put_place x.served q served }

-- at the end of its own program the host is blocked as the last deferred queue is
abbrev pub own_turn : Outcome → HostPlace → Turned → HostTurned
own_turn last x own = record { outcome = of_own own.outcome; place = record x { own = own.place } }
  where
    of_own : Outcome → Outcome
    of_own Ended = last
    of_own other = other

-- the deferred queues in order, then the host's own program
abbrev pub after_served : HostPlace → Turned → ℕ → Outcome → (Outcome → HostPlace → HostTurned) → HostTurned
after_served x turned q last others = by_outcome turned.outcome
  where
    by_outcome : Outcome → HostTurned
    by_outcome (Moved event) = record { outcome = Moved event; place = serving x q turned.place }
    by_outcome (Blocked want) = others (Blocked want) (serving x q turned.place)
    by_outcome Ended = others last (serving x q turned.place)

abbrev pub host_turn_from : Plan → PointState → List ℕ → Outcome → HostPlace → HostTurned
host_turn_from p w [] last x = own_turn last x (turn_of p w HostActor x.own)
host_turn_from p w (q ∷ qs) last x =
    after_served x (turn_of p w (SubmitActor q) (x.served q)) q last (host_turn_from p w qs)

abbrev pub host_turn : Plan → PointState → HostPlace → HostTurned
host_turn p w x = host_turn_from p w (deferred_queues p) Ended x

-- Schedules

-- all actors: a world, and the place of each
pub record Scene : Type 0 where
  pub world : PointState
  pub host : HostPlace
  pub submits : ℕ → Place
  pub rings : ℕ → Place

abbrev pub first_scene : PointState → Scene
first_scene w =
    record {
      world = w;
      host = record { own = first_place; served = λ q. first_place };
      submits = λ q. first_place;
      rings = λ q. first_place;
    }

abbrev pub world_after : Plan → PointState → Outcome → PointState
world_after p w (Moved event) = after_event p w event
world_after p w other = w

abbrev pub host_plays : Plan → Scene → HostTurned → Outcome × Scene
host_plays p s x = (x.outcome, record s { world = world_after p s.world x.outcome; host = x.place })

abbrev pub submit_plays : Plan → Scene → ℕ → Turned → Outcome × Scene
submit_plays p s q x = (
  x.outcome,
  record s { world = world_after p s.world x.outcome; submits = put_place s.submits q x.place },
)

abbrev pub ring_plays : Plan → Scene → ℕ → Turned → Outcome × Scene
ring_plays p s q x = (
  x.outcome,
  record s { world = world_after p s.world x.outcome; rings = put_place s.rings q x.place },
)

-- one turn of an actor: its outcome, and what it leaves
abbrev pub plays : Plan → Scene → ActorName → Outcome × Scene
plays p s HostActor = host_plays p s (host_turn p s.world s.host)
plays p s (SubmitActor q) = submit_plays p s q (turn_of p s.world (SubmitActor q) (s.submits q))
plays p s (RingActor q) = ring_plays p s q (turn_of p s.world (RingActor q) (s.rings q))

-- the outcomes of turns, one after another
abbrev pub played_from : Plan → Scene → List ActorName → List Outcome
played_from p s [] = []
played_from p s (a ∷ turns) = with_first (plays p s a) (λ s'. played_from p s' turns)
  where
    with_first : Outcome × Scene → (Scene → List Outcome) → List Outcome
    with_first (o, s') others = o ∷ others s'
