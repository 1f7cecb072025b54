-- The places of actors are true of a pass of the board. One pass may have several: the host's own actor, and the
-- submit actors of the deferred queues, which the host serves. A place speaks of no word of the board, so no step of
-- another pass changes what it says. This project's own.
use Rattle.std.specs.Prelude.{ℕ, ◌≡◌, ◌==◌, ◌&&◌, not, is_some, nat_lt, nat_le, suc, Bool, true, false, List, [], ◌∷◌}
use Rattle.std.specs.Prelude.{Option, Some, None, length, count_by, take, drop}
use Rattle.std.specs.List.{slice_get, list_all, list_any}
use Rattle.std.specs.Option.{option_map, option_map_or}
use Rattle.vq_model.specs.declared.script.ActorName.{ActorName}
use Rattle.vq_model.specs.declared.script.ActorName.TheVariants.{Host as HostActor, Submit as SubmitActor}
use Rattle.vq_model.specs.declared.script.ActorName.TheVariants.{Ring as RingActor}
use Rattle.vq_model.specs.declared.plan.Lane.TheVariants.{Queue as QueueLane}
use Rattle.vq_model.specs.declared.plan.Need.{Need}
use Rattle.vq_model.specs.Outputs.{asking}
use Rattle.vq_model.specs.Plan.{Plan, resolver}
use Rattle.vq_ground.specs.Lists.{has}
use Rattle.vq_turns.specs.declared.look.Holding.{Holding}
use Rattle.vq_turns.specs.declared.task.Task.{Task}
use Rattle.vq_turns.specs.Programs.{program}
use Rattle.vq_turns.specs.Turns.{Place}
use Rattle.vq_turn_laws.specs.Running.{Running, runs_after}
use Rattle.vq_turn_laws.specs.Tasks.{onto, waited_now, is_waiting, compared_now, is_asking}
use Rattle.vq_actor.specs.Stages.{Serves}
use Rattle.vq_board_laws.specs.declared.view.Reference.{Reference}
use Rattle.vq_board_laws.specs.declared.view.Role.{Role}
use Rattle.vq_board_laws.specs.declared.view.Role.TheVariants.{Host, Ring}
use Rattle.vq_board_laws.specs.declared.view.Told.{Told}
use Rattle.vq_board_laws.specs.declared.view.View.{View}
use Rattle.vq_board_laws.specs.Reached.{answer_told}
use Rattle.vq_board_laws.specs.Roles.{role_number, submitter_of}
use Rattle.vq_access_laws.specs.Tests.{shows_reached, saw_values}
use Rattle.vq_access_laws.specs.TrueTasks.{is_done, is_left}

-- the role whose pass an actor steps with: that of a queue without a thread steps with the host's
abbrev pub role_of_actor : Plan → ActorName → Role
role_of_actor p HostActor = Host
role_of_actor p (SubmitActor q) = submitter_of p (QueueLane q)
role_of_actor p (RingActor q) = Ring q

-- the tasks before a place, latest first, and those from it on
abbrev pub tasks_before : Plan → ActorName → Place → List Task
tasks_before p a x = onto (take x.done (program p a)) []

abbrev pub tasks_left : Plan → ActorName → Place → List Task
tasks_left p a x = drop x.done (program p a)

-- the next task of an actor at a place
abbrev pub IsNextAt : Plan → ActorName → Place → Task → Type 0
IsNextAt p a x t = slice_get (program p a) x.done ≡ Some t

-- Each program

-- a pass has done some tasks, and others are left
pub record HasDone (p : Plan) (v : View) (before after : List Task) : Type 0 where
  pub done : list_all (is_done p v) before ≡ true
  pub left : list_all (is_left v) after ≡ true

-- The pass's own actor

-- what the tasks say is run: the job, with how many of its commands and its signals are made
pub record RunsAs (v : View) (running : Option Running) : Type 0 where
  pub job : v.runs ≡ option_map (λ x. x.job) running
  pub counts : (x : Running) → running ≡ Some x → (v.entered ≡ x.commands) × (v.signaled ≡ x.signals)

abbrev pub is_to : ℕ → ℕ → Reference → Bool
is_to q e r = (q == r.point) && (e == r.op)

abbrev pub holds_to : ℕ → ℕ → Holding → Bool
holds_to q e h = (q == h.point) && (e == h.op)

-- a reference is held for one of these needs: to a point that may be, for the operation that resolves the need
abbrev pub is_for : Plan → List Need → Holding → Bool
is_for p ns h =
    nat_lt h.point (length p.ops)
    && option_map_or (λ n. option_map_or (λ e. e == h.op) (resolver p n.chain n.value) false)
    (slice_get ns h.need) false

-- references that stand in the order of their needs, from one need on, no two for the same need
abbrev pub are_rising : ℕ → List Holding → Bool
are_rising k [] = true
are_rising k (h ∷ hs) = nat_le k h.need && are_rising (suc h.need) hs

-- The references of a pass are those that are held for these needs. Where the waiting has ended, one of the needs was
-- shown reached.
pub record HoldsAs (p : Plan) (v : View) (ns : List Need) (x : Place) : Type 0 where
  pub refs : (q e : ℕ) → count_by (is_to q e) v.refs ≡ count_by (holds_to q e) x.holding
  pub count : length v.refs ≡ length x.holding
  pub for_needs : list_all (is_for p ns) x.holding ≡ true
  pub rising : are_rising 0 x.holding ≡ true
  pub met : x.met ≡ true → list_any (shows_reached p v.known) ns ≡ true

-- what is held between waits: nothing; what was seen: what the comparisons read, and nothing where none is answered
pub record IsAtRest (p : Plan) (v : View) (before left : List Task) (x : Place) : Type 0 where
  pub met : is_waiting left ≡ false → x.met ≡ false
  pub saw : is_asking left ≡ true → saw_values p v (compared_now before) x.seen ≡ true
  pub unseen : is_asking left ≡ false → x.seen ≡ []

-- what the pass's own actor says of it, and no other
pub record IsOwn (p : Plan) (v : View) (before left : List Task) (x : Place) : Type 0 where
  pub runs : RunsAs v (runs_after before)
  pub turnless : v.held ≡ None
  pub holds : HoldsAs p v (waited_now left) x
  pub rest : IsAtRest p v before left x

-- All programs of a pass

-- answers to some of these jobs, no two of them to the same job
abbrev pub are_told_once : List ℕ → List Told → Bool
are_told_once jobs [] = true
are_told_once jobs (x ∷ told) =
    has jobs x.job && (not (is_some (answer_told told x.job)) && are_told_once jobs told)

-- The places of a pass's own actor and of those that it serves are true of the pass, which told each host step that
-- asks something one answer at most, and nothing else.
pub record AreTrue (p : Plan) (a : ActorName) (v : View) (places : ActorName → Place) : Type 0 where
  pub role : v.role ≡ role_number p (role_of_actor p a)
  pub told : are_told_once (asking p) v.told ≡ true
  pub own : IsOwn p v (tasks_before p a (places a)) (tasks_left p a (places a)) (places a)
  pub served : (b : ActorName) → Serves p a b →
      HasDone p v (tasks_before p b (places b)) (tasks_left p b (places b))

-- one of the actors went to another place, and the others stand where they stood
pub record Moves (places : ActorName → Place) (b : ActorName) (y : Place) (after : ActorName → Place) : Type 0 where
  pub here : after b ≡ y
  pub others : (c : ActorName) → (c ≡ b → ⊥) → after c ≡ places c
