-- What a room for the turns of an actor keeps. This project's own.
use Rattle.std.specs.Prelude.{ℕ, ◌≡◌, ◌<◌, true, List, [], ◌++◌, filter, length, Option, Some, None, All}
use Rattle.vq_model.specs.declared.script.ActorName.{ActorName}
use Rattle.vq_model.specs.declared.script.ActorName.TheVariants.{Host as HostActor, Submit as SubmitActor}
use Rattle.vq_model.specs.Plan.{Plan}
use Rattle.vq_turns.specs.declared.outcome.Outcome.{Outcome}
use Rattle.vq_turns.specs.declared.outcome.Outcome.TheVariants.{Blocked}
use Rattle.vq_turns.specs.Programs.{program}
use Rattle.vq_actor.specs.Actors.{events_by}
use Rattle.vq_actor.specs.Meanings.{Meaning, Other}
use Rattle.vq_actor.specs.Stages.{IsPlay, Staged}
use Rattle.vq_actor.specs.Trackers.{FitsIn, Tracked}
use Rattle.vq_board_laws.specs.declared.view.View.{View}
use Rattle.vq_board_laws.specs.Roles.{role_number}
use Rattle.vq_board_laws.specs.Rule.{fresh}
use Rattle.vq_access_laws.specs.AccessMeanings.{answers_told, is_answer, meaning_of}
use Rattle.vq_access_laws.specs.Causes.{Refusals}
use Rattle.vq_access_laws.specs.TruePasses.{AreTrue, role_of_actor}
use Rattle.vq_board.specs.declared.parts.Board.{Board}
use Rattle.vq_board.specs.declared.parts.Pass.{Pass}
use Rattle.vq_board.specs.Named.{view, IsOf}
use Rattle.vq_turns.specs.declared.outcome.Want.{Want}
use Rattle.std.specs.List.{slice_index_or}
use Rattle.vq_turns.specs.Turns.{first_place}
use Rattle.vq_actor.specs.Actors.{Acting}
use Rattle.vq_actor.specs.Companies.{member_at}
use Rattle.vq_access.specs.Lasts.{IsFew}
use Rattle.vq_access.specs.Seatings.{Seating, no_seat, places_of, seat_of}
use Rattle.vq_access.specs.Served.{is_served}
use Rattle.vq_access.specs.Shown.{IsShownBy}

-- a room: whose it is, the pass, the places of the actors that it serves, and the refusals
pub record Room : Type 0 where
  pub owner : ActorName
  pub pass : Pass
  pub seats : Seating
  pub refused : Refusals

-- each actor that the pass serves has room for all its places
abbrev pub FitAll : Plan → ActorName → Seating → Type 0
FitAll p owner s = (b : ActorName) → is_served p owner b ≡ true → FitsIn (program p b) (seat_of owner s b)

-- each waits for no more needs than there may be references
abbrev pub AreFew : Plan → ActorName → Type 0
AreFew p owner = (b : ActorName) → is_served p owner b ≡ true → All IsFew (program p b)

-- the host has a place for the submit actor of each queue
abbrev pub HasQueues : Plan → ActorName → Seating → Type 0
HasQueues p owner s = owner ≡ HostActor → length s.submits ≡ length p.script.queues

-- All places are true of the pass, and there is room for what is left to do.
pub record IsRoom (p : Plan) (owner : ActorName) (v : View) (s : Seating) : Type 0 where
  pub places : AreTrue p owner v (places_of owner s)
  pub fits : FitAll p owner s
  pub few : AreFew p owner
  pub queues : HasQueues p owner s

abbrev pub IsKept : ActorName → Pass → Seating → Type 0
IsKept owner x s = IsRoom (view x).plan owner (view x) s

-- the pass of an actor that has done nothing, but for the host's, off which others were cut
abbrev pub IsIdle : Plan → ActorName → View → Type 0
IsIdle p a v = (n : ℕ) × (v ≡ record (fresh p (role_number p (role_of_actor p a))) { given = n })

-- the queue whose submit actor is served by the host
abbrev pub served_queue : ActorName → ActorName → Option ℕ
served_queue HostActor (SubmitActor q) = Some q
served_queue a b = None

-- one actor of a room, as an access that is lent for its turn serves it
abbrev pub lent : Plan → ActorName → Seating → View → Refusals → ActorName → Meaning
lent p owner s v refusals a = meaning_of [] p a (places_of owner s a) Other v refusals

-- a room, as a stage of turns
abbrev pub staged_of : Plan → ActorName → Seating → View → Refusals → Staged
staged_of p owner s v refusals =
    record {
      plan = p;
      places = places_of owner s;
      state = None;
      noted = is_answer;
      events = answers_told v.told;
      steps = (length v.steps, refusals.count);
    }

-- the answers that were told after a turn
abbrev pub TellsBy : View → View → Outcome → Type 0
TellsBy v w o = answers_told w.told ≡ answers_told v.told ++ filter is_answer (events_by o)

-- Rooms

-- the room's pass is one of the board's
abbrev pub IsRoomOf : Board → Room → Type 0
IsRoomOf b r = IsOf b r.pass

abbrev pub view_of : Room → View
view_of r = view r.pass

abbrev pub staged : Plan → Room → Staged
staged p r = staged_of p r.owner r.seats (view r.pass) r.refused

abbrev pub lent_by : Plan → Room → ActorName → Meaning
lent_by p r a = lent p r.owner r.seats (view r.pass) r.refused a

-- what its record shows of what a turn came to
abbrev pub shown_by : Room → Outcome → ℕ × ℕ → Type 0
shown_by r = IsShownBy r.pass r.refused

-- how far a room's record goes: the steps of its pass, and the refusals of lists
abbrev pub moment_of : Room → ℕ × ℕ
moment_of r = (length (view r.pass).steps, r.refused.count)

-- after a turn that was blocked, the room shows the want since the turn's start
abbrev pub ShowsBlocked : Room → Room → Outcome → Type 0
ShowsBlocked r s o = (want : Want) → o ≡ Blocked want → shown_by s (Blocked want) (moment_of r)

-- A turn of a room's actor, and of those that it serves, as the definition of turns has it of a stage: the answers told
-- are those before, and the one that the turn gave; the places of all others stay; and what it came to, an event or a
-- want, is shown since its start.
abbrev pub IsRoomTurn : Plan → Room → Room → Outcome → Type 0
IsRoomTurn p r s o = IsPlay (staged p r) (staged p s) (shown_by s) r.owner o

-- Seats before the first turns

-- an actor's seat before its first turn
pub record IsFirstOf (p : Plan) (a : ActorName) (x : Tracked) : Type 0 where
  pub place : x.place ≡ first_place
  pub fits : FitsIn (program p a) x

-- the seats of the first n of these actors
pub record AreFirst (actors : List Acting) (n : ℕ) (xs : List Tracked) : Type 0 where
  pub count : length xs ≡ n
  pub places : (q : ℕ) → q < n → (slice_index_or xs q no_seat).place ≡ first_place
  pub fits : (q : ℕ) → q < n → FitsIn (member_at actors q).tasks (slice_index_or xs q no_seat)

-- the places of all that are served
pub record IsFirstSeating (p : Plan) (owner : ActorName) (s : Seating) : Type 0 where
  pub places : (b : ActorName) → is_served p owner b ≡ true → places_of owner s b ≡ first_place
  pub fits : FitAll p owner s
  pub queues : HasQueues p owner s
