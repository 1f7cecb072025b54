-- The words of a trace's lines, one by one as they are read: in a replay's definition an answer stands as one
-- piece of text. The format is this project's own.
use Rattle.std.specs.Prelude.{ℕ, ◌<◌, ◌^◌, ◌≡◌, true, List, [], ◌∷◌, ◌++◌, codes, length}
use Rattle.std.specs.Fmt.{decimal}
use Rattle.vq_model.specs.declared.plan.Answer.{Answer as Answered}
use Rattle.vq_model.specs.declared.plan.Answer.TheVariants.{Reached, Timeout, NotReady, Value}
use Rattle.vq_model.specs.declared.plan.Event.{Event}
use Rattle.vq_model.specs.declared.plan.Event.TheVariants.{Submit, Take, Release, Bind, Refer, Look, Unref, Complete}
use Rattle.vq_model.specs.declared.plan.Event.TheVariants.{Free, Start, Apply, Signal, Finish, Answer}
use Rattle.vq_model.specs.Plan.{Plan, commands_of, line_of_job, line_of_command, value, initial}
use Rattle.vq_ground.specs.Lists.{has}
use Rattle.vq_model.specs.Naming.{actor_word}
use Rattle.vq_model.specs.declared.script.ActorName.{ActorName}
use Rattle.vq_turns.specs.declared.outcome.Outcome.{Outcome}
use Rattle.vq_turns.specs.declared.outcome.Outcome.TheVariants.{Moved, Blocked, Ended}
use Rattle.vq_given.specs.Words.{may_make}
use Rattle.vq_replay.specs.Traces.{op_words, taken_word}

-- The values of a plan's signal operations, and the initial values of its chains, are of 64 bits.
pub record HasSmallValues (p : Plan) : Type 0 where
  pub ops : (e : ℕ) → value p e < 2 ^ 64
  pub initials : (t : ℕ) → initial p t < 2 ^ 64

-- Words

abbrev pub answer_parts : Answered → List (List ℕ)
answer_parts Reached = codes "ok" ∷ []
answer_parts Timeout = codes "timeout" ∷ []
answer_parts NotReady = codes "not-ready" ∷ []
answer_parts (Value n) = codes "value" ∷ decimal n ∷ []

abbrev pub event_parts : Plan → Event → List (List ℕ)
event_parts p (Submit j) = codes "submit" ∷ decimal (line_of_job p j) ∷ []
event_parts p (Take e q fresh) =
    codes "take" ∷ (op_words p e ++ taken_word fresh ∷ decimal q ∷ [])
event_parts p (Release j) = codes "release" ∷ decimal (line_of_job p j) ∷ []
event_parts p (Bind e q) = codes "bind" ∷ (op_words p e ++ decimal q ∷ [])
event_parts p (Refer a q e) = codes "refer" ∷ decimal q ∷ op_words p e
event_parts p (Look a q e) = codes "look" ∷ decimal q ∷ op_words p e
event_parts p (Unref a q e) = codes "unref" ∷ decimal q ∷ op_words p e
event_parts p (Complete e) = codes "complete" ∷ op_words p e
event_parts p (Free q) = codes "free" ∷ decimal q ∷ []
event_parts p (Start j) = codes "start" ∷ decimal (line_of_job p j) ∷ []
event_parts p (Apply j c) = codes "apply" ∷ decimal (line_of_command p c) ∷ []
event_parts p (Signal e) = codes "signal" ∷ op_words p e
event_parts p (Finish j) = codes "finish" ∷ decimal (line_of_job p j) ∷ []
event_parts p (Answer j a) = codes "answer" ∷ decimal (line_of_job p j) ∷ answer_parts a

-- a turn that moves no event is told by one word
abbrev pub outcome_parts : Plan → Outcome → List (List ℕ)
outcome_parts p (Moved event) = event_parts p event
outcome_parts p (Blocked want) = codes "-" ∷ []
outcome_parts p Ended = codes "." ∷ []

-- the words of a turn's line
abbrev pub turn_parts : Plan → ℕ → ActorName → Outcome → List (List ℕ)
turn_parts p number actor outcome = decimal number ∷ actor_word p.script actor ∷ outcome_parts p outcome

-- What an event names

abbrev pub IsSmallAnswer : Answered → Type 0
IsSmallAnswer (Value n) = n < 2 ^ 64
IsSmallAnswer other = Unit {0}

-- an operation that exists, and a point
abbrev pub IsPointed : Plan → ℕ → ℕ → Type 0
IsPointed p e q = (e < length p.ops) × (q < 2 ^ 32)

-- an event names jobs, commands and operations that exist, and numbers that a line can hold
abbrev pub NamesWhatIs : Plan → Event → Type 0
NamesWhatIs p (Submit j) = j < length p.jobs
NamesWhatIs p (Take e q fresh) = IsPointed p e q
NamesWhatIs p (Release j) = j < length p.jobs
NamesWhatIs p (Bind e q) = IsPointed p e q
NamesWhatIs p (Refer a q e) = IsPointed p e q
NamesWhatIs p (Look a q e) = IsPointed p e q
NamesWhatIs p (Unref a q e) = IsPointed p e q
NamesWhatIs p (Complete e) = e < length p.ops
NamesWhatIs p (Free q) = q < 2 ^ 32
NamesWhatIs p (Start j) = j < length p.jobs
NamesWhatIs p (Apply j c) = (j < length p.jobs) × (c < length p.commands) × (has (commands_of p j) c ≡ true)
NamesWhatIs p (Signal e) = e < length p.ops
NamesWhatIs p (Finish j) = j < length p.jobs
NamesWhatIs p (Answer j a) = (j < length p.jobs) × IsSmallAnswer a

-- what a turn of an actor came to can be told: its event is one that the actor may make
abbrev pub CanBeTold : Plan → ActorName → Outcome → Type 0
CanBeTold p a (Moved x) = NamesWhatIs p x × (may_make p a x ≡ true)
CanBeTold p a other = Unit {0}
