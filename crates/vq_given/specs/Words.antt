-- What the words of a trace's line say of a plan. The format is this project's own.
use Rattle.std.specs.Prelude.{ℕ, Bool, true, false, List, [], ◌∷◌, ◌==◌, ◌&&◌, ◌||◌, not, codes, find, drop}
use Rattle.std.specs.Prelude.{Option, Some, None, if◌then◌else◌, length}
use Rattle.std.specs.Str.{bytes_eq}
use Rattle.std.specs.Option.{option_map, option_map_or, option_and_then}
use Rattle.std.specs.List.{range_with_len}
use Rattle.vq_model.specs.declared.script.ActorName.{ActorName}
use Rattle.vq_model.specs.declared.script.ActorName.TheVariants.{Host as HostActor, Submit as SubmitActor}
use Rattle.vq_model.specs.declared.script.ActorName.TheVariants.{Ring as RingActor}
use Rattle.vq_model.specs.declared.plan.Lane.{Lane}
use Rattle.vq_model.specs.declared.plan.Lane.TheVariants.{Host as HostLane, Queue as QueueLane}
use Rattle.vq_model.specs.declared.plan.Answer.{Answer as Answered}
use Rattle.vq_model.specs.declared.plan.Answer.TheVariants.{Reached, Timeout, NotReady, Value}
use Rattle.vq_model.specs.declared.plan.Event.{Event}
use Rattle.vq_model.specs.declared.plan.Event.TheVariants.{Submit as Submits, Take as Takes, Release as Releases}
use Rattle.vq_model.specs.declared.plan.Event.TheVariants.{Bind as Binds, Refer as Refers, Look as Looks}
use Rattle.vq_model.specs.declared.plan.Event.TheVariants.{Unref as Unrefs, Complete as Completes, Free as Frees}
use Rattle.vq_model.specs.declared.plan.Event.TheVariants.{Start as Starts, Apply as Applies, Signal as Signals}
use Rattle.vq_model.specs.declared.plan.Event.TheVariants.{Finish as Finishes, Answer as Answers}
use Rattle.vq_model.specs.Plan.{Plan, line_of_job, line_of_command, commands_of, of_job, job_of, chain, value}
use Rattle.vq_ground.specs.Lists.{has}
use Rattle.vq_model.specs.Naming.{semaphore_name, queue_name, same_actor}
use Rattle.vq_model.specs.ValidScripts.{is_threaded_queue}
use Rattle.vq_model.specs.Text.{numeral}
use Rattle.vq_model.specs.Meaning.{small_numeral, is_marked, of_two, of_three}
use Rattle.vq_point_laws.specs.Points.{actor_of_lane}
use Rattle.vq_given.specs.declared.given.TraceTurn.{TraceTurn}
use Rattle.vq_given.specs.declared.given.TraceEnd.{TraceEnd}
use Rattle.vq_given.specs.declared.given.TraceLine.{TraceLine}
use Rattle.vq_given.specs.declared.given.TraceLine.TheVariants.{Blank, Turn, End, Faulty}
use Rattle.vq_given.specs.declared.verb.Verb.{Verb}
use Rattle.vq_given.specs.declared.verb.Verb.TheVariants.{Submit, Take, Release, Bind, Refer, Look, Unref, Complete}
use Rattle.vq_given.specs.declared.verb.Verb.TheVariants.{Free, Start, Apply, Signal, Finish, Answer}

-- Verbs

abbrev pub verb_word : Verb → List ℕ
verb_word Submit = codes "submit"
verb_word Take = codes "take"
verb_word Release = codes "release"
verb_word Bind = codes "bind"
verb_word Refer = codes "refer"
verb_word Look = codes "look"
verb_word Unref = codes "unref"
verb_word Complete = codes "complete"
verb_word Free = codes "free"
verb_word Start = codes "start"
verb_word Apply = codes "apply"
verb_word Signal = codes "signal"
verb_word Finish = codes "finish"
verb_word Answer = codes "answer"

abbrev pub verbs : List Verb
verbs =
    Submit ∷ Take ∷ Release ∷ Bind ∷ Refer ∷ Look ∷ Unref ∷ Complete ∷ Free ∷ Start ∷ Apply ∷ Signal
    ∷ Finish ∷ Answer ∷ []

abbrev pub verb_of : List ℕ → Option Verb
verb_of word = find (λ v. bytes_eq word (verb_word v)) verbs

-- What names and numbers name

-- the queue of a name
abbrev pub queue_named : Plan → List ℕ → Option ℕ
queue_named p name =
    find (λ q. bytes_eq name (queue_name p.script q)) (range_with_len 0 (length p.script.queues))

-- the actor of a word: of each queue there are two
abbrev pub actor_said : Plan → List ℕ → Option ActorName
actor_said p word =
    if bytes_eq word (codes "host") then Some HostActor
    else if is_marked 83 word then option_map (λ q. SubmitActor q) (queue_named p (drop 2 word))
    else if is_marked 82 word then option_map (λ q. RingActor q) (queue_named p (drop 2 word))
    else None

-- the job, and the command, that stands at a line
abbrev pub job_at : Plan → ℕ → Option ℕ
job_at p line = find (λ j. line_of_job p j == line) (range_with_len 0 (length p.jobs))

abbrev pub command_at : Plan → ℕ → Option ℕ
command_at p line = find (λ c. line_of_command p c == line) (range_with_len 0 (length p.commands))

abbrev pub job_said : Plan → List ℕ → Option ℕ
job_said p word = option_and_then (job_at p) (numeral word)

abbrev pub command_said : Plan → List ℕ → Option ℕ
command_said p word = option_and_then (command_at p) (numeral word)

-- the job whose command this is
abbrev pub job_with : Plan → ℕ → Option ℕ
job_with p c = find (λ j. has (commands_of p j) c) (range_with_len 0 (length p.jobs))

-- the semaphore or fence of a name
abbrev pub semaphore_named : Plan → List ℕ → Option ℕ
semaphore_named p name =
    find (λ t. bytes_eq name (semaphore_name p.script t)) (range_with_len 0 (length p.script.semaphores))

-- the signal operation of a chain that sets this value
abbrev pub op_in : Plan → ℕ → ℕ → Option ℕ
op_in p v t = find (λ e. value p e == v) (chain p t)

abbrev pub op_at : Plan → List ℕ → ℕ → Option ℕ
op_at p name v = option_and_then (op_in p v) (semaphore_named p name)

abbrev pub op_said : Plan → List ℕ → List ℕ → Option ℕ
op_said p name word = option_and_then (op_at p name) (numeral word)

-- where a taken point comes from
abbrev pub taken_said : List ℕ → Option Bool
taken_said word =
    if bytes_eq word (codes "fresh") then Some true
    else if bytes_eq word (codes "reused") then Some false
    else None

abbrev pub answer_said : List (List ℕ) → Option Answered
answer_said (word ∷ []) =
    if bytes_eq word (codes "ok") then Some Reached
    else if bytes_eq word (codes "timeout") then Some Timeout
    else if bytes_eq word (codes "not-ready") then Some NotReady
    else None
answer_said (word ∷ number ∷ []) =
    if bytes_eq word (codes "value") then option_map (λ n. Value n) (numeral number) else None
answer_said words = None

-- Events

abbrev pub apply_said : Plan → List ℕ → Option Event
apply_said p word = option_and_then (λ c. option_map (λ j. Applies j c) (job_with p c)) (command_said p word)

-- the event that the words after a verb say, of a line of this actor
abbrev pub event_by : Plan → ActorName → Verb → List (List ℕ) → Option Event
event_by p a Submit (line ∷ []) = option_map (λ j. Submits j) (job_said p line)
event_by p a Take (name ∷ value ∷ taken ∷ point ∷ []) =
    of_three (λ e fresh q. Takes e q fresh) (op_said p name value) (taken_said taken) (small_numeral point)
event_by p a Release (line ∷ []) = option_map (λ j. Releases j) (job_said p line)
event_by p a Bind (name ∷ value ∷ point ∷ []) =
    of_two (λ e q. Binds e q) (op_said p name value) (small_numeral point)
event_by p a Refer (point ∷ name ∷ value ∷ []) =
    of_two (λ q e. Refers a q e) (small_numeral point) (op_said p name value)
event_by p a Look (point ∷ name ∷ value ∷ []) =
    of_two (λ q e. Looks a q e) (small_numeral point) (op_said p name value)
event_by p a Unref (point ∷ name ∷ value ∷ []) =
    of_two (λ q e. Unrefs a q e) (small_numeral point) (op_said p name value)
event_by p a Complete (name ∷ value ∷ []) = option_map (λ e. Completes e) (op_said p name value)
event_by p a Free (point ∷ []) = option_map (λ q. Frees q) (small_numeral point)
event_by p a Start (line ∷ []) = option_map (λ j. Starts j) (job_said p line)
event_by p a Apply (line ∷ []) = apply_said p line
event_by p a Signal (name ∷ value ∷ []) = option_map (λ e. Signals e) (op_said p name value)
event_by p a Finish (line ∷ []) = option_map (λ j. Finishes j) (job_said p line)
event_by p a Answer (line ∷ words) = of_two (λ j answer. Answers j answer) (job_said p line) (answer_said words)
event_by p a verb words = None

-- Who may make an event

-- the host, or a queue's submit actor, that moves a job: takes points for it, releases and binds it
abbrev pub mover : Plan → ℕ → ActorName
mover p j = of_job (λ x. by_lane x.lane) HostActor p j
  where
    by_lane : Lane → ActorName
    by_lane HostLane = HostActor
    by_lane (QueueLane q) = if is_threaded_queue p.script q then SubmitActor q else HostActor

-- the actor in whose lane a job runs
abbrev pub runner : Plan → ℕ → ActorName
runner p j = of_job (λ x. actor_of_lane x.lane) HostActor p j

abbrev pub is_ring : ActorName → Bool
is_ring (RingActor q) = true
is_ring other = false

abbrev pub is_submit_actor : ActorName → Bool
is_submit_actor (SubmitActor q) = true
is_submit_actor other = false

-- whether an actor is that of an operation's job
abbrev pub is_for_op : (Plan → ℕ → ActorName) → Plan → ActorName → ℕ → Bool
is_for_op actor p a e = option_map_or (λ j. same_actor a (actor p j)) (job_of p e) false

-- The host submits; a job is moved by its mover and run by its runner; the host and the rings refer to points and
-- give them back; the host and submit actors complete operations and free points.
abbrev pub may_make : Plan → ActorName → Event → Bool
may_make p a (Submits j) = same_actor a HostActor
may_make p a (Takes e q fresh) = is_for_op mover p a e
may_make p a (Releases j) = same_actor a (mover p j)
may_make p a (Binds e q) = is_for_op mover p a e
may_make p a (Refers b q e) = same_actor a b && not (is_submit_actor a)
may_make p a (Looks b q e) = same_actor a b && not (is_submit_actor a)
may_make p a (Unrefs b q e) = same_actor a b && not (is_submit_actor a)
may_make p a (Completes e) = not (is_ring a)
may_make p a (Frees q) = not (is_ring a)
may_make p a (Starts j) = same_actor a (runner p j)
may_make p a (Applies j c) = same_actor a (runner p j)
may_make p a (Signals e) = is_for_op runner p a e
may_make p a (Finishes j) = same_actor a (runner p j)
may_make p a (Answers j answer) = same_actor a (runner p j)

abbrev pub if_made_by : Plan → ActorName → Event → Option Event
if_made_by p a event = if may_make p a event then Some event else None

abbrev pub event_said : Plan → ActorName → List (List ℕ) → Option Event
event_said p a [] = None
event_said p a (word ∷ words) =
    option_and_then (if_made_by p a) (option_and_then (λ verb. event_by p a verb words) (verb_of word))

-- Lines

-- `-` and `.` say that a turn made no event
abbrev pub is_silent_outcome : List (List ℕ) → Bool
is_silent_outcome (word ∷ []) = bytes_eq word (codes "-") || bytes_eq word (codes ".")
is_silent_outcome words = false

abbrev pub outcome_said : Plan → ActorName → List (List ℕ) → Option (Option Event)
outcome_said p a words =
    if is_silent_outcome words then Some None else option_map (λ event. Some event) (event_said p a words)

-- a turn: a number, an actor, and an outcome
abbrev pub turn_said : Plan → List (List ℕ) → Option TraceTurn
turn_said p (number ∷ actor ∷ words) =
    option_and_then (λ n. option_and_then (λ a. option_map (λ event.
    record { number = n; actor = a; event = event }) (outcome_said p a words)) (actor_said p actor)) (numeral number)
turn_said p words = None

-- the line that ends the turns
abbrev pub end_said : List (List ℕ) → Option TraceEnd
end_said (word ∷ []) =
    if bytes_eq word (codes "finished") then Some (record { finished = true; left = 0 }) else None
end_said (word ∷ number ∷ []) =
    if bytes_eq word (codes "unfinished")
    then option_map (λ n. record { finished = false; left = n }) (small_numeral number) else None
end_said words = None

-- What a line says by its words.
abbrev pub line_said : Plan → List (List ℕ) → TraceLine
line_said p [] = Blank
line_said p (word ∷ words) =
    option_map_or (λ end. End end) (end_said (word ∷ words))
    (option_map_or (λ turn. Turn turn) (turn_said p (word ∷ words)) Faulty)
