-- All actors of a plan. This project's own.
use Rattle.std.specs.Prelude.{ℕ, ◌≡◌, ◌<◌, ◌-◌, true, List, [], length, filter}
use Rattle.std.specs.List.{slice_index_or, range_with_len}
use Rattle.vq_model.specs.declared.script.ActorName.{ActorName}
use Rattle.vq_model.specs.declared.script.ActorName.TheVariants.{Host as HostActor, Submit as SubmitActor}
use Rattle.vq_model.specs.declared.script.ActorName.TheVariants.{Ring as RingActor}
use Rattle.vq_model.specs.Plan.{Plan}
use Rattle.vq_turns.specs.Programs.{is_deferred_queue}
use Rattle.vq_actor.specs.Actors.{Acting, acting_of}

-- the host, and the submit actor and the ring of each queue
pub record Members : Type 0 where
  pub host : Acting
  pub submits : List Acting
  pub rings : List Acting

-- an actor of no plan, where there is none
abbrev pub no_member : Acting
no_member = record { name = HostActor; tasks = [] }

abbrev pub member_at : List Acting → ℕ → Acting
member_at xs q = slice_index_or xs q no_member

-- the actors of so many queues
pub record AreOf (p : Plan) (name : ℕ → ActorName) (n : ℕ) (xs : List Acting) : Type 0 where
  pub count : length xs ≡ n
  pub each : (q : ℕ) → q < n → member_at xs q ≡ acting_of p (name q)

pub record IsCompanyOf (p : Plan) (c : Members) : Type 0 where
  pub host : c.host ≡ acting_of p HostActor
  pub submits : AreOf p SubmitActor (length p.script.queues) c.submits
  pub rings : AreOf p RingActor (length p.script.queues) c.rings

-- a stage has an actor, and those that a turn of it serves
abbrev pub HasServed : (ActorName → Type 0) → Plan → ActorName → Type 0
HasServed has p HostActor = has HostActor × ((q : ℕ) → is_deferred_queue p q ≡ true → has (SubmitActor q))
HasServed has p other = has other

-- the deferred queues from a number on
abbrev pub deferred_from : Plan → ℕ → List ℕ
deferred_from p k = filter (is_deferred_queue p) (range_with_len k (length p.script.queues - k))
