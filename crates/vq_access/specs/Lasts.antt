-- The last call of an access, and what it leaves for the next. This project's own.
use Rattle.std.specs.Prelude.{ℕ, ◌≡◌, ◌<◌, ◌≤◌, List, Some, length}
use Rattle.std.specs.List.{slice_get}
use Rattle.vq_model.specs.declared.plan.Need.{Need}
use Rattle.vq_model.specs.declared.script.ActorName.{ActorName}
use Rattle.vq_model.specs.Plan.{Plan, resolver}
use Rattle.vq_turns.specs.declared.task.Task.{Task}
use Rattle.vq_turns.specs.declared.task.Task.TheVariants.{AwaitNeeds}
use Rattle.vq_actor.specs.Positions.{needs_of}
use Rattle.vq_turns.specs.Programs.{program}
use Rattle.vq_turns.specs.Turns.{Place}
use Rattle.vq_actor.specs.Meanings.{Recent, Other, Collected, FoundAt}
use Rattle.vq_access.specs.declared.last.Last.{Last}
use Rattle.vq_access.specs.declared.last.Last.TheVariants as last_as

abbrev pub recent_of : Last → Recent
recent_of last_as.Other = Other
recent_of (last_as.Collected t) = Collected t
recent_of (last_as.FoundAt k e q) = FoundAt k e q

-- Where the last call found a pending operation, it resolves the need that was looked for, and its point may be.
pub record IsFound (p : Plan) (a : ActorName) (x : Place) (k e q : ℕ) : Type 0 where
  pub point : q < length p.ops
  pub resolves : (ns : List Need) (n : Need) → slice_get (program p a) x.done ≡ Some (AwaitNeeds ns) →
      slice_get ns k ≡ Some n → resolver p n.chain n.value ≡ Some e

abbrev pub FindsTruly : Plan → ActorName → Place → Recent → Type 0
FindsTruly p a x recent = (k e q : ℕ) → recent ≡ FoundAt k e q → IsFound p a x k e q

-- a task waits for no more needs than there may be references
abbrev pub IsFew : Task → Type 0
IsFew t = needs_of t ≤ 16
